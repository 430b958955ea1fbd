-- A file of lines, what it was told and what its device holds.
--     Kept D                     what is seen of a file: its device, how many bytes of whole lines that holds, whether
--                                more may follow them, and the lines that wait
--     IsKept held base told f    the device held base at first, and told is all that was told since: it holds base and
--                                a beginning of told, and what of told is not there in whole lines waits
--     MovesOn old new            some of what waited, in whole lines, went to the device, and the rest waits
--     IsTooLong f                the device can't hold what it has and what waits: 2^64 bytes or more
--     OpensWhole held            of a kept file the next opening sees only whole lines that were told, in order
use Rattle.std.specs.Prelude.{◌≡◌, ℕ, ◌+◌, ◌≤◌, ◌^◌, Bool, false, List, ◌++◌, length, take, drop, Option}
use Rattle.std.specs.Prelude.{Some}
use Rattle.std.specs.List.{AllByRecursion, concat}
use Rattle.io_core.specs.Lines.{AreLines, IsLine, Splits, AreSomeOf}
use Rattle.io_core.specs.Devices.{Holds}

pub record Kept (D : Type 0) : Type 0 where
  pub device : D
  -- the bytes of whole lines that it holds
  pub whole_length : ℕ
  -- more bytes may follow them
  pub is_torn : Bool
  -- told, and not written
  pub waiting : List ℕ

pub record IsKept {D : Type 0} (held : D → Option (List ℕ)) (base told : List ℕ) (f : Kept D) : Type 0 where
  -- what was written in whole lines, and how many bytes of what waits may follow it
  pub written : List ℕ
  pub torn : ℕ
  pub order : told ≡ written ++ f.waiting
  pub whole : AreLines (base ++ written)
  pub size : f.whole_length ≡ length (base ++ written)
  pub within : torn ≤ length f.waiting
  pub clean : f.is_torn ≡ false → torn ≡ 0
  pub holds : Holds (held f.device) (base ++ written ++ take torn f.waiting)

pub record MovesOn {D : Type 0} (old new : Kept D) : Type 0 where
  pub n : ℕ
  pub within : n ≤ length old.waiting
  pub lines : AreLines (take n old.waiting)
  pub waits : new.waiting ≡ drop n old.waiting
  pub size : new.whole_length ≡ old.whole_length + n

abbrev pub IsTooLong : {D : Type 0} → Kept D → Type 0
IsTooLong f = 2 ^ 64 ≤ f.whole_length + length f.waiting

-- what the device holds, cut after its last line feed, is base and some of the lines that were told, and has all that
-- was whole before
abbrev pub OpensWhole : {D : Type 0} → (D → Option (List ℕ)) → Type 0
OpensWhole {D} held = (base : List ℕ) (lines : List (List ℕ)) (f : Kept D) (bytes whole torn : List ℕ)
    → AllByRecursion IsLine lines → AreLines base → IsKept held base (concat lines) f → held f.device ≡ Some bytes
    → Splits bytes whole torn → AreSomeOf base lines whole × (f.whole_length ≤ length whole)
