-- A peer before its session is opened.
--     GreetingState                 the bytes that came, how many of our hello were written, whether the input is over
--     is_counted came, is_compact came      it began with the hello of profile 2, of the compact profile
--     own_hello came                the hello that is written to it
--     told g                        the bytes of it that were written
--     Greets g h unread left held holds read said lost      these bytes were read and kept, these were written, and
--                                                           lost were read and not kept
use Rattle.std.specs.Prelude.{◌≡◌, ℕ, ◌<◌, ◌≤◌, Bool, List, ◌++◌, length, take, Option, bytes_eq, if◌then◌else◌}
use Rattle.std.specs.Io.KnownBytes.{Consumes, Appends}
use Rattle.definitions.specs.Wire.{two_lane_profile, counted_profile, compact_profile}

pub record GreetingState : Type 0 where
  pub came : List ℕ
  pub said : ℕ
  pub over : Bool

-- our hello is written once four bytes have come, and has four bytes
pub record IsGreeting (g : GreetingState) : Type 0 where
  pub few : g.said ≤ 4
  pub after : 0 < g.said → 4 ≤ length g.came

abbrev pub is_counted : List ℕ → Bool
is_counted came = bytes_eq (take 4 came) counted_profile.hello

abbrev pub is_compact : List ℕ → Bool
is_compact came = bytes_eq (take 4 came) compact_profile.hello

abbrev pub own_hello : List ℕ → List ℕ
own_hello came =
    if is_counted came then counted_profile.hello
    else if is_compact came then compact_profile.hello
    else two_lane_profile.hello

abbrev pub told : GreetingState → List ℕ
told g = take g.said (own_hello g.came)

pub record Greets (g h : GreetingState) (unread left held holds : Option (List ℕ)) (read said lost : List ℕ) :
    Type 0 where
  pub consumed : Consumes unread left (read ++ lost)
  pub appended : Appends held holds said
  pub came : h.came ≡ g.came ++ read
  pub writes : told h ≡ told g ++ said
