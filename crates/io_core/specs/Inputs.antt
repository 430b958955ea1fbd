-- What a reader gave, by the bytes that it has left before and after.
--     WasRead old new failed input      all of them, within the limit
--     ReadsMore, IsTooLong old new      one read; more than the limit
use Rattle.std.specs.Prelude.{◌≡◌, ℕ, ◌<◌, ◌≤◌, Bool, false, List, ◌++◌, length, Option}
use Rattle.std.specs.Io.KnownBytes.{Consumes, IsAtEnd}

abbrev pub max_input : ℕ
max_input = 16777216

-- the reader gave these bytes, which are within the limit, and came to its end without a failure
pub record WasRead (old new : Option (List ℕ)) (failed : Bool) (input : List ℕ) : Type 0 where
  pub read : Consumes old new input
  pub whole : IsAtEnd new
  pub short : length input ≤ max_input
  pub fine : failed ≡ false

-- one read gave n bytes, which stand after what was there; none only at the end
pub record ReadsMore (old new : Option (List ℕ)) (before after : List ℕ) (n : ℕ) : Type 0 where
  pub front : List ℕ
  pub read : Consumes old new front
  pub follows : after ≡ before ++ front
  pub count : length front ≡ n
  pub whole : n ≡ 0 → IsAtEnd new

-- the reader gave more bytes than the limit
abbrev pub IsTooLong : Option (List ℕ) → Option (List ℕ) → Type 0
IsTooLong old new = (front : List ℕ) × Consumes old new front × (max_input < length front)
