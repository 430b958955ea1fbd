-- Marks kept eight to a byte.
use Rattle.std.specs.Prelude.{◌≡◌, ℕ, ◌<◌, ◌^◌, List, length}
use Rattle.definitions.specs.Wire.{mark_bytes, mark_bytes_for}
use Rattle.definitions.specs.Reading.{marks_in}

-- the bytes hold so many marks, and no bit more
pub record IsPacked (count : ℕ) (bytes : List ℕ) : Type 0 where
  pub few : count < 2 ^ 32
  pub size : length bytes ≡ mark_bytes_for count
  pub clean : bytes ≡ mark_bytes (marks_in count bytes)
