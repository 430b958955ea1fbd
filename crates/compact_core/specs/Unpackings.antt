-- A reader of what a session reads.
--     UnpackingState R          a reader, the opening, bytes that were read, and those that are ready for the session
--     unpacked_left P u unread  the bytes that are still to come, where those of the reader are known, and are bytes
use Rattle.std.specs.Prelude.{ℕ, Bool, List, ◌++◌, Option, Some, None, nat_lt, if◌then◌else◌}
use Rattle.std.specs.List.{list_all}
use Rattle.definitions.specs.Wire.{Profile}
use Rattle.compact_core.specs.Openings.{OpeningState, opened}

pub record UnpackingState (R : Type 0) : Type 0 where
  pub reader : R
  pub opening : OpeningState
  pub piece : List ℕ
  pub ready : List ℕ

abbrev pub are_bytes : List ℕ → Bool
are_bytes xs = list_all (λ b. nat_lt b 256) xs

abbrev pub left_of : {F : Type 0} → Profile F → OpeningState → List ℕ → List ℕ → Option (List ℕ) → Option (List ℕ)
left_of P s piece ready None = None
left_of P s piece ready (Some bytes) =
    if are_bytes bytes then Some (ready ++ opened P s (piece ++ bytes)) else None

abbrev pub unpacked_left : {F R : Type 0} → Profile F → UnpackingState R → Option (List ℕ) → Option (List ℕ)
unpacked_left P u unread = left_of P u.opening u.piece u.ready unread
