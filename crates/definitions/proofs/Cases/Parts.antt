-- Items, ranges and parts that are made: at the edges of what may be made.
use Rattle.std.specs.Prelude.{◌≡◌, ℕ, zero, suc, [], Some, None, refl, codes, replicate}
use Rattle.std.proofs.Common.{arith}
use Rattle.definitions.specs.Items.{IsBytes, IsItem, Rises, whole}
use Rattle.definitions.specs.Messages.{Listing}
use Rattle.definitions.specs.Wire.{two_lane_profile}
use Rattle.definitions.specs.Faults.{part_fault}
use Rattle.definitions.proofs.Cases.Examples.{letters, below, from_to}

pub no_bytes : IsItem [] → ⊥
no_bytes x = let e = x.not_empty in omega arith

zeros_are_bytes : (n : ℕ) → IsBytes (replicate n 0)
zeros_are_bytes zero = tt
zeros_are_bytes (suc n) = (omega arith, zeros_are_bytes n)

pub sixty_four_bytes : IsItem (replicate 64 0)
sixty_four_bytes = record { not_empty = omega arith; not_long = omega arith; bytes = zeros_are_bytes 64 }

pub sixty_five_bytes : IsItem (replicate 65 0) → ⊥
sixty_five_bytes x = let e = x.not_long in omega arith

pub from_b_to_b : Rises (from_to (codes "b") (codes "b")) → ⊥
from_b_to_b x = absurd cc

pub listed_items_that_fall : part_fault two_lane_profile (Listing whole (letters (codes "ba"))) ≡ Some 8
listed_items_that_fall = refl

pub listed_items_that_repeat : part_fault two_lane_profile (Listing whole (letters (codes "aa"))) ≡ Some 8
listed_items_that_repeat = refl

pub a_listed_item_outside : part_fault two_lane_profile (Listing (below (codes "b")) (letters (codes "b"))) ≡ Some 9
a_listed_item_outside = refl

pub a_listed_item_inside : part_fault two_lane_profile (Listing (below (codes "b")) (letters (codes "a"))) ≡ None
a_listed_item_inside = refl
