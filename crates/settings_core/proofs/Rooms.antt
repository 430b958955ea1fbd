-- How often a room is doubled, step by step.
use Rattle.std.proofs.Common.{◌≡◌, ◌∙◌, sym, refl, rules, false, ◌<◌, ◌≤◌, ◌*◌, ◌+◌, ◌-◌, ℕ, zero, suc, Some, None}
use Rattle.std.proofs.Common.{arith}
use Rattle.std.specs.Prelude.{nat_le}
use Rattle.settings_core.specs.ShardSizes.{doublings, bits_for}

pub more_room : (items room bits more : ℕ) → room < items → 0 < more →
    doublings items room bits more ≡ doublings items (room * 2) (bits + 1) (more - 1)
more_room items room bits zero low some = absurd (omega (arith, some))
more_room items room bits (suc more) low some = grind (arith, low)

pub enough_room : (items room bits more : ℕ) → items ≤ room → Some bits ≡ doublings items room bits more
enough_room items room bits zero high = grind (arith, high)
enough_room items room bits (suc more) high = grind (arith, high)

pub no_room : (items room bits more : ℕ) → room < items → more ≡ 0 → None ≡ doublings items room bits more
no_room items room bits zero low none = grind (arith, low)
no_room items room bits (suc more) low none = absurd (omega (arith, none))

cut : (items : ℕ) → 65536 < items → doublings items 64000 0 12 ≡ bits_for items
cut items above = let no : nat_le items 65536 ≡ false = search (rules, above) in sym (rw no refl)

-- what is found once there is room, and once there is none
pub some_bits : (items room bits more : ℕ) → 65536 < items →
    doublings items 64000 0 12 ≡ doublings items room bits more → items ≤ room → Some bits ≡ bits_for items
some_bits items room bits more above same high =
    enough_room items room bits more high ∙ sym same ∙ cut items above

pub no_bits : (items room bits more : ℕ) → 65536 < items →
    doublings items 64000 0 12 ≡ doublings items room bits more → room < items → more ≡ 0 → None ≡ bits_for items
no_bits items room bits more above same low none = no_room items room bits more low none ∙ sym same ∙ cut items above
