-- How many peers each origin has.
--     Counts                    each origin that has peers, in order, and how many it has
--     count_in counts origin    how many this one has
--     more, fewer               of this one there is one more, or one less
--     most_in counts            the first of the origins that have most
use Rattle.std.specs.Prelude.{ℕ, ◌+◌, ◌-◌, ◌^◌, min, List, [], ◌∷◌, Option, None, option_map, unwrap_or}
use Rattle.std.specs.Prelude.{nat_le, if◌then◌else◌}
use Rattle.std.specs.Ordering.{nat_cmp}
use Rattle.std.specs.Map.{lookup, remove_entry}
use Rattle.std.specs.BTreeMap.{insert_entry, is_at}
use Rattle.hub_core.specs.Totals.{better_of}

abbrev pub Counts : Type 0
Counts = List (ℕ × ℕ)

abbrev pub count_in : Counts → ℕ → ℕ
count_in counts origin = unwrap_or (lookup (is_at (nat_cmp origin)) counts) 0

-- a count stops at the greatest number of 64 bits
abbrev pub more : Counts → ℕ → Counts
more counts origin = insert_entry nat_cmp counts origin (min (count_in counts origin + 1) (2 ^ 64 - 1))

-- the last one takes the origin out
abbrev pub fewer : Counts → ℕ → Counts
fewer counts origin = if nat_le (count_in counts origin) 1 then remove_entry (is_at (nat_cmp origin)) counts
    else insert_entry nat_cmp counts origin (count_in counts origin - 1)

abbrev pub most_of : Option (ℕ × ℕ) → Counts → Option (ℕ × ℕ)
most_of best [] = best
most_of best (c ∷ counts) = most_of (better_of best c.0 c.1) counts

abbrev pub most_in : Counts → Option ℕ
most_in counts = option_map (λ (c : ℕ × ℕ). c.0) (most_of None counts)
