-- How much of what a session taught is put into the log, and what the set forgets.
--     LetsIn most count admitted    of so many items all; where there is a bound, as many as that at most
--     IsNotLower f g                the floor f is not lower than g
--     IsFloorOf rule f              f is a floor of a set that forgets items by this rule
use Rattle.std.specs.Prelude.{◌≡◌, ℕ, false, Option, Some, None, option_map, min}
use Rattle.definitions.specs.Items.{comes_before}
use Rattle.shard_core.specs.declared.floor.Floor.{Floor}
use Rattle.settings_core.specs.declared.floor_words.FloorRule.{FloorRule}

abbrev pub LetsIn : Option ℕ → ℕ → ℕ → Type 0
LetsIn None count admitted = admitted ≡ count
LetsIn (Some most) count admitted = admitted ≡ min count most

-- both have no end and the same times
abbrev pub IsNotLower : Floor → Floor → Type 0
IsNotLower f g = (comes_before f.range.lower g.range.lower ≡ false) × (f.range.upper ≡ None) × (f.time ≡ g.time)

-- all items below the bound are forgotten, and where items have a time, those that have none of its form
abbrev pub IsFloorOf : FloorRule → Floor → Type 0
IsFloorOf rule f = (comes_before f.range.lower rule.not_below ≡ false) × (f.range.upper ≡ None)
    × (f.time ≡ option_map (λ n. n.time) rule.newest)
