use Rattle.std.proofs.Common.{◌≡◌, ◌+◌, ◌-◌, ◌<◌, ◌≤◌, ℕ, true, false, length, get_or}
use Rattle.definitions.specs.Items.{Item, comes_before}
use Rattle.range_tree.proofs.Searches.{left_after}
use Rattle.range_tree.proofs.search.search.Given as goal

abbrev pub decreases-loop-low : goal.decreases-loop-low
decreases-loop-low g l = l.high - l.low

-- those below low come before the item, and those from high on do not
abbrev pub invariant-loop-low : goal.invariant-loop-low
invariant-loop-low g l = record {
  steps : l.steps + (l.high - l.low) ≤ length (g.L.HasItems.leads l.list);
  few : length (g.L.HasItems.leads l.list) ≤ 64 → (l.high - l.low ≤ left_after l.steps) × (l.steps ≤ 7);
  low : l.low ≤ l.high;
  high : l.high ≤ length (g.L.HasItems.leads l.list);
  before : (k : ℕ) (d : Item) → k < l.low → comes_before (get_or (g.L.HasItems.leads l.list) k d) l.item ≡ true;
  after : (k : ℕ) (d : Item) → l.high ≤ k → k < length (g.L.HasItems.leads l.list) →
      comes_before (get_or (g.L.HasItems.leads l.list) k d) l.item ≡ false;
}
