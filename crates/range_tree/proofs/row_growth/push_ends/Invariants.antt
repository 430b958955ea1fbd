use Rattle.std.proofs.Common.{◌≡◌, ◌+◌, ◌-◌, ◌++◌, map, take}
use Rattle.range_tree.proofs.row_growth.push_ends.Given as goal

abbrev pub invariant-loop-end : goal.invariant-loop-end
invariant-loop-end l = l.held.items ≡ l.fn.held.items ++ map (λ e. l.start + (e - l.begun)) (take l.end-index l.ends)
