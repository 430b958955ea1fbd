use Rattle.std.proofs.Common.{◌≡◌, ◌++◌}
use Rattle.range_tree.specs.Nodes.{span}
use Rattle.range_tree.proofs.packed.Packed.push_between.Given as goal

abbrev pub invariant-loop-place : goal.invariant-loop-place
invariant-loop-place l = l.held.items ≡ l.fn.held.items ++ span l.start l.place l.self
