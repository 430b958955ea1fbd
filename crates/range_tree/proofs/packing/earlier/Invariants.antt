use Rattle.std.proofs.Common.{◌≡◌, ◌-◌, map, take}
use Rattle.range_tree.proofs.packing.earlier.Given as goal

abbrev pub invariant-loop-end : goal.invariant-loop-end
invariant-loop-end l = l.held.items ≡ map (λ e. e - l.bytes) (take l.end-index l.ends)
