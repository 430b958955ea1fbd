use Rattle.std.proofs.Common.{◌≡◌, ◌-◌, ◌^◌, take, length, min}
use Rattle.std.specs.Prelude.{sum_by}
use Rattle.store_core.proofs.spans.bytes_in.Given as goal

abbrev pub invariant-loop-item : goal.invariant-loop-item
invariant-loop-item l = l.bytes ≡ min (2 ^ 64 - 1) (sum_by length (take l.item-index l.items))
