use Rattle.std.proofs.Common.{◌≡◌, ◌*◌, take, drop}
use Rattle.std.specs.Prelude.{map}
use Rattle.std.specs.List.{range_with_len}
use Rattle.definitions.specs.Wire.{mark_byte}
use Rattle.wire_core.proofs.marks.packed.Given as goal

abbrev pub invariant-loop-index : goal.invariant-loop-index
invariant-loop-index l = l.bytes.items ≡ map (λ j. mark_byte (take 8 (drop (8 * j) l.marks))) (range_with_len 0 l.index)
