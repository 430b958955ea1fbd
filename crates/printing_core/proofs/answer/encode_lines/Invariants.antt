use Rattle.std.proofs.Common.{◌≡◌, take}
use Rattle.std.specs.Prelude.{flat_map}
use Rattle.printing_core.specs.HexLines.{part_line}
use Rattle.printing_core.proofs.answer.encode_lines.Given as goal

abbrev pub invariant-loop-part : goal.invariant-loop-part
invariant-loop-part l = record {
  same : l.part-items ≡ l.message;
  written : l.text.items ≡ flat_map part_line (take l.part-index l.part-items);
}
