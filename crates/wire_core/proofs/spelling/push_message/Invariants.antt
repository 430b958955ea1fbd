use Rattle.std.proofs.Common.{◌≡◌, ◌++◌, take}
use Rattle.std.specs.Prelude.{flat_map}
use Rattle.definitions.specs.Wire.{part_text}
use Rattle.wire_core.proofs.spelling.push_message.Given as goal

abbrev pub invariant-loop-part : goal.invariant-loop-part
invariant-loop-part g l = record {
  same : l.part-items ≡ l.message;
  written : l.out.items
      ≡ l.fn.out.items ++ flat_map (part_text g.F.WireSummary.profile) (take l.part-index l.part-items);
}
