use Rattle.std.proofs.Common.{◌≡◌, take}
use Rattle.wire_core.proofs.message.Message.copy.Given as goal

abbrev pub invariant-loop-part : goal.invariant-loop-part
invariant-loop-part g l = record {
  same : l.part-items ≡ l.self;
  copied : l.parts.items ≡ take l.part-index l.part-items;
}
