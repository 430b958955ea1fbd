use Rattle.std.proofs.Common.{map, take}
use Rattle.definitions.specs.Sets.{set_of}
use Rattle.shard_core.specs.Splits.{held, HasRoom}
use Rattle.shard_core.proofs.Dealt.{AreSetsTo}
use Rattle.shard_core.proofs.dealing.make_sets.Given as goal

abbrev pub invariant-loop-number : goal.invariant-loop-number
invariant-loop-number l = record {
  sets : AreSetsTo (held l.fn.lists) (held l.lists) l.number;
  room : HasRoom l.cap (map set_of (take l.number (held l.fn.lists)));
}
