use Rattle.std.proofs.Common.{◌≡◌, ◌++◌, ◌<◌, drop, length}
use Rattle.std.specs.Prelude.{IfSome}
use Rattle.shard_core.specs.Choices.{told, found_list, holders_from, holders}
use Rattle.shard_core.proofs.choice.holder.Given as goal

abbrev pub invariant-loop-server : goal.invariant-loop-server
invariant-loop-server l = record {
  so_far : found_list l.found ++ holders_from l.server (drop l.server (told l.directories)) l.shard
      ≡ holders (told l.directories) l.shard;
  within : IfSome l.found (λ j. j < length l.directories);
}
