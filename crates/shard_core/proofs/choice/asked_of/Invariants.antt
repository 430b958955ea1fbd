use Rattle.std.proofs.Common.{◌≡◌, ◌++◌, ◌+◌, ◌-◌, ◌≤◌, length}
use Rattle.std.specs.Prelude.{flat_map}
use Rattle.std.specs.List.{range_with_len}
use Rattle.shard_core.specs.Choices.{told, asked_at, chosen, AreBelow, HaveOne}
use Rattle.shard_core.proofs.choice.asked_of.Given as goal

abbrev pub invariant-loop-shard : goal.invariant-loop-shard
invariant-loop-shard l = record {
  so_far : l.asked.items ++ flat_map (asked_at (told l.directories)) (range_with_len l.shard (l.last + 1 - l.shard))
      ≡ chosen (told l.directories) l.first l.last;
  one : HaveOne (told l.directories) l.first l.shard;
  within : AreBelow (length l.directories) l.asked.items;
  low : l.first ≤ l.shard;
}
