use Rattle.std.proofs.Common.{arith, ◌≤◌, ◌^◌}
use Rattle.shard_core.proofs.Numbers.{few}
use Rattle.shard_core.proofs.shard.shard_count.Goals as goal

pub returns-clause-few : goal.returns-clause-few
returns-clause-few c = let most : 2 ^ c.args.bits ≤ 4096 = few c.args.bits c.requires in omega (arith, most)
