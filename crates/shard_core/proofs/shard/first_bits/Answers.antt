use Rattle.std.proofs.Common.{rules, ◌≡◌, arith}
use Rattle.shard_core.proofs.Numbers.{first_bits}
use Rattle.shard_core.proofs.shard.first_bits.Goals as goal

pub returns-clause-below : goal.returns-clause-below
returns-clause-below c =
    let same : c.from.result ≡ c.args.front = search rules in
    first_bits c.args.bits c.from.result (omega arith) (omega (arith, same))
