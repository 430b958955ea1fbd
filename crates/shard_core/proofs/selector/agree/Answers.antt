use Rattle.std.proofs.Common.{rules}
use Rattle.shard_core.proofs.Agreeing.{agree_is}
use Rattle.shard_core.proofs.selector.agree.Goals as goal

pub returns : goal.returns
returns c = search (rules, agree_is)
