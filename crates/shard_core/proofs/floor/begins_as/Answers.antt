use Rattle.std.proofs.Common.{rules}
use Rattle.shard_core.proofs.Forms.{short}
use Rattle.shard_core.proofs.floor.begins_as.Goals as goal

pub returns-then-text-form : goal.returns-then-text-form
returns-then-text-form c = search (rules, short)
