use Rattle.std.proofs.Common.{◌∙◌, ap}
use Rattle.std.proofs.lemmas.Result.{IfOk-weaker}
use Rattle.shard_core.specs.Directories.{entries_from}
use Rattle.shard_core.proofs.Entries.{directory_is}
use Rattle.shard_core.proofs.directory.directory_of.Goals as goal

pub returns-clause-directory : goal.returns-clause-directory
returns-clause-directory c = IfOk-weaker c.directory_from.result _ _
    (λ v is. λ b A sums. is ∙ ap (λ ws. entries_from 0 ws) sums ∙ directory_is b A) c.directory_from.ensures.entries
