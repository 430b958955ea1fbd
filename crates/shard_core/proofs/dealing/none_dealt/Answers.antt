use Rattle.std.proofs.Common.{◌∙◌, refl, []}
use Rattle.std.proofs.lemmas.Result.{IfOk-weaker}
use Rattle.shard_core.proofs.Dealt.{none_dealt}
use Rattle.shard_core.proofs.dealing.none_dealt.Goals as goal

pub returns-clause-none : goal.returns-clause-none
returns-clause-none c = IfOk-weaker c.empty_lists.result _ _
    (λ v is. is ∙ none_dealt c.args.bits c.shard_count.result c.shard_count.ensures.count) c.empty_lists.ensures.none

pub returns-clause-holds : goal.returns-clause-holds
returns-clause-holds c = IfOk-weaker c.empty_lists.result _ _
    (λ v is. λ first last. ([], is ∙ none_dealt c.args.bits c.shard_count.result c.shard_count.ensures.count, refl))
    c.empty_lists.ensures.none
