use Rattle.std.proofs.Common.{◌≤◌, arith}
use Rattle.std.proofs.lemmas.Result.{on_ok_weaker}
use Rattle.shard_core.specs.Splits.{held}
use Rattle.shard_core.proofs.Spanned.{within_one, deals_one}
use Rattle.shard_core.proofs.span.deal_kept.Goals as goal

pub returns-clause-dealt : goal.returns-clause-dealt
returns-clause-dealt c = λ dealt is.
    let low : c.args.span.first ≤ c.args.number = omega arith in
    let high : c.args.number ≤ c.args.span.last = omega arith in
    let own = within_one c.args.span.bits c.args.span.first c.args.span.last c.args.number c.args.item
    c.requires.number low high in
    on_ok_weaker c.deal_one.result
    (λ new. deals_one c.args.span.bits c.args.number c.args.item dealt _ (held c.args.lists.now)
    (held c.deal_one.new.lists) c.requires.low c.requires.number own is new)
    c.deal_one.ensures.dealt
