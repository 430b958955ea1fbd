use Rattle.std.proofs.Common.{◌≡◌, ◌∙◌, ◌++◌, ap, sym, length}
use Rattle.std.proofs.lemmas.List.{with_items_is}
use Rattle.std.proofs.lemmas.Result.{on_ok_weaker}
use Rattle.shard_core.specs.Splits.{held}
use Rattle.shard_core.specs.Spans.{kept}
use Rattle.shard_core.proofs.Spanned.{kept_more}
use Rattle.shard_core.proofs.span.deal_span.Goals as goal

pub returns-clause-dealt : goal.returns-clause-dealt
returns-clause-dealt c = λ xs (dealt, lists, same).
    let long : length c.deal_each.new.lists ≡ c.args.lists.now.len =
    c.deal_each.ensures.all ∙ ap length c.deref_mut.ensures.value ∙ sym c.args.lists.now.ok.0 in
    on_ok_weaker c.deal_each.result
    (λ more. (
      dealt ++ kept c.args.span.bits c.args.span.first c.args.span.last c.args.items.now,
      ap held (with_items_is c.args.lists.now c.deal_each.new.lists long) ∙ more,
      kept_more c.args.span.bits c.args.span.first c.args.span.last dealt xs c.args.items.now same,
    ))
    (c.deal_each.ensures.dealt dealt (ap held c.deref_mut.ensures.value ∙ lists))
