use Rattle.std.proofs.Common.{◌≡◌, ◌∙◌, ◌++◌, ap, get_or, arith, length}
use Rattle.std.proofs.lemmas.List.{length-map}
use Rattle.shard_core.specs.Splits.{held}
use Rattle.shard_core.proofs.Joins.{join_more, read_list, listed}
use Rattle.shard_core.proofs.joining.append_each.Goals as goal

pub loop-place-preserved : goal.loop-place-preserved
loop-place-preserved c =
    let many : length (held c.args.lists.now) ≡ length c.args.lists.now = length-map c.args.lists.now listed in
    let others : length (held c.args.more.now) ≡ length c.args.more.now = length-map c.args.more.now listed in
    join_more (held c.args.lists.now) (held c.args.more.now) c.loop-place.lists c.loop-place.place
    c.index-lists-place.result c.append_items.new.items c.index-more-place.result.items (omega (arith, many))
    (omega (arith, others)) c.loop-place.invariant
    (c.in_ok-append_items.ensures
    ∙ ap (λ m. (get_or c.loop-place.lists c.loop-place.place c.index-lists-place.result).items ++ m)
    c.deref.ensures.value)
    (read_list c.args.more.now c.loop-place.place c.index-more-place.result (omega arith) c.index-more-place.is)
