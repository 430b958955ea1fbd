use Rattle.std.proofs.Common.{rules, ◌<◌, ◌∙◌, ◌∷◌, ◌++◌, [], sym, length}
use Rattle.version_log.proofs.Once.{items_more}
use Rattle.version_log.proofs.log.Log.first_items.Goals as goal

pub loop-place-preserved : goal.loop-place-preserved
loop-place-preserved g c =
    let h = c.args.self.now.history in
    let place = c.loop-place.place in
    let low : place < length h = search rules in
    c.in_ok-push.ensures.items
    ∙ (λ i. c.loop-place.invariant i ++ c.item.ensures i ∷ [])
    ∙ sym (items_more h place c.entry.result low c.entry.ensures)
