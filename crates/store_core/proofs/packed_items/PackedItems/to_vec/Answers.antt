use Rattle.std.proofs.Common.{arith, ◌<◌, ◌≤◌, ◌∙◌, ◌∷◌, ◌++◌, [], sym, length, take_all}
use Rattle.store_core.proofs.Packs.{taken_more}
use Rattle.store_core.proofs.packed_items.PackedItems.to_vec.Goals as goal

pub loop-place-preserved : goal.loop-place-preserved
loop-place-preserved c =
    let xs = c.args.self.now in
    let place = c.loop-place.place in
    let low : place < length xs = omega arith in
    c.in_ok-push.ensures.items
    ∙ (λ i. c.loop-place.invariant i ++ c.item.result ∷ [])
    ∙ sym (taken_more xs place c.item.result low c.item.ensures)

pub returns : goal.returns
returns c =
    let xs = c.args.self.now in
    let past : length xs ≤ c.loop-place.place = omega arith in
    c.loop-place.invariant ∙ take_all c.loop-place.place xs past
