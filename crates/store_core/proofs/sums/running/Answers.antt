use Rattle.std.proofs.Common.{◌≡◌, ◌+◌, ◌∙◌, ◌++◌, ◌∷◌, [], take, ap, sym}
use Rattle.std.proofs.lemmas.List.{take_more}
use Rattle.definitions.specs.Items.{Item, IsItem}
use Rattle.definitions.proofs.Lemmas.{All-append}
use Rattle.store_core.proofs.Running.{sums-push}
use Rattle.store_core.proofs.sums.running.Goals as goal

pub loop-item-preserved : goal.loop-item-preserved
loop-item-preserved c =
    let i = c.loop-item.item-index in
    let x : Item = c.item-item.result in
    let front = take i c.args.items.now in
    let more : take (i + 1) c.args.items.now ≡ front ++ x ∷ [] =
    take_more c.args.items.now i x c.loop-item-test.true ∙ ap (λ y. front ++ y ∷ []) (sym c.item-item.is) in
    let old = c.loop-item.invariant in
    let step = sums-push front x c.loop-item.total c.of_item.result c.join-total.result c.loop-item.sums.items
    c.push.new.self.items old.total c.of_item.ensures c.join-total.ensures old.sums c.in_ok-push.ensures.items in
    rw more (record {
      are_items = All-append IsItem front (x ∷ []) old.are_items (c.bytes.ensures.item, tt);
      total = step.0;
      sums = step.1;
    })
