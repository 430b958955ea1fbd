use Rattle.std.proofs.Common.{rules, ◌≡◌, ◌<◌, ◌∙◌, sym, ap, subst, fold, take, length}
use Rattle.std.specs.Prelude.{Err, IfErr, IfSome}
use Rattle.std.proofs.lemmas.List.Sums.{fold_more}
use Rattle.definitions.specs.Histories.{with_item, History, insertion}
use Rattle.version_log.specs.Answers.{insertion_in}
use Rattle.version_log.specs.declared.answer.LogFault.TheVariants.{Full}
use Rattle.version_log.proofs.Once.{added_is, full_is}
use Rattle.version_log.proofs.log.Log.add_all.Goals as goal

pub loop-item-preserved : goal.loop-item-preserved
loop-item-preserved g c =
    let h : History = fold with_item c.args.self.now.history (take c.loop-item.item-index c.args.items.now) in
    let more = fold_more with_item c.args.self.now.history c.args.items.now c.loop-item.item-index c.item-item.result
    c.loop-item-test.true in
    let at = ap (with_item h) (sym c.item-item.is) in
    let added = added_is c.args.self.now.cap c.args.self.now.next_writer h c.item-item.result c.in_ok-_added._added
    (search rules) in
    let told = c.in_ok-_added.ensures.log in
    search (rules, added, told, more, at)

pub returns-in_err-_added-clause-full : goal.returns-in_err-_added-clause-full
returns-in_err-_added-clause-full g c =
    let is : c.from_residual.result ≡ Err c.in_err-_added.field-0.0 = search rules in
    subst (λ r. IfErr r (λ e. e ≡ Full →
    c.args.self.now.cap < length (fold with_item c.args.self.now.history c.args.items.now))) (sym is)
    (λ full. full_is c.args.self.now.cap c.args.self.now.history c.args.items.now c.loop-item.item-index
    c.item-item.result c.loop-item-test.true c.item-item.is
    (let at : c.add.result ≡ Err Full = c.in_err-_added.was ∙ ap Err full in
    let count = c.add.ensures.full at in
    search (rules, count))
    (let at : c.add.result ≡ Err Full = c.in_err-_added.was ∙ ap Err full in
    let told = subst (λ r. IfSome (insertion_in r) (λ o. o ≡ insertion c.loop-item.self.cap c.loop-item.self.history
    c.item-item.result)) at c.add.ensures.answer in
    search (rules, told)))
