use Rattle.std.proofs.Common.{rules, ◌≡◌, sym, subst, Err}
use Rattle.std.specs.Prelude.{IfErr}
use Rattle.item_files.specs.PieceTexts.{IsLastFault}
use Rattle.item_files.proofs.Pieces.{last_done, last_stop}
use Rattle.item_files.proofs.dealing.Dealing.into_lists.Goals as goal

pub returns-in_err-deal_waiting-clause-bad : goal.returns-in_err-deal_waiting-clause-bad
returns-in_err-deal_waiting-clause-bad g c = λ read is.
    let gives : c.from_residual.result ≡ Err c.in_err-deal_waiting.field-0.0 = search rules in
    subst (λ r. IfErr r (λ e. IsLastFault c.args.self.options.form read e)) (sym gives)
    (last_stop c.args.self.options read c.args.self.waiting.items c.args.self.feeds
    c.args.self.lists.items is c.in_err-deal_waiting.field-0.0 c.in_err-deal_waiting.ensures.bad)

pub returns-clause-last : goal.returns-clause-last
returns-clause-last g c = λ read is.
    last_done c.args.self.options read c.args.self.waiting.items c.args.self.feeds
    c.args.self.lists.items is c.in_ok-deal_waiting.ensures.dealt.0 c.deal_waiting.new.self.lists.items
    c.in_ok-deal_waiting.ensures.dealt.1 c.in_ok-deal_waiting.ensures.dealt.2
