use Rattle.std.proofs.Common.{rules, ◌≡◌, ◌∙◌, ◌+◌, ◌∷◌, ◌++◌, sym, ap, subst, Err, drop, arith, []}
use Rattle.std.specs.Prelude.{IfErr}
use Rattle.item_files.specs.PieceTexts.{IsDealt, IsStopped}
use Rattle.item_files.proofs.Pieces.{read_on, front_is, add_done, add_stop}
use Rattle.item_files.proofs.dealing.Dealing.add.Goals as goal

pub returns-in_default-clause-dealt : goal.returns-in_default-clause-dealt
returns-in_default-clause-dealt g c = λ read is.
    subst (λ w. IsDealt c.args.self.now.options (read ++ c.args.bytes.now) w
    c.args.self.now.feeds c.args.self.now.lists.items) (sym c.in_ok-extend_from_slice.ensures.items)
    (read_on c.args.self.now.options read c.args.self.now.waiting.items
    c.args.self.now.feeds c.args.self.now.lists.items is c.args.bytes.now)

pub returns-in_err-deal_waiting-clause-bad : goal.returns-in_err-deal_waiting-clause-bad
returns-in_err-deal_waiting-clause-bad g c = λ read is.
    let gives : c.from_residual-in_err-deal_waiting.result ≡ Err c.in_err-deal_waiting.field-0.0 = search rules in
    let found = rw c.in-Some.is at c.memrchr.ensures in
    let cut = front_is c.args.bytes.now c.split_at.result.0.now c.split_at.result.1.now c.in-Some.end found.0.high
    found.1 c.split_at.ensures.front c.split_at.ensures.back in
    subst (λ r. IfErr r (λ e. IsStopped c.args.self.now.options.form (read ++ c.args.bytes.now) e)) (sym gives)
    (add_stop c.args.self.now.options read c.args.self.now.waiting.items
    c.args.self.now.feeds c.args.self.now.lists.items is c.args.bytes.now c.split_at.result.0.now
    (drop (c.in-Some.end + 1) c.args.bytes.now) cut.1 c.extend_from_slice-2.new.self.items
    c.in_ok-extend_from_slice-2.ensures.items c.in_err-deal_waiting.field-0.0 c.in_err-deal_waiting.ensures.bad)

pub returns-clause-dealt : goal.returns-clause-dealt
returns-clause-dealt g c = λ read is.
    let found = rw c.in-Some.is at c.memrchr.ensures in
    let cut = front_is c.args.bytes.now c.split_at.result.0.now c.split_at.result.1.now c.in-Some.end found.0.high
    found.1 c.split_at.ensures.front c.split_at.ensures.back in
    let waits : c.extend_from_slice-3.new.self.items ≡ 10 ∷ drop (c.in-Some.end + 1) c.args.bytes.now =
    c.in_ok-extend_from_slice-3.ensures.items ∙ ap (λ w. w ++ c.split_at.result.1.now) c.clear.ensures.items ∙ cut.0 in
    add_done c.args.self.now.options read c.args.self.now.waiting.items
    c.args.self.now.feeds c.args.self.now.lists.items is c.args.bytes.now c.split_at.result.0.now
    (drop (c.in-Some.end + 1) c.args.bytes.now) cut.1 c.extend_from_slice-2.new.self.items
    c.in_ok-extend_from_slice-2.ensures.items c.in_ok-deal_waiting.ensures.dealt.0
    c.deal_waiting.new.self.lists.items c.deal_waiting.new.self.feeds c.extend_from_slice-3.new.self.items
    c.in_ok-deal_waiting.ensures.dealt.1 c.in_ok-deal_waiting.ensures.dealt.2 c.in_ok-deal_waiting.ensures.feeds waits
