use Rattle.std.proofs.Common.{rules, arith, ◌≡◌, ◌<◌, ◌∙◌, length, ap, sym, subst}
use Rattle.std.specs.Prelude.{Err, IfErr}
use Rattle.definitions.specs.Sets.{set_of}
use Rattle.definitions.specs.Histories.{opening_history}
use Rattle.version_log.specs.declared.answer.LogFault.TheVariants.{Full}
use Rattle.version_log.proofs.Once.{length_opened, opened_on}
use Rattle.version_log.proofs.log.Log.starting_at.Goals as goal

pub at_rest-log-requires-clause-fits : goal.at_rest-log-requires-clause-fits
at_rest-log-requires-clause-fits g c =
    omega (arith, ap length c.in_ok-store.ensures, c.split_at.ensures.front_len, c.rising_front.ensures.most)

pub returns-in_err-add_all-clause-full : goal.returns-in_err-add_all-clause-full
returns-in_err-add_all-clause-full g c =
    let is : c.from_residual-in_err-add_all.result ≡ Err c.in_err-add_all.field-0.0 = search rules in
    let xs = c.args.items.now in
    let opened = ap (λ l. l.history) c.at_rest-log.ensures ∙ ap opening_history c.in_ok-store.ensures in
    let all = opened_on c.rising_front.result xs c.split_at.result.0.now c.split_at.result.1.now
    c.at_rest-log.result.history c.split_at.ensures.front c.split_at.ensures.back opened in
    let cap = ap (λ l. l.cap) c.at_rest-log.ensures in
    subst (λ r. IfErr r (λ e. e ≡ Full → c.args.cap < length (set_of xs))) (sym is)
    (λ full. omega (arith, c.in_err-add_all.ensures.full full, ap length all, length_opened xs, cap))

pub returns-clause-fits : goal.returns-clause-fits
returns-clause-fits g c =
    let xs = c.args.items.now in
    let opened = ap (λ l. l.history) c.at_rest-log.ensures ∙ ap opening_history c.in_ok-store.ensures in
    let all = opened_on c.rising_front.result xs c.split_at.result.0.now c.split_at.result.1.now
    c.at_rest-log.result.history c.split_at.ensures.front c.split_at.ensures.back opened in
    let made = c.in_ok-add_all.ensures.log in
    let cap = ap (λ l. l.cap) made ∙ ap (λ l. l.cap) c.at_rest-log.ensures in
    let history = ap (λ l. length l.history) made in
    omega (arith, c.cap.ensures.log.fits, history, ap length all, length_opened xs, cap)
