use Rattle.std.proofs.Common.{rules, arith, codes, subst, Some, None}
use Rattle.clap.specs.Words.{found_of, one_of, rows_of}
use Rattle.settings_core.specs.Spans.{IsWorkerCount}
use Rattle.settings_core.proofs.Values.{kept, nothing, number_got, one_number}
use Rattle.settings_core.proofs.given_words.workers_in.Goals as goal

pub returns-in_err-workers : goal.returns-in_err-workers
returns-in_err-workers c =
    let got = number_got 8 (found_of c.args.matches.now) (codes "workers") None c.in_err-workers.ensures.none
    c.in_err-workers.ensures.value in
    nothing _ c.from_residual.result (search rules) (λ n h. got n (omega (arith, h.1), h.0))

pub returns : goal.returns
returns c =
    let got = number_got 8 (found_of c.args.matches.now) (codes "workers") (Some c.in_ok-workers.workers)
    c.in_ok-workers.ensures.none
    c.in_ok-workers.ensures.value in
    kept _ c.in_ok-workers.workers c.contains.result c.then_some.result c.then_some.ensures
    (λ is. (got.1, search (rules, is)))
    (λ is n h.
    let same = one_number (one_of (codes "workers") (rows_of (found_of c.args.matches.now))) c.in_ok-workers.workers
    (Some n) got.1 h.0 in
    let in_span : IsWorkerCount c.in_ok-workers.workers = subst (λ o. Rattle.std.specs.Prelude.IfSome o IsWorkerCount)
    same h.1 in
    search (rules, is, in_span))
