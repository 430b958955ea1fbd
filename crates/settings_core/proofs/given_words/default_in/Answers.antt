use Rattle.std.proofs.Common.{rules, arith, subst, Some, None, ◌<◌, ◌^◌}
use Rattle.clap.specs.Words.{found_of, one_of, rows_of}
use Rattle.settings_core.specs.Spans.{IsWithin}
use Rattle.settings_core.proofs.Values.{kept, nothing, number_got, one_number}
use Rattle.settings_core.proofs.given_words.default_in.Goals as goal

pub returns-in_err-number : goal.returns-in_err-number
returns-in_err-number c =
    let got = number_got 32 (found_of c.args.matches.now) c.args.id.now None c.in_err-number.ensures.none
    c.in_err-number.ensures.value in
    let fits : c.args.most < 2 ^ 32 = omega arith in
    nothing _ c.from_residual.result (search rules) (λ n h. got n (omega (arith, h.1, fits), h.0))

pub returns : goal.returns
returns c =
    let got = number_got 32 (found_of c.args.matches.now) c.args.id.now (Some c.in_ok-number.number)
    c.in_ok-number.ensures.none
    c.in_ok-number.ensures.value in
    kept _ c.in_ok-number.number c.contains.result c.then_some.result c.then_some.ensures
    (λ is. (got.1, search (rules, is)))
    (λ is n h.
    let same = one_number (one_of c.args.id.now (rows_of (found_of c.args.matches.now))) c.in_ok-number.number
    (Some n) got.1 h.0 in
    let in_span : IsWithin c.args.least c.args.most c.in_ok-number.number = subst
    (λ o. Rattle.std.specs.Prelude.IfSome o (IsWithin c.args.least c.args.most)) same h.1 in
    search (rules, is, in_span))
