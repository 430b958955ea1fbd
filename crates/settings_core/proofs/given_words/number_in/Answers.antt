use Rattle.std.proofs.Common.{rules, arith, Some, IfSome, subst, ◌<◌, ◌^◌}
use Rattle.clap.specs.Words.{found_of, one_of, rows_of}
use Rattle.settings_core.specs.Calls.{IsNumber}
use Rattle.settings_core.specs.Spans.{IsWithin}
use Rattle.settings_core.proofs.Values.{nothing, number_tried, one_number, small}
use Rattle.settings_core.proofs.given_words.number_in.Goals as goal

pub returns-in_err-number : goal.returns-in_err-number
returns-in_err-number c =
    let refused = (number_tried 32 (found_of c.args.matches.now) c.args.id.now c.try_get_one.result
    c.try_get_one.ensures.none c.try_get_one.ensures.value).1 in
    let fits : c.args.most < 2 ^ 32 = omega arith in
    nothing _ c.from_residual.result c.from_residual.ensures
    (λ x h. let below = small c.args.least c.args.most fits x h.1 in search (rules, refused, h, below))

pub returns-in-Some : goal.returns-in-Some
returns-in-Some c =
    let read = (number_tried 32 (found_of c.args.matches.now) c.args.id.now c.try_get_one.result
    c.try_get_one.ensures.none c.try_get_one.ensures.value).0 in
    let fact : IsNumber c.args.id.now (rows_of (found_of c.args.matches.now)) (Some c.in-Some.count) = search
    (rules, read) in
    λ x h.
    let same = one_number (one_of c.args.id.now (rows_of (found_of c.args.matches.now))) c.in-Some.count x fact
    h.0 in
    let in_span : IsWithin c.args.least c.args.most c.in-Some.count = subst
    (λ o. IfSome o (IsWithin c.args.least c.args.most)) same h.1 in
    search (rules, in_span)

pub returns-in_default : goal.returns-in_default
returns-in_default c =
    let read = (number_tried 32 (found_of c.args.matches.now) c.args.id.now c.try_get_one.result
    c.try_get_one.ensures.none c.try_get_one.ensures.value).0 in
    search (rules, read)

pub returns-in_default-2 : goal.returns-in_default-2
returns-in_default-2 c =
    let read = (number_tried 32 (found_of c.args.matches.now) c.args.id.now c.try_get_one.result
    c.try_get_one.ensures.none c.try_get_one.ensures.value).0 in
    search (rules, read)
