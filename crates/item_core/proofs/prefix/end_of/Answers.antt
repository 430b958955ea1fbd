use Rattle.std.proofs.Common.{◌≡◌, ◌∙◌, ◌∷◌, ◌++◌, [], ap, sym, Some, arith}
use Rattle.item_core.specs.Prefixes.{end_of}
use Rattle.item_core.proofs.Prefixes.{end_of_last, end_of_full}
use Rattle.item_core.proofs.prefix.end_of.Goals as goal

pub returns-then-last-lt255 : goal.returns-then-last-lt255
returns-then-last-lt255 c =
    ap Some c.raised.ensures
    ∙ sym (end_of_last c.in-Some.front.now c.in-Some.last.now (omega (arith, c.if-last-lt255.true)))
    ∙ ap end_of (sym c.in-Some.ensures.cases.0) ∙ sym c.loop-last.invariant.0

pub loop-last-preserved : goal.loop-last-preserved
loop-last-preserved c =
    let full : c.in-Some.last.now ≡ 255 = omega (arith, c.if-last-lt255.false) in
    let parts : c.loop-last.rest.now ≡ c.in-Some.front.now ++ 255 ∷ [] =
    c.in-Some.ensures.cases.0 ∙ ap (λ b. c.in-Some.front.now ++ b ∷ []) full in (
      c.loop-last.invariant.0 ∙ ap end_of parts ∙ end_of_full c.in-Some.front.now,
      omega (arith, c.in-Some.ensures.cases.1, c.loop-last.invariant.1),
    )
