use Rattle.std.proofs.Common.{arith, length, ap, ◌∙◌}
use Rattle.std.specs.Prelude.{sum_by}
use Rattle.definitions.specs.Wire.{body, short_text}
use Rattle.wire_core.specs.Bodies.{part_of}
use Rattle.wire_core.proofs.Lengths.{length-listing, length-answer}
use Rattle.wire_core.proofs.body.Body.fields_length.Goals as goal

pub returns-in-List-clause-length : goal.returns-in-List-clause-length
returns-in-List-clause-length g c X =
    let P = g.F.WireSummary.profile in
    let is = ap (λ b. length (body P (part_of X b))) c.in-List.is in
    let texts = c.texts_length.ensures.length ∙ ap (sum_by (λ x. length (short_text x))) c.deref.ensures.value in
    omega (arith, is, length-listing P X c.in-List.items.items, texts)

pub returns-in-Answer-clause-length : goal.returns-in-Answer-clause-length
returns-in-Answer-clause-length g c X =
    let P = g.F.WireSummary.profile in
    let is = ap (λ b. length (body P (part_of X b))) c.in-Answer.is in
    let marks = ap length c.bytes.ensures.bytes in
    let texts = c.texts_length-in-Answer.ensures.length
    ∙ ap (sum_by (λ x. length (short_text x))) c.deref-in-Answer.ensures.value in
    omega (arith, is, length-answer P X c.in-Answer.marks c.in-Answer.items.items, marks, texts)
