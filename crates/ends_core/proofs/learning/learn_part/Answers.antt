use Rattle.std.proofs.Common.{rules, ◌≡◌, Some, sym, ◌∙◌, ap}
use Rattle.std.specs.List.{slice_get}
use Rattle.wire_core.specs.Parts as parts
use Rattle.ends_core.proofs.ByAnswer.{told_by_answer}
use Rattle.ends_core.proofs.learning.learn_part.Goals as goal

pub returns : goal.returns
returns g c = λ A answered.
    let list : parts.items_in c.args.part.now ≡ Some c.in-Some-Some-2.listed.now = search rules in
    let first : slice_get c.args.reply.now 0 ≡ Some c.in-Some-Some-2.answer.now = search rules in
    let marks : parts.marks_in c.in-Some-Some-2.answer.now ≡ Some c.in-Some-Some-3.marks.now = search rules in
    let ours : parts.items_in c.in-Some-Some-2.answer.now ≡ Some c.in-Some-Some-3.ours.now = search rules in
    let told = told_by_answer A c.args.listed.now c.in-Some-Some-2.listed.now c.in-Some-Some-3.ours.now
    c.in-Some-Some-3.marks.now c.args.part.now c.in-Some-Some-2.answer.now c.args.reply.now answered list first marks
    ours in
    search (rules, told)
