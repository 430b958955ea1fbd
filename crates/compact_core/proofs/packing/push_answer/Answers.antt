use Rattle.std.proofs.Common.{◌≡◌, ◌<◌, ◌^◌, ◌++◌, length, rules, sym, subst}
use Rattle.definitions.specs.Compact.{compact_items, compact_marks}
use Rattle.compact_core.proofs.Texts.{answer_short, marks_short}
use Rattle.compact_core.proofs.packing.push_answer.Goals as goal

pub push_marks-requires : goal.push_marks-requires
push_marks-requires g c =
    marks_short g.F.WireSummary.profile c.args.range.now c.args.marks.now c.args.items.now c.requires

pub push_field-requires : goal.push_field-requires
push_field-requires g c =
    let field : c.push_items.new.out.items
    ≡ compact_marks c.args.marks.now ++ compact_items c.args.range.now.lower c.args.items.now = search rules in
    let short = answer_short g.F.WireSummary.profile c.args.range.now c.args.marks.now c.args.items.now c.requires in
    search (rules, field, short)
