use Rattle.std.proofs.Common.{rules, ◌≡◌, ◌∙◌, sym, ap}
use Rattle.shard_core.specs.Directories.{count_in}
use Rattle.shard_core.proofs.Told.{note_twice, note_good, note_table}
use Rattle.shard_core.proofs.directory.note.Goals as goal

pub returns-then-is_some-clause-bad : goal.returns-then-is_some-clause-bad
returns-then-is_some-clause-bad c = λ seen table.
    let twice = note_twice c.args.bits seen c.args.item.now c.in_ok-number.number c.args.counts.now
    c.in_ok-number.ensures.within c.in_ok-number.ensures.number c.in_ok-number.ensures.good table
    (sym c.is_some.ensures ∙ c.if-is_some.true) in
    search (rules, twice)

pub returns-clause-noted : goal.returns-clause-noted
returns-clause-noted c = λ seen table.
    let count : c.in_ok-number.sum.count ≡ count_in c.args.item.now = ap (λ w. w.count) c.in_ok-number.ensures.sum in
    note_table c.args.bits seen c.args.item.now c.in_ok-number.number c.args.counts.now c.in_ok-number.ensures.within
    c.in_ok-number.ensures.number c.in_ok-number.ensures.good table c.in_ok-number.sum.count count
    (sym c.is_some.ensures ∙ c.if-is_some.false)

pub returns-clause-good : goal.returns-clause-good
returns-clause-good c = λ seen table.
    note_good c.args.bits seen c.args.item.now c.in_ok-number.number c.args.counts.now c.in_ok-number.ensures.within
    c.in_ok-number.ensures.number c.in_ok-number.ensures.good table (sym c.is_some.ensures ∙ c.if-is_some.false)
