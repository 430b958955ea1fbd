use Rattle.std.proofs.Common.{sym, ◌∙◌, arith, take_all, length-take-le}
use Rattle.item_files.proofs.bad_line.Front.of_line.Goals as goal

pub slice_bounds-of-end : goal.slice_bounds-of-end
slice_bounds-of-end c =
    let long = c.if-line-gt-MAX_FRONT.true in omega (arith, length-take-le 164 c.args.line.now (omega arith))

pub of-requires : goal.of-requires
of-requires c =
    let long = c.if-line-gt-MAX_FRONT.true in omega (arith, length-take-le 164 c.args.line.now (omega arith))

pub returns-else-line-gt-MAX_FRONT : goal.returns-else-line-gt-MAX_FRONT
returns-else-line-gt-MAX_FRONT c =
    let short = c.if-line-gt-MAX_FRONT.false in
    c.of-else-line-gt-MAX_FRONT.ensures ∙ sym (take_all 164 c.args.line.now (omega arith))
