use Rattle.std.proofs.Common.{arith}
use Rattle.item_files.proofs.Counts.{number_of_few}
use Rattle.item_files.proofs.Halves.{bad_is}
use Rattle.item_files.proofs.piece.read_alone.Goals as goal

pub later_line-requires : goal.later_line-requires
later_line-requires c =
    let told = rw c.in-Err-BadItemLine.field-0-is at c.in-Err-BadItemLine.ensures.refused in
    let is = bad_is c.args.start.form c.args.text.now c.in-Err-BadItemLine.bad told in
    let few = number_of_few c.args.start.form c.args.text.now c.in-Err-BadItemLine.bad is in
    omega (arith, few)
