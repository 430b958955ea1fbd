use Rattle.std.proofs.Common.{length, arith}
use Rattle.std.proofs.lemmas.List.FromFn.{fill_by_all}
use Rattle.rangesync_c.specs.ShardStates.{told_number}
use Rattle.rangesync_c.proofs.differing.write_told.Goals as goal

pub returns : goal.returns
returns c =
    fill_by_all (told_number c.args.unequal.now) c.loop-number.room (length c.args.room.now) 0
    c.loop-number.invariant.long
    (λ k low. c.loop-number.invariant.told k (omega (arith, low, c.loop-number-test.false)))
