use Rattle.store_core.proofs.Running.{sum-before}
use Rattle.store_core.proofs.sums.before.Goals as goal

pub returns-in-Some : goal.returns-in-Some
returns-in-Some c A same = sum-before A c.args.sums.now c.args.place c.in-Some.last c.index-sums-last.result same
    c.in-Some.ensures.0 c.in-Some.ensures.1 c.requires c.index-sums-last.is
