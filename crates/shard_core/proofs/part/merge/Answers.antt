use Rattle.shard_core.proofs.Sums.{rises_in, nothing_wrong_in, asked_in, adds_up_in}
use Rattle.shard_core.proofs.part.merge.Goals as goal

pub returns-clause-rises : goal.returns-clause-rises
returns-clause-rises c = rises_in c.args.parts.now c.gathered.result c.gathered.ensures.ours c.gathered.ensures.theirs

pub returns-clause-nothing_wrong : goal.returns-clause-nothing_wrong
returns-clause-nothing_wrong c =
    nothing_wrong_in c.args.parts.now c.gathered.result c.gathered.ensures.ours c.gathered.ensures.theirs

pub returns-clause-asked : goal.returns-clause-asked
returns-clause-asked c = asked_in c.args.parts.now c.gathered.result c.gathered.ensures.ours c.gathered.ensures.theirs

pub returns-clause-adds_up : goal.returns-clause-adds_up
returns-clause-adds_up c =
    adds_up_in c.args.parts.now c.gathered.result c.gathered.ensures.ours c.gathered.ensures.theirs
