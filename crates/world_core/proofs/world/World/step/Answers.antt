use Rattle.world_core.specs.Steps.{step_of}
use Rattle.world_core.proofs.Runs.{absorbs_by}
use Rattle.world_core.proofs.world.World.step.Goals as goal

pub returns-clause-absorbed : goal.returns-clause-absorbed
returns-clause-absorbed g c =
    absorbs_by g.F.WireSummary.summary c.do_step.result (c.absorb_claim.ensures g.F.WireSummary.summary)
    g.met.F.WireSummary.exact c.args.self.now c.do_step.new.self (step_of c.args.step) c.do_step.ensures.world
