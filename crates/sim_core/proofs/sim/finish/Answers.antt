use Rattle.std.proofs.Common.{arith, ◌≤◌}
use Rattle.sim_core.specs.declared.sim.TheConstants.{MAX_MESSAGES}
use Rattle.sim_core.proofs.Finishing.{finish_ends}
use Rattle.sim_core.proofs.sim.finish.Goals as goal

pub returns-clause-ended : goal.returns-clause-ended
returns-clause-ended c =
    let enough : 513 ≤ MAX_MESSAGES = omega arith in
    finish_ends c.deliver_often.result c.args.world.now c.deliver_often.new.world c.args.session MAX_MESSAGES
    c.sessions.ensures.ends enough c.deliver_often.ensures
