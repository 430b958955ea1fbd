use Rattle.std.proofs.Common.{◌++◌, sym, ap, ◌∙◌, arith}
use Rattle.definitions.specs.Fingerprints.{two_lanes}
use Rattle.definitions.specs.Worlds.{report}
use Rattle.sim_core.specs.Reports.{shown}
use Rattle.sim_core.proofs.Sims.{lines_more}
use Rattle.sim_core.proofs.reports.reports_text.Goals as goal

pub loop-session-preserved : goal.loop-session-preserved
loop-session-preserved c =
    c.in_ok-push_shown.ensures
    ∙ ap (λ t. t ++ shown c.loop-session.session (report two_lanes c.args.world.now c.loop-session.session))
    c.loop-session.invariant
    ∙ sym (lines_more
    (λ k. shown k (report two_lanes c.args.world.now k)) 0 c.loop-session.session c.loop-session.session (omega arith))
