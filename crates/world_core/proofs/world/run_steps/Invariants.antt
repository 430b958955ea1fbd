use Rattle.std.proofs.Common.{◌≡◌, take, map}
use Rattle.definitions.specs.Worlds as worlds
use Rattle.world_core.specs.Steps.{step_of}
use Rattle.world_core.proofs.world.run_steps.Given as goal

abbrev pub invariant-loop-step : goal.invariant-loop-step
invariant-loop-step g l =
    l.world ≡ worlds.run g.F.WireSummary.summary (worlds.start l.setup) (map step_of (take l.step-index l.steps))
