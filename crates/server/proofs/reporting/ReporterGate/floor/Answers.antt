use Rattle.std.proofs.Common.{rules, ◌≡◌, ◌∙◌, false, None, option_map}
use Rattle.definitions.specs.Items.{comes_before}
use Rattle.definitions.proofs.Order.{not_before-trans}
use Rattle.server.proofs.reporting.ReporterGate.floor.Goals as goal

pub returns : goal.returns
returns g c = (
  not_before-trans c.raised.result.range.lower c.floor_at-floor.result.range.lower
      c.args.self.now.rules.forgets.now.not_below
      c.raised.ensures.floor.0 c.floor_at-floor.ensures.bound,
  c.raised.ensures.floor.1,
  c.raised.ensures.floor.2 ∙ c.floor_at-floor.ensures.time,
)
