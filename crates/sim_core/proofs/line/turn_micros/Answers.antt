use Rattle.std.proofs.Common.{rules, ◌≡◌, ◌∙◌, false}
use Rattle.sim_core.specs.Lines.{ends_turn, turn_micros, waits}
use Rattle.sim_core.proofs.Windows.{turn-ends}
use Rattle.sim_core.proofs.line.turn_micros.Goals as goal

pub returns-clause-micros : goal.returns-clause-micros
returns-clause-micros c =
    let line = c.args.line in
    let window = c.windows.window in
    let left = c.windows.left in
    let all = turn_micros line c.args.first c.args.bytes in
    let stops : waits line window left ≡ false = search rules in
    let made : (c.saturating_add.result, window) ≡ ends_turn line window left c.windows.micros = search rules in
    made ∙ turn-ends line c.windows.invariant.so_far.0 window left c.windows.micros all stops
    c.windows.invariant.so_far.2
