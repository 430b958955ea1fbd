use Rattle.std.proofs.Common.{◌≡◌, ◌-◌, [], false, length}
use Rattle.std.specs.Io.KnownBytes.{Keeps}
use Rattle.shard_core.specs.Fronts.{passed_on, ComesOn}
use Rattle.shard_core.proofs.after_selector.AfterSelector.take_front.Given as goal

abbrev pub invariant-front : goal.invariant-front
invariant-front g l = (l.self.whole ≡ false)
    × Keeps (passed_on l.fn.self (g.R.Read.remaining l.fn.self.inner))
    (passed_on l.self (g.R.Read.remaining l.self.inner))
    × ComesOn l.fn.self.came l.self.came (g.R.Read.remaining l.fn.self.inner) (g.R.Read.remaining l.self.inner) []

abbrev pub decreases-front : goal.decreases-front
decreases-front g l = 202 - length l.self.came
