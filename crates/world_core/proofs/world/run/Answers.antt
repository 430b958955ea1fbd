use Rattle.std.proofs.Common.{map}
use Rattle.definitions.proofs.Lemmas.{All-map}
use Rattle.world_core.specs.Steps.{step_of}
use Rattle.world_core.specs.Runs.{Holds, HasFewMessages, IsWithinBound, KeepsLimits, LearnsBoth, LearnsNothingWrong}
use Rattle.world_core.specs.Runs.{HasFewParts}
use Rattle.world_core.proofs.Runs.{spreads_in}
use Rattle.world_core.proofs.world.run.Goals as goal

pub returns : goal.returns
returns g c =
    let S = g.F.WireSummary.summary in
    let w = c.in_ok-world.world in
    let hold = c.sessions.ensures.hold in record {
      world = c.in_ok-world.ensures;
      few = All-map (Holds S w) (HasFewMessages S w) (λ s h. h.few) w.sessions hold;
      bound = All-map (Holds S w) (IsWithinBound S w) (λ s h. h.bound) w.sessions hold;
      short = All-map (Holds S w) (KeepsLimits S w) (λ s h. h.short) w.sessions hold;
      both = All-map (Holds S w) (LearnsBoth S w) (λ s h. h.both) w.sessions hold;
      sound = All-map (Holds S w) (LearnsNothingWrong S w) (λ s h. h.sound) w.sessions hold;
      cost = All-map (Holds S w) (HasFewParts S w) (λ s h. h.cost) w.sessions hold;
      items = c.sessions.ensures.items c.args.setup.now (map step_of c.args.steps.now) c.in_ok-world.ensures;
      spread = spreads_in S (c.spread_claim.ensures S) g.met.F.WireSummary.exact c.args.setup.now
          (map step_of c.args.steps.now) w c.in_ok-world.ensures;
    }
