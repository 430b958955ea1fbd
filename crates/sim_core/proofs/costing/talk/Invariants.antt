use Rattle.std.proofs.Common.{◌≡◌, false}
use Rattle.sim_core.specs.Costs.{HaveSpoken}
use Rattle.sim_core.proofs.costing.talk.Given as goal

abbrev pub invariant-loop : goal.invariant-loop
invariant-loop g l = record {
  spoken : HaveSpoken g.F.WireSummary.summary g.F.WireSummary.profile l.initial.first l.initial.second l.first l.second
      l.turns.items;
  first : l.first.over ≡ false;
  second : l.second.over ≡ false;
}
