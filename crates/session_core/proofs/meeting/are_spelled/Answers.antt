use Rattle.session_core.proofs.meeting.are_spelled.Goals as goal

pub returns : goal.returns
returns g c = record {
  exact = g.met.F.WireSummary.exact;
  real = g.met.F.WireSummary.real;
  spelled = λ A. g.met.F.WireSummary.spelled (g.F.WireSummary.summary.of A) (g.met.F.WireSummary.of_is_value A);
}
