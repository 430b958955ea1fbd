use Rattle.session_core.proofs.session.stream_laws.Goals as goal

pub returns : goal.returns
returns g c = record {
  go_on = c.hearings_go_on.ensures g.F.WireSummary.summary;
  agree = c.bytes_agree.ensures g.F.WireSummary.summary g.F.WireSummary.profile;
  join = c.feeds_join.ensures g.F.WireSummary.profile g.met.F.WireSummary.real;
}
