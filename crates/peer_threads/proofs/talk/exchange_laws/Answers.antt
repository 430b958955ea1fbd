use Rattle.peer_threads.proofs.talk.exchange_laws.Goals as goal

pub returns : goal.returns
returns g c = record {
  go_on = c.hearings_go_on.ensures g.F.WireSummary.summary;
  begin = c.own_begins.ensures g.F.WireSummary.summary;
  agree = c.bytes_agree.ensures g.F.WireSummary.summary g.F.WireSummary.profile;
}
