use Rattle.ends_core.proofs.bounds.bound_laws.Goals as goal

pub returns : goal.returns
returns g c = record {
  heard = c.heard_are_messages.ensures g.F.WireSummary.profile g.met.F.WireSummary.real;
  rise = c.messages_have_ranges.ensures g.F.WireSummary.profile;
  first_stops = c.initiator_stops.ensures g.F.WireSummary.summary;
  second_stops = c.responder_stops.ensures g.F.WireSummary.summary;
  limits = c.ends_keep_limits.ensures g.F.WireSummary.summary;
  first_learns = c.initiator_learns.ensures g.F.WireSummary.summary;
  second_learns = c.responder_learns.ensures g.F.WireSummary.summary;
  few = c.own_is_few.ensures g.F.WireSummary.summary;
  short = c.own_is_short.ensures g.F.WireSummary.summary;
  read = c.ranks_are_read.ensures;
}
