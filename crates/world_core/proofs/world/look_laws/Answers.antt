use Rattle.world_core.proofs.world.look_laws.Goals as goal

pub returns : goal.returns
returns g c = record {
  exact = g.met.F.WireSummary.exact;
  tell = c.sessions_tell.ensures g.F.WireSummary.summary;
}
