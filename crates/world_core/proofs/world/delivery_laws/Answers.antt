use Rattle.world_core.proofs.world.delivery_laws.Goals as goal

pub returns : goal.returns
returns g c = record {
  look = c.look_laws.ensures;
  go_on = c.sessions_go_on.ensures g.F.WireSummary.summary;
  keep = c.sessions_keep_nodes.ensures g.F.WireSummary.summary;
}
