use Rattle.world_core.proofs.Runs.{RunLaws, all_hold, has_come, items_of_runs, ends_by}
use Rattle.world_core.proofs.world.World.sessions.Goals as goal

pub returns-clause-hold : goal.returns-clause-hold
returns-clause-hold g c =
    let laws : RunLaws g.F.WireSummary.summary = record {
      exact = g.met.F.WireSummary.exact;
      headline = c.headline.ensures g.F.WireSummary.summary;
      knowledge = c.knowledge_is_sound.ensures g.F.WireSummary.summary;
      begin = c.talks_begin.ensures g.F.WireSummary.summary;
      cost = c.cost_claim.ensures g.F.WireSummary.summary;
      sets = c.set_of_a_list.ensures.set;
    } in
    all_hold g.F.WireSummary.summary laws c.args.self.now c.self.inside.nodes.items c.self.inside.sessions.items
    c.self.view_is c.self.invariant

pub returns-clause-came : goal.returns-clause-came
returns-clause-came g c =
    has_come g.F.WireSummary.summary c.args.self.now c.self.inside.nodes.items c.self.inside.sessions.items
    c.self.view_is c.self.invariant

pub returns-clause-items : goal.returns-clause-items
returns-clause-items g c =
    items_of_runs g.F.WireSummary.summary (c.history_claim.ensures g.F.WireSummary.summary) c.args.self.now

pub returns-clause-ends : goal.returns-clause-ends
returns-clause-ends g c =
    ends_by g.F.WireSummary.summary (c.sessions_end.ensures g.F.WireSummary.summary) g.met.F.WireSummary.exact
    c.args.self.now
    (has_come g.F.WireSummary.summary c.args.self.now c.self.inside.nodes.items c.self.inside.sessions.items
    c.self.view_is c.self.invariant)
