use Rattle.std.proofs.Common.{◌≡◌, refl}
use Rattle.std.specs.Prelude.{slice_get, Some}
use Rattle.std.proofs.lemmas.Option.{slice_get_read}
use Rattle.world_core.specs.Steps.{did_of}
use Rattle.world_core.proofs.Running.{insert_runs, insert_world, insert_did}
use Rattle.world_core.proofs.world.World.insert.Goals as goal

there : (g : _) (c : goal.After-self-2-1 g) → slice_get c.self.inside.nodes.items c.args.node ≡ Some c.in-Some.node.now
there g c =
    slice_get_read c.self.inside.nodes.items _ c.args.node c.in-Some.node.now refl c.in-Some.ensures.item.3.0
    c.in-Some.ensures.value

pub invariant_of-self-2 : goal.invariant_of-self-2
invariant_of-self-2 g c =
    insert_runs g.F.WireSummary.summary (c.sessions_stay.ensures g.F.WireSummary.summary)
    (c.sessions_keep_nodes.ensures g.F.WireSummary.summary) c.insert.result c.self.inside.nodes.items
    c.self.inside.sessions.items c.args.node c.args.item
    c.in-Some.node.now c.insert.new.self (there g c) c.insert.ensures.node c.insert.ensures.refused c.self.invariant

pub returns-clause-world : goal.returns-clause-world
returns-clause-world g c =
    insert_world g.F.WireSummary.summary c.insert.result c.args.self.now c.self.inside.nodes.items
    c.self.inside.sessions.items c.args.node c.args.item
    c.in-Some.node.now c.insert.new.self c.self.view_is (there g c) c.insert.ensures.node

pub returns-clause-did : goal.returns-clause-did
returns-clause-did g c =
    insert_did g.F.WireSummary.summary did_of c.insert.result c.args.self.now c.self.inside.nodes.items
    c.self.inside.sessions.items c.args.node c.args.item
    c.in-Some.node.now c.self.view_is (there g c) c.insert.ensures.did
