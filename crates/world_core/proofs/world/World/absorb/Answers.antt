use Rattle.std.proofs.Common.{◌≡◌, sym, ap, ◌∙◌, arith, ◌<◌, ◌≤◌}
use Rattle.std.specs.Prelude.{slice_get}
use Rattle.definitions.specs.Sets.{set_of}
use Rattle.definitions.specs.Theorems.{node_of}
use Rattle.definitions.specs.Worlds as worlds
use Rattle.world_core.specs.Live.{made, session_of}
use Rattle.world_core.specs.Steps.{did_of, side_of, AbsorbsSome}
use Rattle.world_core.specs.Reports.{knowledge_of}
use Rattle.world_core.specs.Shown.{learned_by}
use Rattle.world_core.proofs.Ended.{absorb_idle, absorb_is, absorbs_none, absorbed_world, absorbed_did, absorbed_memory}
use Rattle.world_core.proofs.Ended.{looked_at, same_theirs, OnErr-any}
use Rattle.world_core.proofs.world.World.absorb.Goals as goal

pub returns-then-session-messages : goal.returns-then-session-messages
returns-then-session-messages g c =
    let there = looked_at c.self.inside.sessions.items c.deref.result.now c.args.number c.in-Some.session.now
    c.deref.ensures.value c.in-Some.ensures.lookup.3.0 c.in-Some.ensures.lookup.1 in
    let more : c.in-Some.session.now.delivered < made c.in-Some.session.now = omega (arith, c.messages.ensures.made) in
    let idle = absorb_idle g.F.WireSummary.summary c.look_laws.ensures c.args.self.now c.self.inside.nodes.items
    c.self.inside.sessions.items c.args.number c.in-Some.session.now (side_of c.args.side) c.self.view_is
    c.self.invariant there more in record {
      world = sym (ap (λ p. p.0) idle);
      did = sym (ap (λ p. p.1) idle);
      memory = tt;
    }

pub returns-in_err-items-clause-memory : goal.returns-in_err-items-clause-memory
returns-in_err-items-clause-memory g c =
    let there = looked_at c.self.inside.sessions.items c.deref.result.now c.args.number c.in-Some.session.now
    c.deref.ensures.value c.in-Some.ensures.lookup.3.0 c.in-Some.ensures.lookup.1 in
    let less : made c.in-Some.session.now ≤ c.in-Some.session.now.delivered = omega (arith, c.messages.ensures.made) in
    OnErr-any c.from_residual.result
    (AbsorbsSome g.F.WireSummary.summary c.args.self.now c.args.number (side_of c.args.side) c.args.self.now)
    (absorbs_none g.F.WireSummary.summary c.look_laws.ensures c.args.self.now c.self.inside.nodes.items
    c.self.inside.sessions.items c.args.number c.in-Some.session.now (side_of c.args.side) c.self.view_is
    c.self.invariant there less)

pub returns : goal.returns
returns g c =
    let there = looked_at c.self.inside.sessions.items c.deref.result.now c.args.number c.in-Some.session.now
    c.deref.ensures.value c.in-Some.ensures.lookup.3.0 c.in-Some.ensures.lookup.1 in
    let less : made c.in-Some.session.now ≤ c.in-Some.session.now.delivered = omega (arith, c.messages.ensures.made) in
    let learned : c.in_ok-items.items.items ≡ set_of (learned_by c.in-Some.session.now (side_of c.args.side)).theirs =
    same_theirs c.in_ok-items.items.items (knowledge_of c.learned.result)
    (learned_by c.in-Some.session.now (side_of c.args.side)) c.in_ok-items.ensures c.learned.ensures in
    let is = absorb_is g.F.WireSummary.summary c.look_laws.ensures c.args.self.now c.self.inside.nodes.items
    c.self.inside.sessions.items c.args.number c.in-Some.session.now (side_of c.args.side) c.in_ok-items.items.items
    c.self.view_is c.self.invariant there less learned in
    let node = node_of (session_of c.in-Some.session.now) (side_of c.args.side) in
    let after = worlds.absorb_at g.F.WireSummary.summary c.args.self.now (side_of c.args.side)
    (slice_get c.args.self.now.sessions c.args.number) in record {
      world = absorbed_world c.absorb_items.result c.args.self.now c.absorb_items.new.self c.node-node.result node
          c.deref-2.result.now c.in_ok-items.items.items after c.absorb_items.ensures.world c.node-node.ensures
          c.deref-2.ensures.value is;
      did = absorbed_did did_of c.absorb_items.result c.args.self.now c.node-node.result node c.deref-2.result.now
          c.in_ok-items.items.items after c.absorb_items.ensures.added c.node-node.ensures c.deref-2.ensures.value is;
      memory = absorbed_memory g.F.WireSummary.summary c.absorb_items.result c.look_laws.ensures c.args.self.now
          c.absorb_items.new.self c.self.inside.nodes.items c.self.inside.sessions.items c.args.number
          c.in-Some.session.now (side_of c.args.side) c.node-node.result c.deref-2.result.now c.self.view_is
          c.self.invariant there less (c.deref-2.ensures.value ∙ learned) c.node-node.ensures
          c.absorb_items.ensures.memory;
    }
