use Rattle.std.proofs.Common.{refl, sym, ap, arith}
use Rattle.std.proofs.lemmas.Option.{slice_get_read}
use Rattle.world_core.specs.Steps.{did_of}
use Rattle.world_core.proofs.Delivering.{IsAt, is_at, deliver_none, deliver_taken, deliver_runs}
use Rattle.world_core.proofs.Delivering.{deliver_world, deliver_did, deliver_same, deliver_idle, idle_world}
use Rattle.world_core.proofs.world.World.deliver.Goals as goal

pub returns-then-session-messages : goal.returns-then-session-messages
returns-then-session-messages g c =
    let there = slice_get_read c.self.inside.sessions.items _ c.args.number c.in-Some.session.now refl
    c.in-Some.ensures.item.3.0 c.in-Some.ensures.value in record {
      world = idle_world g.F.WireSummary.summary c.delivery_laws.ensures.look c.args.self.now c.self.inside.nodes.items
          c.self.inside.sessions.items c.args.number c.in-Some.session.now c.self.view_is c.self.invariant there
          (omega arith);
      did = sym (ap (λ p. p.1) (deliver_idle g.F.WireSummary.summary
          c.delivery_laws.ensures.look c.args.self.now c.self.inside.nodes.items c.self.inside.sessions.items
          c.args.number c.in-Some.session.now c.self.view_is c.self.invariant there (omega arith)));
      memory = tt;
    }

at : (g : _) (c : goal.After-index g) → IsAt g.F.WireSummary.summary c.self.inside.nodes.items
    c.self.inside.sessions.items c.args.number c.in-Some.session.now c.index.result.now
at g c =
    is_at g.F.WireSummary.summary c.self.inside.nodes.items c.self.inside.sessions.items c.args.number c.messages.result
    c.in-Some.session.now c.index.result.now c.self.invariant c.in-Some.ensures.item.3.0 c.in-Some.ensures.value
    c.messages.ensures.made c.if-session-messages.false c.index.ensures

last_at : (g : _) (c : goal.After-self-2-1 g) →
    IsAt g.F.WireSummary.summary c.self.inside.nodes.items c.self.inside.sessions.items c.args.number
    c.in-Some.session.now c.index.result.now
last_at g c =
    is_at g.F.WireSummary.summary c.self.inside.nodes.items c.self.inside.sessions.items c.args.number c.messages.result
    c.in-Some.session.now c.index.result.now c.self.invariant c.in-Some.ensures.item.3.0 c.in-Some.ensures.value
    c.messages.ensures.made c.if-session-messages.false c.index.ensures

pub deliver-requires-clause-none : goal.deliver-requires-clause-none
deliver-requires-clause-none g c =
    deliver_none g.F.WireSummary.summary c.self.inside.nodes.items c.self.inside.sessions.items c.args.number
    c.in-Some.session.now c.index.result.now (at g c)

pub deliver-requires-clause-taken : goal.deliver-requires-clause-taken
deliver-requires-clause-taken g c =
    deliver_taken g.F.WireSummary.summary c.delivery_laws.ensures c.self.inside.nodes.items
    c.self.inside.sessions.items c.args.number c.in-Some.session.now c.index.result.now (at g c)

pub invariant_of-self-2 : goal.invariant_of-self-2
invariant_of-self-2 g c =
    deliver_runs g.F.WireSummary.summary c.deliver.result c.delivery_laws.ensures c.self.inside.nodes.items
    c.self.inside.sessions.items c.args.number c.in-Some.session.now c.deliver.new.self c.index.result.now (last_at g c)
    c.deliver.ensures.session c.deliver.ensures.memory

pub returns-clause-world : goal.returns-clause-world
returns-clause-world g c =
    deliver_world g.F.WireSummary.summary c.deliver.result c.delivery_laws.ensures c.args.self.now
    c.self.inside.nodes.items
    c.self.inside.sessions.items c.args.number c.in-Some.session.now c.deliver.new.self c.index.result.now
    c.self.view_is (last_at g c) c.deliver.ensures.session

pub returns-clause-did : goal.returns-clause-did
returns-clause-did g c =
    deliver_did g.F.WireSummary.summary did_of c.deliver.result c.delivery_laws.ensures c.args.self.now
    c.self.inside.nodes.items c.self.inside.sessions.items c.args.number c.in-Some.session.now c.index.result.now
    c.self.view_is (last_at g c) c.deliver.ensures.did

pub returns-clause-memory : goal.returns-clause-memory
returns-clause-memory g c =
    deliver_same g.F.WireSummary.summary c.deliver.result c.args.self.now c.self.inside.nodes.items
    c.self.inside.sessions.items c.args.number c.in-Some.session.now c.deliver.new.self c.self.view_is
    (last_at g c).here c.deliver.ensures.memory
