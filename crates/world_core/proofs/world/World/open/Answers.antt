use Rattle.std.proofs.Common.{◌≡◌, refl, sym, ap, ◌∙◌, subst, rules, [], ◌∷◌, ◌++◌, length, arith, ◌<◌}
use Rattle.std.specs.Prelude.{slice_get, Some}
use Rattle.definitions.specs.Worlds.{open_at}
use Rattle.definitions.specs.Worlds as worlds
use Rattle.std.proofs.lemmas.Option.{slice_get_within, slice_get_read}
use Rattle.world_core.specs.Live.{beginning, IsRunning, world_of}
use Rattle.world_core.proofs.Running.{open_runs, open_world}
use Rattle.world_core.proofs.world.World.open.Goals as goal

room_first : (g : _) (c : goal.In_ok-push g) → c.args.initiator < length c.self.inside.nodes.items
room_first g c = omega arith

there : (g : _) (c : goal.In_ok-push g) → slice_get c.self.inside.nodes.items c.args.initiator ≡ Some c.index.result.now
there g c =
    slice_get_read c.self.inside.nodes.items _ c.args.initiator c.index.result.now refl (room_first g c) c.index.ensures

started : (g : _) (c : goal.In_ok-push g) →
    c.in_ok-session.session ≡ beginning g.F.WireSummary.summary c.args.initiator c.args.responder c.index.result.now
started g c = c.in_ok-session.ensures

pushed : (g : _) (c : goal.In_ok-push g) →
    c.push.new.self.items ≡ c.self.inside.sessions.items ++ c.in_ok-session.session ∷ []
pushed g c = c.in_ok-push.ensures.items

room : (g : _) (c : goal.In_ok-push g) → c.args.responder < length c.self.inside.nodes.items
room g c = omega arith

after : (g : _) (c : goal.In_ok-push g) →
    c.push.new.self.items ≡ c.self.inside.sessions.items ++ beginning g.F.WireSummary.summary c.args.initiator
    c.args.responder c.index.result.now ∷ []
after g c = pushed g c ∙ ap (λ l. c.self.inside.sessions.items ++ l ∷ []) (started g c)

pub invariant_of-self-2 : goal.invariant_of-self-2
invariant_of-self-2 g c =
    subst (IsRunning g.F.WireSummary.summary c.self.inside.nodes.items) (sym (after g c))
    (open_runs g.F.WireSummary.summary (c.sessions_open.ensures g.F.WireSummary.summary)
    (c.sessions_keep_nodes.ensures g.F.WireSummary.summary)
    c.self.inside.nodes.items c.self.inside.sessions.items c.args.initiator c.args.responder c.index.result.now
    (there g c)
    c.if-initiator-responder.false (slice_get_within _ _ _ (there g c)) (room g c) c.self.invariant)

opened : (g : _) (c : goal.In_ok-push g) →
    open_at c.args.self.now c.args.initiator c.args.responder (slice_get c.args.self.now.nodes c.args.initiator)
    (slice_get c.args.self.now.nodes c.args.responder)
    ≡ (
      world_of c.self.inside.nodes.items (c.self.inside.sessions.items ++ beginning g.F.WireSummary.summary
          c.args.initiator c.args.responder c.index.result.now ∷ []),
      worlds.Opened (length c.self.inside.sessions.items),
    )
opened g c =
    open_world g.F.WireSummary.summary c.args.self.now c.self.inside.nodes.items c.self.inside.sessions.items
    c.args.initiator c.args.responder c.index.result.now c.self.view_is (there g c) c.if-initiator-responder.false
    (room g c)

pub returns-clause-world : goal.returns-clause-world
returns-clause-world g c = ap (world_of c.self.inside.nodes.items) (after g c) ∙ sym (ap (λ p. p.0) (opened g c))

pub returns-clause-did : goal.returns-clause-did
returns-clause-did g c =
    let count : c.len-number.result ≡ length c.self.inside.sessions.items = search rules in
    ap worlds.Opened count ∙ sym (ap (λ p. p.1) (opened g c))
