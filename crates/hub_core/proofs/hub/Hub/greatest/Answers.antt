use Rattle.std.proofs.Common.{rules, ◌≡◌, ℕ, [], ◌∷◌, Option, Some, None, sym, ap, ◌∙◌, subst}
use Rattle.slab.specs.Slab.{entries}
use Rattle.hub_core.specs.Hubs.{measured, HubState}
use Rattle.hub_core.specs.Totals.{better_of}
use Rattle.hub_core.proofs.Walks.{Walks, walks-start, walks-step, walks-most, walks-none}
use Rattle.hub_core.proofs.hub.Hub.greatest.Goals as goal

pub loop-key-init : goal.loop-key-init
loop-key-init g c =
    let left : c.into_iter-key-iterator.result ≡ entries c.args.self.now.peers =
    c.into_iter-key-iterator.ensures.into_iter_gives ∙ c.iter-key-items.ensures.rest
    ∙ ap (λ (h : HubState g.row.I.Denot g.row.O.Denot). entries h.peers) c.self.view_is in
    (tt, tt, walks-start (measured c.args.by) c.args.self.now.peers c.into_iter-key-iterator.result left)

pub loop-key-preserved : goal.loop-key-preserved
loop-key-preserved g c =
    let at : c.loop-key.key-iterator ≡ (c.in-Some.key, c.in-Some.peer.now) ∷ c.next.new.self =
    c.in-Some.ensures.steps in
    let best : c.better-best.result ≡ better_of c.loop-key.best c.in-Some.key (measured c.args.by c.in-Some.peer.now) =
    c.better-best.ensures ∙ ap (better_of c.loop-key.best c.in-Some.key) c.measured.ensures in (
      tt,
      tt,
      subst (λ (b : Option (ℕ × ℕ)). Walks (measured c.args.by) c.args.self.now.peers c.next.new.self b) (sym best)
          (walks-step (measured c.args.by) c.args.self.now.peers c.loop-key.key-iterator c.next.new.self c.loop-key.best
          c.in-Some.key c.in-Some.peer.now at c.loop-key.invariant.2),
    )

pub returns-in_err-key-clause-none : goal.returns-in_err-key-clause-none
returns-in_err-key-clause-none g c =
    let is : c.from_residual.result ≡ None = search rules in
    let none : c.loop-key.best ≡ None = search rules in
    let left : c.loop-key.key-iterator ≡ [] = search rules in
    rw is (walks-none (measured c.args.by) c.args.self.now.peers c.loop-key.key-iterator c.loop-key.best left none
    c.loop-key.invariant.2)

pub returns-clause-most : goal.returns-clause-most
returns-clause-most g c =
    let some : c.loop-key.best ≡ Some (c.in_ok-key.key, c.in_ok-key.field-0-1) = search rules in
    let left : c.loop-key.key-iterator ≡ [] = search rules in
    walks-most (measured c.args.by) c.args.self.now.peers c.loop-key.key-iterator c.loop-key.best
    (c.in_ok-key.key, c.in_ok-key.field-0-1) left some c.loop-key.invariant.2
