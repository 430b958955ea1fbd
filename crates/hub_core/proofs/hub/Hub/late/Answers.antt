use Rattle.std.proofs.Common.{rules, ◌≡◌, ◌-◌, true, false, [], ◌∷◌, ap, ◌∙◌}
use Rattle.std.specs.Prelude.{nat_lt, ◌||◌}
use Rattle.slab.specs.Slab.{entries}
use Rattle.hub_core.specs.Hubs.{HubState, is_late}
use Rattle.hub_core.proofs.Walks.{all-listed, rest-listed, first-listed, left-start, left-step, left-none}
use Rattle.hub_core.proofs.Changed.{late-is}
use Rattle.hub_core.proofs.hub.Hub.late.Goals as goal

pub loop-key-init : goal.loop-key-init
loop-key-init g c =
    let left : c.into_iter-key-iterator.result ≡ entries c.args.self.now.peers =
    c.into_iter-key-iterator.ensures.into_iter_gives ∙ c.iter-key-items.ensures.rest
    ∙ ap (λ (h : HubState g.row.I.Denot g.row.O.Denot). entries h.peers) c.self.view_is in (
      tt,
      tt,
      all-listed c.args.self.now.peers c.into_iter-key-iterator.result left,
      left-start (is_late c.args.self.now.limits c.args.now) c.args.self.now.peers c.into_iter-key-iterator.result left,
    )

pub returns-then-is_late-clause-late : goal.returns-then-is_late-clause-late
returns-then-is_late-clause-late g c =
    let at : c.loop-key.key-iterator ≡ (c.in-Some.key, c.in-Some.peer.now) ∷ c.next.new.self =
    c.in-Some.ensures.steps in
    let there = first-listed c.args.self.now.peers c.loop-key.key-iterator c.next.new.self c.in-Some.key
    c.in-Some.peer.now at c.loop-key.invariant.2 in
    let late : true ≡ (nat_lt c.args.self.now.limits.patience (c.args.now - c.heard.result)
    || nat_lt c.args.self.now.limits.session (c.args.now - c.arrived.result)) = search rules in (
      c.in-Some.peer.now,
      there,
      late-is c.args.self.now.limits c.args.now c.in-Some.peer.now c.heard.result c.arrived.result true c.heard.ensures
          c.arrived.ensures late,
    )

pub loop-key-preserved : goal.loop-key-preserved
loop-key-preserved g c =
    let at : c.loop-key.key-iterator ≡ (c.in-Some.key, c.in-Some.peer.now) ∷ c.next.new.self =
    c.in-Some.ensures.steps in
    let early : false ≡ (nat_lt c.args.self.now.limits.patience (c.args.now - c.heard.result)
    || nat_lt c.args.self.now.limits.session (c.args.now - c.arrived.result)) = search rules in
    let not_so = late-is c.args.self.now.limits c.args.now c.in-Some.peer.now c.heard.result c.arrived.result false
    c.heard.ensures c.arrived.ensures early in (
      tt,
      tt,
      rest-listed c.args.self.now.peers c.loop-key.key-iterator c.next.new.self c.in-Some.key c.in-Some.peer.now at
          c.loop-key.invariant.2,
      left-step (is_late c.args.self.now.limits c.args.now) c.args.self.now.peers c.loop-key.key-iterator
          c.next.new.self c.in-Some.key c.in-Some.peer.now at not_so c.loop-key.invariant.3,
    )

pub returns-clause-none : goal.returns-clause-none
returns-clause-none g c =
    let left : c.loop-key.key-iterator ≡ [] = search rules in
    left-none (is_late c.args.self.now.limits c.args.now) c.args.self.now.peers c.loop-key.key-iterator left
    c.loop-key.invariant.3
