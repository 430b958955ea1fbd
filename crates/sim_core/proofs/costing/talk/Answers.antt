use Rattle.std.proofs.Common.{◌≡◌, ◌∙◌, ◌∷◌, [], ap, refl, rules}
use Rattle.session_core.specs.Sessions.{SessionState, due}
use Rattle.sim_core.proofs.Turns.{spoken-more}
use Rattle.sim_core.proofs.costing.talk.Goals as goal

pub loop-init : goal.loop-init
loop-init g c = record {
  spoken = record { rounds = []; talks = (refl, refl); are = c.new-turns.ensures.items };
  first = c.requires.first;
  second = c.requires.second;
}

pub returns-then-answered-eq0-clause-talks : goal.returns-then-answered-eq0-clause-talks
returns-then-answered-eq0-clause-talks g c =
    spoken-more g.F.WireSummary.summary g.F.WireSummary.profile c.args.first.now c.args.second.now c.loop.first
    c.loop.second c.hand_over.new.from c.hand_over.new.to c.hand_over-in-loop.new.to c.hand_over-in-loop.new.from
    c.loop.turns.items _ (c.push_turn-in-loop.new.turns.items) _ _ c.loop.invariant.spoken
    c.in_ok-asked.ensures.takes c.in_ok-asked.ensures.pushes c.in_ok-answered.ensures.takes
    c.in_ok-answered.ensures.pushes c.in_ok-asked.ensures.said c.in_ok-answered.ensures.said
    c.in_ok-push_turn.ensures c.in_ok-push_turn-2.ensures

pub returns-then-answered-eq0-clause-done : goal.returns-then-answered-eq0-clause-done
returns-then-answered-eq0-clause-done g c =
    let zero : c.in_ok-answered.answered ≡ 0 = search rules in (
      ap (λ (x : SessionState g.row.F.Denot). due g.F.WireSummary.profile x.talk) (c.in_ok-answered.ensures.same zero)
          ∙ c.in_ok-asked.ensures.done,
      c.in_ok-answered.ensures.done,
    )

pub loop-preserved : goal.loop-preserved
loop-preserved g c = record {
  spoken = spoken-more g.F.WireSummary.summary g.F.WireSummary.profile c.args.first.now c.args.second.now c.loop.first
      c.loop.second c.hand_over.new.from c.hand_over.new.to c.hand_over-in-loop.new.to c.hand_over-in-loop.new.from
      c.loop.turns.items _ (c.push_turn-in-loop.new.turns.items) _ _ c.loop.invariant.spoken
      c.in_ok-asked.ensures.takes c.in_ok-asked.ensures.pushes c.in_ok-answered.ensures.takes
      c.in_ok-answered.ensures.pushes c.in_ok-asked.ensures.said c.in_ok-answered.ensures.said
      c.in_ok-push_turn.ensures c.in_ok-push_turn-2.ensures;
  first = c.hand_over-in-loop.ensures.to_listens ∙ (c.hand_over.ensures.from_listens ∙ c.loop.invariant.first);
  second = c.hand_over-in-loop.ensures.from_listens ∙ (c.hand_over.ensures.to_listens ∙ c.loop.invariant.second);
}
