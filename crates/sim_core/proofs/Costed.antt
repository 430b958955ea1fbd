-- The cost of a session of two trees, of other values of the same sets, and of a sample.
use Rattle.std.proofs.Common.{◌≡◌, ℕ, ◌+◌, ◌≤◌, List, [], length, refl, subst}
use Rattle.std.specs.Prelude.{Result, Ok, Err, IfOk, OnOk}
use Rattle.std.specs.declared.alloc.AllocError.{AllocError}
use Rattle.definitions.specs.Fingerprints.{Summary}
use Rattle.definitions.specs.Engines.{initiating, responding}
use Rattle.definitions.specs.Items.{Item}
use Rattle.definitions.specs.Ranks.{rank_by}
use Rattle.definitions.specs.Sets.{IsSet}
use Rattle.definitions.specs.Wire.{Profile}
use Rattle.definitions.specs.Worlds.{opened_of}
use Rattle.range_tree.specs.Trees.{tree_items}
use Rattle.range_tree.specs.declared.tree.Tree.{Tree}
use Rattle.session_core.specs.Sessions.{SessionState, Begins, due}
use Rattle.session_core.specs.Pairs.{IsServed, AreJoined, SessionsMeet}
use Rattle.strategy_check.specs.Checked.{Checked}
use Rattle.ends_core.specs.Sides.{peer_of}
use Rattle.sim_core.specs.Costs.{Costs, CostsFrom, CostsSample, HaveSpoken, asked_by, answered_by}
use Rattle.sim_core.specs.declared.costing.Cost.{Cost}
use Rattle.sim_core.specs.Samples.{AreMade}
use Rattle.sim_core.specs.declared.sample.Sample.{Sample}
use Rattle.sim_core.proofs.Turns.{first-trades, second-trades}

pub served : (a : Checked) (t : Tree) → length (tree_items t) ≤ a.table.cap → IsServed a (tree_items t)
served a t room = record { set = t.rises; each = t.are_items; room = room }

module _ {F : Type 0} (S : Summary F) (W : Profile F) where
  -- two sides that had said nothing have nothing more to say
  pub are-joined : (a : Checked) (theirs ours : List Item) (c d e f : SessionState F) (turns : List ℕ) →
      Begins S W a (initiating S (peer_of a ours)) c → Begins S W a (responding S (peer_of a theirs)) d →
      (spoken : HaveSpoken S W c d e f turns) → (due W e.talk ≡ []) × (due W f.talk ≡ []) →
      AreJoined S W (peer_of a ours) (peer_of a theirs) e f (asked_by W spoken.rounds) (answered_by W spoken.rounds)
  are-joined a theirs ours c d e f turns begins begins2 spoken dues = record {
    initiator = first-trades S W c d e f spoken.rounds spoken.talks (initiating S (peer_of a ours)) [] [] refl
        begins.knows;
    responder = second-trades S W c d e f spoken.rounds spoken.talks (responding S (peer_of a theirs)) [] [] refl
        begins2.knows;
    none_due = dues;
  }

  -- so they have ended
  pub costs-of : (a : Checked) (theirs ours : List Item) (c d e f : SessionState F) (turns : List ℕ) (messages : ℕ) →
      SessionsMeet S W a a → IsServed a ours → IsServed a theirs → Begins S W a (initiating S (peer_of a ours)) c →
      Begins S W a (responding S (peer_of a theirs)) d → HaveSpoken S W c d e f turns →
      (due W e.talk ≡ []) × (due W f.talk ≡ []) → messages ≡ e.talk.held.end.sent + f.talk.held.end.sent →
      messages ≤ (opened_of S e.talk.held.steps e.talk.held.end.peer + 2)
      + (rank_by f.talk.held.steps (length f.talk.held.end.peer.items) + 1) →
      Costs S W a theirs ours turns messages
  costs-of a theirs ours c d e f turns messages meet i r begins begins2 spoken dues said few =
      let joined = are-joined a theirs ours c d e f turns begins begins2 spoken dues in
      record {
        first = c;
        second = d;
        last = e;
        end = f;
        begins = (begins, begins2);
        spoken = spoken;
        joined = joined;
        talked = λ k enough. meet ours theirs e f (asked_by W spoken.rounds) (answered_by W spoken.rounds) k i r joined
            enough;
        said = said;
        few = few;
      }

  pub costs-from : (a : Checked) (theirs : List Item) (c d e f : SessionState F) (r : Result Cost AllocError) →
      SessionsMeet S W a a → IsServed a theirs → Begins S W a (responding S (peer_of a theirs)) d →
      IfOk r (λ cost. HaveSpoken S W c d e f cost.turns.items) →
      OnOk r ((due W e.talk ≡ []) × (due W f.talk ≡ [])) →
      IfOk r (λ cost. cost.messages ≡ e.talk.held.end.sent + f.talk.held.end.sent) →
      IfOk r (λ cost. cost.messages ≤ (opened_of S e.talk.held.steps e.talk.held.end.peer + 2)
      + (rank_by f.talk.held.steps (length f.talk.held.end.peer.items) + 1)) →
      IfOk r (λ cost. CostsFrom S W a theirs c cost.turns.items cost.messages)
  costs-from a theirs c d e f (Err error) meet served begins2 spoken dues said few = tt
  costs-from a theirs c d e f (Ok cost) meet served begins2 spoken dues said few = λ ours is begins.
      costs-of a theirs ours c d e f cost.turns.items cost.messages meet is served begins begins2 spoken dues said few

  pub costs-alike : (a : Checked) (theirs ours A B : List Item) (turns : List ℕ) (messages : ℕ) → A ≡ theirs →
      B ≡ ours → Costs S W a A B turns messages → Costs S W a theirs ours turns messages
  costs-alike a theirs ours A B turns messages one two costs =
      subst (λ l. Costs S W a theirs l turns messages) two (subst (λ l. Costs S W a l B turns messages) one costs)

  pub costs-sample : (a : Checked) (sample : Sample) (theirs ours : List Item) (turns : List ℕ) (messages : ℕ) →
      IsSet theirs × IsSet ours → (length theirs ≤ sample.items) × (length ours ≤ sample.items) →
      AreMade sample theirs ours → Costs S W a theirs ours turns messages → CostsSample S W a sample turns messages
  costs-sample a sample theirs ours turns messages sets fit made costs = record {
    theirs = theirs;
    ours = ours;
    sets = sets;
    fit = fit;
    made = made;
    costs = costs;
  }
