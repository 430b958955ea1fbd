-- Two sessions that have nothing due and were pushed what was taken of each other are two sides that got all that the
-- other wrote: what was taken is all that is said to the bytes pushed, and the frame of a refusal. By the law of two
-- such sides both are over; so both sessions have ended, with the ends that the bytes make.
use Rattle.std.proofs.Common.{◌≡◌, ℕ, ◌<◌, ◌≤◌, List, [], ◌++◌, length, slice_index, refl, sym, ap, ◌∙◌, subst}
use Rattle.std.proofs.Common.{append-nil}
use Rattle.definitions.specs.Fingerprints.{Summary}
use Rattle.definitions.specs.Items.{Item}
use Rattle.definitions.specs.Ranks.{ranks_by, rank_by}
use Rattle.definitions.specs.Replies.{Peer}
use Rattle.definitions.specs.Talks.{talk}
use Rattle.definitions.specs.Wire.{Profile, session_text}
use Rattle.definitions.specs.Ends.{End}
use Rattle.definitions.specs.Engines.{Speaker, initiating, responding}
use Rattle.definitions.specs.Hearing.{Goes_on, Over_at, Peer_refused, Refused_for, first_fault}
use Rattle.definitions.specs.Theorems.{opened}
use Rattle.definitions.specs.Worlds.{message_bound, opened_of}
use Rattle.laws.proofs.Openings.{opened_is}
use Rattle.laws.specs.Meeting.{AreSpelled, IsPeer, HaveMet, TwoSessionsMeet, refusal_text, written_to}
use Rattle.strategy_check.specs.Checked.{Checked, IsChecked}
use Rattle.ends_core.specs.EndStates.{EndState}
use Rattle.ends_core.specs.Sides.{peer_of, said_to, session_at}
use Rattle.session_core.specs.Sessions.{SessionState, Tells, due, frame_of, hearing_at}
use Rattle.session_core.specs.Pairs.{IsServed, AreJoined, HasEnded, HaveTalked, SessionsMeet}
use Rattle.session_core.specs.declared.state.State.{State}
use Rattle.session_core.specs.declared.state.State.TheVariants as states

module _ {F : Type 0} (S : Summary F) (W : Profile F) where
  -- the frame of a state is that of its hearing
  frame-heard : (s : State) (h : EndState F) → frame_of s ≡ refusal_text (first_fault (hearing_at s h))
  frame-heard states.Open h = refl
  frame-heard states.Ended h = refl
  frame-heard (states.Refused code) h = refl
  frame-heard (states.PeerRefused code) h = refl

  -- what was taken of a session with nothing due is all that its side writes
  written : (s : Speaker F) (c : SessionState F) (pushed taken : List ℕ) → Tells S W s c pushed taken →
      due W c.talk ≡ [] → taken ≡ written_to S W s c.over pushed
  written s c pushed taken tells none =
      sym (append-nil taken) ∙ ap (λ (l : List ℕ). taken ++ l) (sym none) ∙ tells.text
      ∙ ap (λ (l : List ℕ). session_text W (said_to S W s pushed) ++ l)
      (frame-heard c.talk.state c.talk.held ∙ ap (λ h. refusal_text (first_fault h)) (sym tells.heard))

  over-ended : (s : State) (h : EndState F) (e : End F) → hearing_at s h ≡ Over_at e →
      (s ≡ states.Ended) × (h.end ≡ e)
  over-ended states.Open h e is = absurd cc
  over-ended states.Ended h e is = (refl, cc)
  over-ended (states.Refused code) h e is = absurd cc
  over-ended (states.PeerRefused code) h e is = absurd cc

  has-ended : (s : Speaker F) (c : SessionState F) (pushed : List ℕ) →
      hearing_at c.talk.state c.talk.held ≡ Over_at (session_at S W s pushed) → HasEnded S W s c pushed
  has-ended s c pushed is =
      let both = over-ended c.talk.state c.talk.held (session_at S W s pushed) is in
      record { ended = both.0; end = both.1 }

  is-peer : (a : Checked) (items : List Item) → IsChecked a → IsServed a items →
      IsPeer (peer_of a items) (ranks_by a.steps a.table.cap)
  is-peer a items checked served = record {
    table = checked.is_table;
    accepted = checked.accepted;
    ready = record { ranks = checked.serving.ranks; set = served.set; room = served.room };
    items = served.each;
  }

  pub sessions_meet : TwoSessionsMeet S W → AreSpelled S W → ((steps : List ℕ) (cap n : ℕ) → n ≤ cap →
      slice_index (ranks_by steps cap) n ≡ rank_by steps n) → (a b : Checked) → IsChecked a → IsChecked b →
      SessionsMeet S W a b
  sessions_meet law spelled read a b first second ours theirs c d asked answered k i r joined enough =
      let I : Peer = peer_of a ours in
      let R : Peer = peer_of b theirs in
      let f : List ℕ = ranks_by a.steps a.table.cap in
      let g : List ℕ = ranks_by b.steps b.table.cap in
      let i_is : opened S f I ≡ opened_of S a.steps I = opened_is S a.steps I (is-peer a ours first i).ready in
      let r_is = read b.steps b.table.cap (length theirs) r.room in
      let ends : message_bound (opened S f I) (slice_index g (length theirs)) < k =
      subst (λ m. m < k) (λ t. message_bound (sym i_is t) (sym r_is t)) enough in
      let met = law spelled I R f g c.over d.over asked answered k (is-peer a ours first i) (is-peer b theirs second r)
      joined.responder.are_bytes joined.initiator.are_bytes
      (written (initiating S I) c answered asked joined.initiator.tells joined.none_due.0)
      (written (responding S R) d asked answered joined.responder.tells joined.none_due.1) ends in
      record {
        initiator = has-ended (initiating S I) c answered (sym joined.initiator.tells.heard ∙ met.initiator.ended);
        responder = has-ended (responding S R) d asked (sym joined.responder.tells.heard ∙ met.responder.ended);
        met = subst (λ n. HaveMet S W I R n (rank_by b.steps (length theirs)) c.over d.over asked answered
            (talk S I R k))
            i_is (subst (λ n. HaveMet S W I R (opened S f I) n c.over d.over asked answered
            (talk S I R k)) r_is met);
      }
