-- What is kept of a session gives whether it has ended, what both sides learned, and how many messages were made.
-- Take the talk of the session's two versions, of which d messages were delivered. If there is a message number d with
-- an open part, the end that is to hear it takes it, so that end is not over, and neither is the session. If there is
-- none, message number d - 1 had no open part: who sent it is over, and so is who heard it. So the session has ended
-- exactly if both ends are over (`IsWithin`). While the responder has not begun, nothing was delivered, and its end
-- counts as not over.
-- What each end has learned is what the talk so far teaches its side, and both ends together have sent each message
-- that was made (Turns).
-- docs/LAWS.md: What a session keeps (`sessions_tell`).
use Rattle.std.proofs.Common.{◌≡◌, ℕ, zero, suc, ◌+◌, ◌<◌, ◌≤◌, Bool, true, false, ◌&&◌, length, take, slice_get}
use Rattle.std.proofs.Common.{Option, Some, None, unwrap_or, if◌then◌else◌, inl, inr, refl, sym, ap, subst, ◌∙◌, arith}
use Rattle.std.specs.Prelude.{IfSome, option_map, ◌==◌}
use Rattle.definitions.proofs.Words.{Summary, Message, has_open, Peer, reply, sender, talk, nothing, initiator_knows}
use Rattle.definitions.proofs.Words.{responder_knows, End, Ends, Fresh, Over, Replies, Spent, Stage, Waits, after}
use Rattle.definitions.proofs.Words.{after_answer, answer, is_live, stage_after_reply, initiator_at, responder_at}
use Rattle.definitions.proofs.Words.{World, Session, peer_at, initiator_of, responder_of}
use Rattle.definitions.proofs.Lemmas.{eqb-true, length-take-le}
use Rattle.std.proofs.lemmas.Option.{slice_get_cases, slice_get_past, slice_get_within}
use Rattle.laws.specs.Growing.{is_even}
use Rattle.laws.specs.Turns.{TakeTurns, speaker_at, hearer_at}
use Rattle.definitions.specs.Ends.{is_over}
use Rattle.definitions.specs.Messages.{open_parts}
use Rattle.laws.specs.Sessions.{Kept, Keeps, SessionsTell}
use Rattle.laws.proofs.Turns.{talks_begin, talks_go_on, ends_hear}
use Rattle.laws.proofs.Sessions.{peers_talk, initiator_peer, responder_peer}

-- ==== Which of the two ends of a talk are over

abbrev over : {F : Type 0} → End F → Bool
over e = is_over e.stage

-- an end that refuses nothing is live
not_refused : {F : Type 0} (S : Summary F) (P : Peer) (s : Stage F) (n : ℕ) (b : Bool) (M N : Message F) (l : _) →
    answer S record { peer = P; stage = s; sent = n; learned = l } M ≡ (if b then Replies N else Ends) →
    (is_over s ≡ false) × (is_live s ≡ true)
not_refused S P (Fresh cut) n b M N l e = (refl, refl)
not_refused S P (Waits own) n b M N l e = (refl, refl)
not_refused S P Over n true M N l e = absurd cc
not_refused S P Over n false M N l e = absurd cc
not_refused S P Spent n true M N l e = absurd cc
not_refused S P Spent n false M N l e = absurd cc

takes : {F : Type 0} (S : Summary F) (e : End F) (b : Bool) (M N : Message F) →
    answer S e M ≡ (if b then Replies N else Ends) → (over e ≡ false) × (is_live e.stage ≡ true)
takes S e b M N h = not_refused S e.peer e.stage e.sent b M N e.learned h

-- an end that is told the last message is over
ended_after : {F : Type 0} (S : Summary F) (e : End F) (M : Message F) → is_live e.stage ≡ true → answer S e M ≡ Ends →
    over (after S e M) ≡ true
ended_after S e M live ends =
    ap (λ b. over (if b then after_answer e M (answer S e M) else e)) live ∙ ap (λ a. over (after_answer e M a)) ends

-- of two ends one is over where the other is
both_by : {F : Type 0} (b : Bool) (d e : End F) → over (if b then e else d) ≡ false → (over d && over e) ≡ false
both_by true d e h = grind (arith, h)
both_by false d e h = ap (λ o. o && over e) h

both_ended : {F : Type 0} (S : Summary F) (b : Bool) (d e j t : End F) (M : Message F) →
    over (if b then d else e) ≡ true → over (after S (if b then e else d) M) ≡ true →
    j ≡ (if b then d else after S d M) → t ≡ (if b then after S e M else e) → (over j && over t) ≡ true
both_ended S true d e j t M spoke heard p q = grind (arith, ap over p, ap over q, spoke, heard)
both_ended S false d e j t M spoke heard p q = grind (arith, ap over p, ap over q, spoke, heard)

stage_over : {F : Type 0} (e : End F) (M : Message F) → e.stage ≡ stage_after_reply M → has_open M ≡ false →
    over e ≡ true
stage_over e M h o = ap is_over h ∙ ap (λ b. is_over (if b then Waits (open_parts M) else Over)) o

-- ---- while there is a next message, its hearer is not over

open_both : {F : Type 0} (S : Summary F) (I R : Peer) (d : ℕ) (M : Message F) → TakeTurns S I R d →
    slice_get (talk S I R (d + 1)) d ≡ Some M →
    (over (initiator_at S I R d) && over (responder_at S I R d)) ≡ false
open_both S I R d M turn h =
    both_by (is_even d) (initiator_at S I R d) (responder_at S I R d)
    (takes S (hearer_at S I R d) (has_open M) M (reply S (sender I R (d + 1)) M) (turn.answered M h)).0

-- ---- and once there is none, both are over

-- message number d was the last one
last_both : {F : Type 0} (S : Summary F) (I R : Peer) (d : ℕ) (M : Message F) → TakeTurns S I R d →
    slice_get (talk S I R (d + 1)) d ≡ Some M → has_open M ≡ false →
    (over (initiator_at S I R (d + 1)) && over (responder_at S I R (d + 1))) ≡ true
last_both S I R d M turn h none =
    let ends : answer S (hearer_at S I R d) M ≡ Ends =
    turn.answered M h ∙ ap (λ b. if b then Replies (reply S (sender I R (d + 1)) M) else Ends) none in
    let hears = ends_hear S I R d M h in
    let live = (takes S (hearer_at S I R d) (has_open M) M (reply S (sender I R (d + 1)) M) (turn.answered M h)).1 in
    both_ended S (is_even d) (initiator_at S I R d) (responder_at S I R d) (initiator_at S I R (d + 1))
    (responder_at S I R (d + 1)) M
    (stage_over (speaker_at S I R d) M (turn.spoken M h) none)
    (ended_after S (hearer_at S I R d) M live ends) hears.initiator hears.responder

-- a talk of d + 1 messages, where more were asked for
none_open : {F : Type 0} (S : Summary F) (I R : Peer) (d : ℕ) (M : Message F) →
    slice_get (talk S I R (d + 1)) d ≡ Some M → length (talk S I R (d + 2)) ≡ d + 1 → has_open M ≡ false
none_open S I R d M h all = by (has_open M)
    (sym (talks_go_on S I R d M h).next ∙ slice_get_past (talk S I R (d + 2)) (d + 1) (omega arith)) where
      by : (b : Bool) → (if b then Some (reply S (sender I R (d + 1)) M) else None) ≡ None → b ≡ false
      by true e = absurd cc
      by false e = refl

over_ended : {F : Type 0} (S : Summary F) (I R : Peer) (d : ℕ) → ((k : ℕ) → TakeTurns S I R k) →
    length (talk S I R (d + 1)) ≡ d →
    (over (initiator_at S I R d) && over (responder_at S I R d)) ≡ true
over_ended S I R zero turn all = absurd (omega arith)
over_ended {F} S I R (suc d) turn all =
    let one : suc d ≡ d + 1 = omega arith in
    let two : suc d + 1 ≡ d + 2 = omega arith in
    let whole : length (talk S I R (d + 2)) ≡ d + 1 = ap (λ n. length (talk S I R n)) (sym two) ∙ all ∙ one in
    let first : length (talk S I R (d + 1)) ≡ d + 1 = ap length (sym (talks_begin S I R (d + 1) (d + 2) (omega arith)))
    ∙ length-take-le (d + 1) (talk S I R (d + 2)) (omega arith) in
    elim ((slice_get_cases (talk S I R (d + 1)) d).1) [
      | inl there ↦ subst (λ n. (over (initiator_at S I R n) && over (responder_at S I R n)) ≡ true) (sym one)
          (last_both S I R d there.0 (turn d) there.2 (none_open S I R d there.0 there.2 whole))
      | inr past ↦ absurd (omega arith)
    ]

-- ==== What is kept tells

-- how many were delivered: the next message is there, or each was delivered
record IsWithin {F : Type 0} (S : Summary F) (I R : Peer) (d : ℕ) : Type 0 where
  within : d ≤ length (talk S I R (d + 1))
  ended : (length (talk S I R (d + 1)) == d) ≡ (over (initiator_at S I R d) && over (responder_at S I R d))

is_within : {F : Type 0} (S : Summary F) (I R : Peer) (d : ℕ) (N : Message F) → ((k : ℕ) → TakeTurns S I R k) →
    ((length (talk S I R (d + 1)) == d) ≡ false → slice_get (talk S I R (d + 1)) d ≡ Some N) → IsWithin S I R d
is_within {F} S I R d N turn last = by (length (talk S I R (d + 1)) == d) refl where
  by : (b : Bool) → (length (talk S I R (d + 1)) == d) ≡ b → IsWithin S I R d
  by true e =
      let all : length (talk S I R (d + 1)) ≡ d = eqb-true (length (talk S I R (d + 1))) d e in
      record { within = omega arith; ended = e ∙ sym (over_ended S I R d turn all) }
  by false e =
      let there : d < length (talk S I R (d + 1)) = slice_get_within (talk S I R (d + 1)) d N (last e) in
      record { within = omega arith; ended = e ∙ sym (open_both S I R d N (turn d) (last e)) }

-- ---- the responder, begun or not

record Responds {F : Type 0} (S : Summary F) (w : World) (s : Session) (k : Kept F) : Type 0 where
  peer : IfSome k.responder (λ e. e.peer ≡ responder_of w s)
  learned : unwrap_or (option_map (λ e. e.learned) k.responder) nothing
      ≡ (responder_at S (initiator_of w s) (responder_of w s) s.delivered).learned
  sent : unwrap_or (option_map (λ e. e.sent) k.responder) 0
      ≡ (responder_at S (initiator_of w s) (responder_of w s) s.delivered).sent
  over : unwrap_or (option_map (λ e. is_over e.stage) k.responder) false
      ≡ over (responder_at S (initiator_of w s) (responder_of w s) s.delivered)

responds_by : {F : Type 0} (S : Summary F) (w : World) (i r v : ℕ) (o : Option ℕ) (d : ℕ) (k : Kept F) →
    let s : Session =
    record { initiator_node = i; responder_node = r; initiator_version = v; responder_version = o; delivered = d } in
    Keeps S w s k → Responds S w s k
responds_by S w i r v (Some u) d k h = record {
  peer = subst (λ o. IfSome o (λ e. e.peer ≡ peer_at w r u)) (sym h.responder)
      (responder_peer S (peer_at w i v) (peer_at w r u) d);
  learned = ap (λ o. unwrap_or (option_map (λ e. e.learned) o) nothing) h.responder;
  sent = ap (λ o. unwrap_or (option_map (λ e. e.sent) o) 0) h.responder;
  over = ap (λ o. unwrap_or (option_map (λ e. is_over e.stage) o) false) h.responder;
}
responds_by S w i r v None zero k h = record {
  peer = subst (λ o. IfSome o (λ e. e.peer ≡ peer_at w r 0)) (sym h.responder) tt;
  learned = ap (λ o. unwrap_or (option_map (λ e. e.learned) o) nothing) h.responder;
  sent = ap (λ o. unwrap_or (option_map (λ e. e.sent) o) 0) h.responder;
  over = ap (λ o. unwrap_or (option_map (λ e. is_over e.stage) o) false) h.responder;
}
responds_by S w i r v None (suc d) k h = absurd (omega (arith, h.unheard.0 refl))

responds : {F : Type 0} (S : Summary F) (w : World) (s : Session) (k : Kept F) → Keeps S w s k → Responds S w s k
responds S w s k h =
    responds_by S w s.initiator_node s.responder_node s.initiator_version s.responder_version s.delivered k h

pub sessions_tell : {F : Type 0} (S : Summary F) → SessionsTell S
sessions_tell {F} S exact w s k nodes h =
    let I : Peer = initiator_of w s in
    let R : Peer = responder_of w s in
    let d : ℕ = s.delivered in
    let turn : (n : ℕ) → TakeTurns S I R n = λ n. peers_talk S w s.initiator_node s.initiator_version s.responder_node
    (unwrap_or s.responder_version 0) n exact nodes h.initiator_there h.responder_there in
    let within = is_within S I R d k.last turn h.last in
    let responder = responds S w s k h in
    let so_far : talk S I R d ≡ take d (talk S I R (d + 1)) = sym (talks_begin S I R d (d + 1) (omega arith)) in
    record {
      ended = within.ended ∙ (λ i. over (sym h.initiator i) && sym responder.over i);
      initiator = ap (λ e. e.peer) h.initiator ∙ initiator_peer S I R d;
      responder = responder.peer;
      initiator_learned =
          ap (λ e. e.learned) h.initiator ∙ (turn d).initiator_learned ∙ ap (initiator_knows I.items) so_far;
      responder_learned = responder.learned ∙ (turn d).responder_learned ∙ ap (responder_knows R.items) so_far;
      count = omega (arith, ap (λ e. e.sent) h.initiator, responder.sent, (turn d).sent);
      delivered = within.within;
    }
