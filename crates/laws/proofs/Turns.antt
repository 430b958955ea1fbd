-- How a talk goes on, and how its two ends step through it.
-- A talk of k messages is how a longer one begins. Message number k is the last of the first k + 1, and the next one
-- is the reply of the other peer to it, if it has an open part. Even messages are heard by the responder, odd ones by
-- the initiator, so a message changes only the end that hears it.
-- Two ends meet in a message M (`Meets`) if e spoke it last, d takes messages and does not refuse M, the open ranges
-- of M do not overlap, and all messages from M on may be sent. Then d answers with its reply, or ends. If it replies,
-- the two meet again in the reply with their parts changed: an honest reply is placed after M, and what it opens does
-- not overlap. So by induction on k: what each has learned and sent is what the talk so far says, and message number k
-- is answered by number k + 1 (`Turn`). The opening is such a meeting.
-- docs/LAWS.md: Talks grow by replies; Two ends hand each other the talk.
use Rattle.std.proofs.Common.{◌≡◌, ℕ, zero, suc, ◌+◌, ◌≤◌, Bool, true, false, not, List, [], ◌∷◌, ◌++◌, length, take}
use Rattle.std.proofs.Common.{slice_get, Some, None, if◌then◌else◌, refl, sym, ap, subst, ◌∙◌, arith}
use Rattle.definitions.proofs.Words.{AllByRecursion, Apart, Summary, IsExact, Message, has_open, open_ranges, opening}
use Rattle.definitions.proofs.Words.{Peer, reply, and_then, knows, learn, of_first, of_second, sender, talk, talk_from}
use Rattle.definitions.proofs.Words.{max_parts, Ready, End, Ends, Replies, Waits, Over, Refuses, too_many_parts, after}
use Rattle.definitions.proofs.Words.{after_answer, answer, answer_unless, heard, initiator, initiator_at, is_live}
use Rattle.definitions.proofs.Words.{own_of, reply_or_refuse, responder, responder_at, stage_after_reply, stage_fault}
use Rattle.definitions.proofs.Lemmas.{le-leb, take_all, All-map}
use Rattle.laws.specs.Growing.{is_even}
use Rattle.laws.specs.Turns.{TalksBegin, TalksGoOn, EndsHear, EndsTalk}
use Rattle.laws.proofs.PeerCuts.{reply-rises}
use Rattle.laws.proofs.Placing.{placing_is_exact, opening_exact}
use Rattle.laws.proofs.Openings.{opening_waits, opening_is}
use Rattle.laws.proofs.OpenRanges.{replies_are_placed, replies_are_apart, open-rise, opening_apart}
use Rattle.laws.proofs.Knowledge.{some_is, then_nothing, then_then, of_first-cons, begun-cons, heard-cons, turned}
use Rattle.laws.proofs.Few.{messages_fit}
use Rattle.laws.proofs.Saying.{ends_hear_on}
use Rattle.laws.proofs.Opens.{place-open, knows-open}
use Rattle.definitions.specs.Messages.{open_parts}

-- ==== A talk

talk_from-begins : {F : Type 0} (S : Summary F) (P Q : Peer) (M : Message F) (k n : ℕ) → k ≤ n →
    take k (talk_from S P Q M n) ≡ talk_from S P Q M k
talk_from-begins S P Q M zero n h = refl
talk_from-begins S P Q M (suc k) zero h = absurd (omega arith)
talk_from-begins S P Q M (suc k) (suc n) h = grind (arith, talk_from-begins S Q P (reply S Q M) k n, take_all)

pub talks_begin : {F : Type 0} (S : Summary F) → TalksBegin S
talks_begin S I R k n h = talk_from-begins S I R (opening S I) k n h

-- message number k is N
record IsLast {F : Type 0} (S : Summary F) (P Q : Peer) (M : Message F) (k : ℕ) (N : Message F) : Type 0 where
  number : length (talk_from S P Q M k) ≡ k
  last : talk_from S P Q M (suc k) ≡ talk_from S P Q M k ++ N ∷ []
  next : slice_get (talk_from S P Q M (suc (suc k))) (suc k)
      ≡ (if has_open N then Some (reply S (sender P Q (suc k)) N) else None)

talk_from-last : {F : Type 0} (S : Summary F) (P Q : Peer) (M : Message F) (k : ℕ) (N : Message F) →
    slice_get (talk_from S P Q M (suc k)) k ≡ Some N → IsLast S P Q M k N
talk_from-last S P Q M zero N h =
    subst (IsLast S P Q M zero) (some_is M N h) record { number = refl; last = grind arith; next = grind arith }
talk_from-last S P Q M (suc k) N h = grind (arith, talk_from-last S Q P (reply S Q M) k N, slice_get)

pub talks_go_on : {F : Type 0} (S : Summary F) → TalksGoOn S
talks_go_on {F} S I R k M h =
    let one : k + 1 ≡ suc k = omega arith in
    let two : k + 2 ≡ suc (suc k) = omega arith in
    let is = talk_from-last S I R (opening S I) k M (subst (λ n. slice_get (talk S I R n) k ≡ Some M) one h) in
    record {
      number = is.number;
      last = ap (talk S I R) one ∙ is.last;
      next = (λ i. slice_get (talk S I R (two i)) (one i)) ∙ is.next
          ∙ ap (λ n. if has_open M then Some (reply S (sender I R n) M) else None) (sym one);
    }

-- ==== Who hears what

-- one message more is of the side that begins where their number is even
split : {F : Type 0} (Ms : List (Message F)) (M : Message F) →
    (of_first (Ms ++ M ∷ []) ≡ (if is_even (length Ms) then of_first Ms ++ M ∷ [] else of_first Ms))
    × (of_second (Ms ++ M ∷ []) ≡ (if is_even (length Ms) then of_second Ms else of_second Ms ++ M ∷ []))
split [] M = (refl, refl)
split (N ∷ Ms) M = grind (arith, split Ms M, of_first-cons)

heard_more : {F : Type 0} (S : Summary F) (e : End F) (Ms : List (Message F)) (M : Message F) (b : Bool) →
    heard S e (if b then Ms ++ M ∷ [] else Ms) ≡ (if b then after S (heard S e Ms) M else heard S e Ms)
heard_more S e Ms M true = ends_hear_on S e Ms M
heard_more S e Ms M false = refl

pub ends_hear : {F : Type 0} (S : Summary F) → EndsHear S
ends_hear {F} S I R k M h =
    let is = talks_go_on S I R k M h in
    let Ms : List (Message F) = talk S I R k in
    let even : is_even (length Ms) ≡ is_even k = ap is_even is.number in
    let both = split Ms M in
    record {
      initiator = ap (λ Ns. heard S (initiator S I) (of_second Ns)) is.last
          ∙ ap (heard S (initiator S I)) (both.1 ∙ turned (is_even (length Ms)) (of_second Ms ++ M ∷ []) (of_second Ms))
          ∙ heard_more S (initiator S I) (of_second Ms) M (not (is_even (length Ms)))
          ∙ sym (turned (is_even (length Ms)) (after S (initiator_at S I R k) M) (initiator_at S I R k))
          ∙ ap (λ b. if b then initiator_at S I R k else after S (initiator_at S I R k) M) even;
      responder = ap (λ Ns. heard S (responder S R) (of_first Ns)) is.last ∙ ap (heard S (responder S R)) both.0
          ∙ heard_more S (responder S R) (of_first Ms) M (is_even (length Ms))
          ∙ ap (λ b. if b then after S (responder_at S I R k) M else responder_at S I R k) even;
    }

-- ==== What the ends are, when M was spoken by e and is to be heard by d

-- what the two have sent and learned after the messages Ms, and what becomes of message number k, which is among more
record Turn {F : Type 0} (S : Summary F) (e d : End F) (Ms more : List (Message F)) (k : ℕ) : Type 0 where
  speaker_learned : (heard S e (of_second Ms)).learned
      ≡ and_then e.learned (knows e.peer.items (of_first Ms) (of_second Ms))
  hearer_learned : (heard S d (of_first Ms)).learned
      ≡ and_then d.learned (knows d.peer.items (own_of d.stage ∷ of_second Ms) (of_first Ms))
  sent : (heard S e (of_second Ms)).sent + (heard S d (of_first Ms)).sent + 1 ≡ e.sent + d.sent + length more
  spoken : (N : Message F) → slice_get more k ≡ Some N →
      (if is_even k then heard S e (of_second Ms) else heard S d (of_first Ms)).stage ≡ stage_after_reply N
  answered : (N : Message F) → slice_get more k ≡ Some N →
      answer S (if is_even k then heard S d (of_first Ms) else heard S e (of_second Ms)) N
      ≡ (if has_open N then Replies (reply S (sender e.peer d.peer (suc k)) N) else Ends)

-- nothing was heard, and M comes
turn_first : {F : Type 0} (S : Summary F) (e d : End F) (M : Message F) (Ms : List (Message F)) → length Ms ≡ 0 →
    e.stage ≡ stage_after_reply M →
    answer S d M ≡ (if has_open M then Replies (reply S d.peer M) else Ends) → Turn S e d [] (M ∷ Ms) 0
turn_first S e d M Ms none spoken answered = record {
  speaker_learned = sym (then_nothing e.learned);
  hearer_learned = sym (then_nothing d.learned);
  sent = omega (arith, none);
  spoken = λ N h. subst (λ N. e.stage ≡ stage_after_reply N) (some_is M N h) spoken;
  answered = λ N h.
      subst (λ N. answer S d N ≡ (if has_open N then Replies (reply S d.peer N) else Ends)) (some_is M N h) answered;
}

-- M is heard and has no open part
turn_last : {F : Type 0} (S : Summary F) (e d : End F) (M : Message F) (k : ℕ) → after S d M ≡ after_answer d M Ends →
    Turn S e d (M ∷ []) (M ∷ []) (suc k)
turn_last S e d M k hears = record {
  speaker_learned = sym (then_nothing e.learned);
  hearer_learned =
      ap (λ c. c.learned) hears ∙ ap (and_then d.learned) (sym (then_nothing (learn d.peer.items (own_of d.stage) M)));
  sent = omega (arith, ap (λ c. c.sent) hears);
  spoken = λ N h. absurd cc;
  answered = λ N h. absurd cc;
}

-- M is heard and replied to, and then e hears
turn_more : {F : Type 0} (S : Summary F) (e d : End F) (M : Message F) (Ms more : List (Message F)) (k : ℕ) →
    after S d M ≡ after_answer d M (Replies (reply S d.peer M)) → own_of e.stage ≡ open_parts M →
    Turn S (after_answer d M (Replies (reply S d.peer M))) e Ms more k → Turn S e d (M ∷ Ms) (M ∷ more) (suc k)
turn_more {F} S e d M Ms more k hears own later =
    let c : End F = after_answer d M (Replies (reply S d.peer M)) in
    let d' = heard S d (of_first (M ∷ Ms)) in
    let e' = heard S e (of_first Ms) in
    let first : d' ≡ heard S c (of_second Ms) =
    ap (heard S d) (of_first-cons M Ms) ∙ ap (λ b. heard S b (of_second Ms)) hears in
    record {
      speaker_learned =
          later.hearer_learned ∙ ap (λ N. and_then e.learned (knows e.peer.items (N ∷ of_second Ms) (of_first Ms))) own
          ∙ ap (and_then e.learned)
          (knows-open e.peer.items M (of_second Ms) (of_first Ms) ∙ sym (begun-cons e.peer.items M Ms));
      hearer_learned = ap (λ b. b.learned) first ∙ later.speaker_learned
          ∙ then_then d.learned (learn d.peer.items (own_of d.stage) M)
          (knows d.peer.items (of_first Ms) (of_second Ms))
          ∙ ap (and_then d.learned) (sym (heard-cons d.peer.items (own_of d.stage) M Ms));
      sent = omega (arith, later.sent, ap (λ b. b.sent) first);
      spoken = λ N h. ap (λ b. b.stage) (sym (turned (is_even k) e' d'))
          ∙ ap (λ b. (if is_even k then b else e').stage) first ∙ later.spoken N h;
      answered = λ N h. ap (λ b. answer S b N) (sym (turned (is_even k) d' e'))
          ∙ ap (λ b. answer S (if is_even k then e' else b) N) first ∙ later.answered N h;
    }

-- ---- honest ends

-- e of P spoke M, which is to be heard by d of Q; each message from M on may be sent
pub record Meets {F : Type 0} (S : Summary F) (f g : List ℕ) (e d : End F) (M : Message F) : Type 0 where
  pub speaker : Ready e.peer f
  pub hearer : Ready d.peer g
  pub spoken : e.stage ≡ stage_after_reply M
  pub live : is_live d.stage ≡ true
  pub taken : stage_fault d.stage M ≡ None
  pub apart : Apart (open_ranges M)
  pub fits : (k : ℕ) → AllByRecursion (λ N. length N ≤ max_parts) (talk_from S e.peer d.peer M k)

-- what e waits for, where M has an open part
waits : {F : Type 0} {S : Summary F} {f g : List ℕ} {e d : End F} {M : Message F} → Meets S f g e d M →
    has_open M ≡ true → e.stage ≡ Waits (open_parts M)
waits {M = M} m o = m.spoken ∙ ap (λ b. if b then Waits (open_parts M) else Over) o

-- the talk goes on with the reply
fits_on : {F : Type 0} {S : Summary F} {f g : List ℕ} {e d : End F} {M : Message F} → Meets S f g e d M →
    has_open M ≡ true → (k : ℕ) →
    AllByRecursion (λ N. length N ≤ max_parts) (talk_from S d.peer e.peer (reply S d.peer M) k)
fits_on {S = S} {e = e} {d = d} {M = M} m o k =
    subst (λ b. AllByRecursion (λ N. length N ≤ max_parts)
    (if b then talk_from S d.peer e.peer (reply S d.peer M) k else [])) o (m.fits (suc k)).1

-- the message is not refused
pub not_refused : {F : Type 0} {S : Summary F} {f g : List ℕ} {e d : End F} {M : Message F} → Meets S f g e d M →
    answer S d M ≡ (if has_open M then Replies (reply S d.peer M) else Ends)
not_refused {S = S} {d = d} {M = M} m = ap (answer_unless S d.peer M) m.taken ∙ by (has_open M) refl where
  by : (b : Bool) → has_open M ≡ b →
      (if b then reply_or_refuse (reply S d.peer M) else Ends) ≡ (if b then Replies (reply S d.peer M) else Ends)
  by true o = ap (λ fit. if fit then Replies (reply S d.peer M) else Refuses too_many_parts)
      (le-leb (length (reply S d.peer M)) max_parts (fits_on m o 1).0)
  by false o = refl

pub hears : {F : Type 0} {S : Summary F} {f g : List ℕ} {e d : End F} {M : Message F} → Meets S f g e d M → (b : Bool) →
    has_open M ≡ b →
    after S d M ≡ after_answer d M (if b then Replies (reply S d.peer M) else Ends)
hears {S = S} {d = d} {M = M} m b o =
    ap (λ live. if live then after_answer d M (answer S d M) else d) m.live
    ∙ ap (after_answer d M) (not_refused m ∙ ap (λ b. if b then Replies (reply S d.peer M) else Ends) o)

-- and the reply is met in turn
pub meets_on : {F : Type 0} {S : Summary F} {f g : List ℕ} {e d : End F} {M : Message F} → Meets S f g e d M →
    has_open M ≡ true →
    Meets S g f (after_answer d M (Replies (reply S d.peer M))) e (reply S d.peer M)
meets_on {F} {S} {f} {g} {e} {d} {M} m o = record {
  speaker = m.hearer;
  hearer = m.speaker;
  spoken = refl;
  live = ap is_live (waits m o);
  taken = ap (λ s. stage_fault s (reply S d.peer M)) (waits m o)
      ∙ place-open M (reply S d.peer M)
      ∙ (placing_is_exact F M (reply S d.peer M) m.apart (reply-rises S d.peer g m.hearer M (open-rise M m.apart))).1
      (replies_are_placed S d.peer g M m.hearer.ranks m.hearer.room);
  apart = replies_are_apart S d.peer g M m.hearer m.apart;
  fits = fits_on m o;
}

turns : {F : Type 0} (S : Summary F) (f g : List ℕ) (k : ℕ) (e d : End F) (M : Message F) → Meets S f g e d M →
    Turn S e d (talk_from S e.peer d.peer M k) (talk_from S e.peer d.peer M (suc k)) k
turns S f g zero e d M m = turn_first S e d M (if has_open M then [] else []) (grind arith) m.spoken (not_refused m)
turns {F} S f g (suc k) e d M m = by (λ o. turns S g f k (after_answer d M (Replies (reply S d.peer M))) e
    (reply S d.peer M) (meets_on m o)) (has_open M) refl where
      rest : Bool → ℕ → List (Message F)
      rest b k = if b then talk_from S d.peer e.peer (reply S d.peer M) k else []

      by : (has_open M ≡ true →
          Turn S (after_answer d M (Replies (reply S d.peer M))) e (rest true k) (rest true (suc k)) k) → (b : Bool) →
          has_open M ≡ b →
          Turn S e d (M ∷ rest b k) (M ∷ rest b (suc k)) (suc k)
      by later true o =
          turn_more S e d M (rest true k) (rest true (suc k)) k (hears m true o) (ap own_of (waits m o)) (later o)
      by later false o = turn_last S e d M k (hears m false o)

-- ---- two peers

pub two_meet : {F : Type 0} (S : Summary F) (I R : Peer) (f g : List ℕ) → IsExact S → Ready I f → Ready R g →
    length I.items ≤ 65536 → length R.items ≤ 65536 →
    Meets S f g (initiator S I) (responder S R) (opening S I)
two_meet S I R f g exact i r few few' = record {
  speaker = i;
  hearer = r;
  spoken = opening_waits S I;
  live = refl;
  taken = (opening_exact S.may_cut (opening S I)).1 (opening_is S I);
  apart = opening_apart S I i.set;
  fits = λ k. All-map _ _ (λ M l. omega arith) (talk S I R k) (messages_fit S exact I R k i.set r.set);
}

pub ends_talk : {F : Type 0} (S : Summary F) → EndsTalk S
ends_talk {F} S exact I R f g k i r few few' =
    let turn =
    turns S f g k (initiator S I) (responder S R) (opening S I) (two_meet S I R f g exact i r few few') in
    let one : suc k ≡ k + 1 = omega arith in
    let there : (M : Message F) → slice_get (talk S I R (k + 1)) k ≡ Some M →
    slice_get (talk S I R (suc k)) k ≡ Some M = λ M. subst (λ n. slice_get (talk S I R n) k ≡ Some M) (sym one) in
    record {
      initiator_learned = turn.speaker_learned;
      responder_learned = turn.hearer_learned;
      sent = omega (arith, turn.sent, ap (λ n. length (talk S I R n)) one);
      spoken = λ M h. turn.spoken M (there M h);
      answered = λ M h. turn.answered M (there M h)
          ∙ ap (λ n. if has_open M then Replies (reply S (sender I R n) M) else Ends) one;
    }
