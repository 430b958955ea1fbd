-- What one event makes of an end, and why a session stops at it: by cases on what the end answered, each case
-- computes.
use Rattle.std.proofs.Common.{◌≡◌, ℕ, ◌+◌, Bool, true, false, List, [], ◌∷◌, ◌++◌, Option, Some, None, IfSome}
use Rattle.std.proofs.Common.{Err, inl, inr, refl, sym, ap, ◌∙◌, subst, append-nil, arith}
use Rattle.std.specs.Prelude.{fold, if◌then◌else◌}
use Rattle.std.proofs.KnownBytes.{Appends-nil}
use Rattle.std.specs.Io.KnownBytes.{Appends}
use Rattle.definitions.specs.Fingerprints.{Summary}
use Rattle.definitions.specs.Messages.{Part, Message}
use Rattle.definitions.specs.Placing.{next, refusal}
use Rattle.definitions.specs.Wire.{Profile, message_text, Event, Came, Ended, Failed}
use Rattle.definitions.specs.Ends.{End, Answer, is_over}
use Rattle.definitions.specs.Engines.{replied, fault_of}
use Rattle.definitions.specs.Taking.{Taken, taken, ended}
use Rattle.definitions.specs.Hearing.{Hearing, Goes_on, Over_at, Peer_refused, Refused_for, goes_unless, ended_by}
use Rattle.definitions.specs.Hearing.{hear_now, hear}
use Rattle.definitions.specs.Worlds.{Side, Initiator, Responder}
use Rattle.laws.specs.Hearing.{has_stopped}
use Rattle.laws.proofs.GoingOn.{stays}
use Rattle.ends_core.specs.EndStates.{EndState}
use Rattle.ends_core.specs.Turns.{told_in, refusal_of, answer_of, after_part, after_end, messages_in}
use Rattle.ends_core.specs.declared.turn.Turn.{Turn}
use Rattle.ends_core.specs.declared.turn.Turn.TheVariants as turns
use Rattle.ends_core.specs.declared.turn.EndFault.{EndFault}
use Rattle.ends_core.specs.declared.turn.EndFault.TheVariants as faults
use Rattle.peer_threads.specs.declared.stop.Stop.{Stop}
use Rattle.peer_threads.specs.Stops.{of_end}
use Rattle.peer_threads.specs.Senders.{SenderState, sender_state, Adds}
use Rattle.peer_threads.specs.Underway.{heard_as, most_sent, Unsaid, Refuses, StopsBy}

module _ {F : Type 0} (S : Summary F) (W : Profile F) where
  -- ---- where the end stands then

  pub heard-goes : (h : EndState F) → is_over h.end.stage ≡ false → heard_as h ≡ Goes_on h.end h.taken
  heard-goes h goes = ap (λ b. if b then Over_at h.end else Goes_on h.end h.taken) goes

  pub heard-over : (h : EndState F) → is_over h.end.stage ≡ true → heard_as h ≡ Over_at h.end
  heard-over h over = ap (λ b. if b then Over_at h.end else Goes_on h.end h.taken) over

  pub taken-heard : (h g : EndState F) (p : Part F) → None ≡ refusal (next h.taken.place p) →
      g ≡ after_part S h p None →
      is_over h.end.stage ≡ false →
      heard_as g ≡ hear_now S h.end h.taken (Came p)
  taken-heard h g p fine is goes =
      let t : Taken F = taken S h.end h.taken p in
      ap heard_as is ∙ ap (λ b. if b then Over_at h.end else Goes_on h.end t) goes
      ∙ ap (λ o. goes_unless o (Goes_on h.end t)) fine

  pub ended-heard : (h g : EndState F) (turn : Turn F) → answer_of turn ≡ ended h.taken →
      g ≡ after_end h (answer_of turn) →
      heard_as g ≡ hear_now S h.end h.taken Ended
  ended-heard h g (turns.Reply N) told is = ap heard_as is ∙ ap (ended_by h.end h.taken) told
  ended-heard h g turns.Over told is = ap heard_as is ∙ ap (ended_by h.end h.taken) told

  -- ---- a fault frame

  -- a side that still hears has heard no fault frame, so the one that comes is the first
  pub first-frame : (h : Hearing F) (es rest : List (Event F)) (e : End F) (t : Taken F) (code : ℕ) →
      fold (hear S) h es ≡ Goes_on e t → fault_of (es ++ Failed code ∷ rest) ≡ Some code
  first-frame h [] rest e t code at = refl
  first-frame h (Came p ∷ es) rest e t code at = first-frame (hear S h (Came p)) es rest e t code at
  first-frame h (Ended ∷ es) rest e t code at = first-frame (hear S h Ended) es rest e t code at
  first-frame h (Failed n ∷ es) rest e t code at = absurd (stopped h at) where
    goes : (h : Hearing F) → has_stopped h ≡ true → fold (hear S) h es ≡ Goes_on e t → ⊥
    goes h stopped at =
        let same : h ≡ Goes_on e t =
        sym (stays S h es stopped) ∙ at in let wrong = sym stopped ∙ ap has_stopped same in absurd cc

    stopped : (h : Hearing F) → fold (hear S) (hear S h (Failed n)) es ≡ Goes_on e t → ⊥
    stopped (Goes_on f x) at = goes (Peer_refused n) refl at
    stopped (Over_at f) at = goes (Over_at f) refl at
    stopped (Peer_refused c) at = goes (Peer_refused c) refl at
    stopped (Refused_for c) at = goes (Refused_for c) refl at

  -- ---- how much it may send, and has sent

  pub most-kept : (side : Side) (h g : EndState F) (turn : Turn F) → g ≡ after_end h (answer_of turn) →
      most_sent S side g ≡ most_sent S side h
  most-kept Initiator h g (turns.Reply N) is = ap (most_sent S Initiator) is
  most-kept Initiator h g turns.Over is = ap (most_sent S Initiator) is
  most-kept Responder h g (turns.Reply N) is = ap (most_sent S Responder) is
  most-kept Responder h g turns.Over is = ap (most_sent S Responder) is

  pub sent-after : (h g : EndState F) (turn : Turn F) → g ≡ after_end h (answer_of turn) →
      g.end.sent ≡ h.end.sent + messages_in turn
  sent-after h g (turns.Reply N) is = ap (λ x. x.end.sent) is
  sent-after h g turns.Over is = omega (arith, ap (λ x. x.end.sent) is)

  -- ---- why it stops

  pub take-stops : (h : EndState F) (p : Part F) (f : EndFault) →
      IfSome (told_in (Err f)) (λ o. o ≡ refusal (next h.taken.place p)) → Refuses S h (Came p) (of_end f)
  take-stops h p (faults.Placing f) told =
      ap (λ o. goes_unless o (Goes_on h.end (taken S h.end h.taken p))) (sym told)
  take-stops h p faults.TooManyParts told =
      ap (λ o. goes_unless o (Goes_on h.end (taken S h.end h.taken p))) (sym told)
  take-stops h p faults.Spent told = ap (λ o. goes_unless o (Goes_on h.end (taken S h.end h.taken p))) (sym told)
  take-stops h p faults.Memory told = tt

  pub end-stops : (h : EndState F) (f : EndFault) → IfSome (refusal_of f) (λ a. a ≡ ended h.taken) →
      Refuses S h Ended (of_end f)
  end-stops h (faults.Placing f) told = ap (ended_by h.end h.taken) (sym told)
  end-stops h faults.TooManyParts told = ap (ended_by h.end h.taken) (sym told)
  end-stops h faults.Spent told = ap (ended_by h.end h.taken) (sym told)
  end-stops h faults.Memory told = tt

  -- ---- what was written

  -- one message was written
  pub adds-one : (o p : SenderState) (a b : Option (List ℕ)) (M : Message F) (text : List ℕ) →
      text ≡ message_text W M → p ≡ sender_state o.greeted (o.sent + 1) → Appends a b text →
      Adds W o p a b (M ∷ [])
  adds-one o p a b M text is counted w = record {
    greeted = ap (λ x. x.greeted) counted;
    count = ap (λ x. x.sent) counted;
    written = subst (Appends a b) (is ∙ sym (append-nil (message_text W M))) w;
  }

  -- none was
  pub adds-none : (o : SenderState) (a : Option (List ℕ)) → Adds W o o a a []
  adds-none o a = record { greeted = refl; count = omega arith; written = Appends-nil a }

  pub refuses-stops : (h : EndState F) (e : Event F) (o : SenderState) (a : Option (List ℕ)) (broken : Bool)
      (stop : Stop) →
      Refuses S h e stop → StopsBy S W h e o o a a broken stop
  refuses-stops h e o a broken stop r = inl (r, adds-none o a)

  pub unsaid-stops : (h : EndState F) (x : Answer F) (o p : SenderState) (a b : Option (List ℕ)) (broken : Bool)
      (stop : Stop) →
      x ≡ ended h.taken → Unsaid W o p a b broken (replied x) stop → StopsBy S W h Ended o p a b broken stop
  unsaid-stops h x o p a b broken stop is r = inr (subst (λ y. Unsaid W o p a b broken (replied y) stop) is r)
