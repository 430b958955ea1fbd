-- What a side has to say.
--     OutboxState, outbox_state      texts that are made, where messages end in them, and messages without a text
--     ends_from W start Ms           where the texts of these messages end that begin at this place
--     made W o last                  all texts are made, and these bytes after them
--     ends_after n ends, less n o    the same places, and all of it, once so many bytes were taken
--     unwritten o                    how many messages nobody has taken whole
--     Answered h g o p result        the end of a message was taken, and the reply is said after all else
use Rattle.std.specs.Prelude.{◌≡◌, ℕ, ◌+◌, ◌-◌, nat_le, List, [], ◌∷◌, ◌++◌, length, drop, map, flat_map, Result, Ok}
use Rattle.std.specs.Prelude.{Err, IfSome, if◌then◌else◌, ⊤}
use Rattle.definitions.specs.Messages.{Message}
use Rattle.definitions.specs.Wire.{Profile, message_text}
use Rattle.definitions.specs.Ends.{Answer, Replies, Ends, Refuses}
use Rattle.definitions.specs.Engines.{replied}
use Rattle.definitions.specs.Taking.{ended}
use Rattle.ends_core.specs.EndStates.{EndState}
use Rattle.ends_core.specs.Turns.{after_end, refusal_of}
use Rattle.ends_core.specs.declared.turn.EndFault.{EndFault}
use Rattle.ends_core.specs.declared.turn.EndFault.TheVariants as faults

pub record OutboxState (F : Type 0) : Type 0 where
  -- bytes that nobody has taken
  pub ready : List ℕ
  -- the places in them where the texts of messages end
  pub ends : List ℕ
  -- and what is to be said after them
  pub later : List (Message F)

abbrev pub outbox_state : {F : Type 0} → List ℕ → List ℕ → List (Message F) → OutboxState F
outbox_state ready ends later = record { ready = ready; ends = ends; later = later }

abbrev pub ends_from : {F : Type 0} → Profile F → ℕ → List (Message F) → List ℕ
ends_from W start [] = []
ends_from W start (M ∷ Ms) =
    (start + length (message_text W M)) ∷ ends_from W (start + length (message_text W M)) Ms

abbrev pub made : {F : Type 0} → Profile F → OutboxState F → List ℕ → OutboxState F
made W o last = record {
  ready = o.ready ++ (flat_map (message_text W) o.later ++ last);
  ends = o.ends ++ ends_from W (length o.ready) o.later;
  later = [];
}

-- a message that ends no further on is taken whole
abbrev pub ends_after : ℕ → List ℕ → List ℕ
ends_after n [] = []
ends_after n (e ∷ es) = if nat_le e n then ends_after n es else map (λ x. x - n) (e ∷ es)

abbrev pub less : {F : Type 0} → ℕ → OutboxState F → OutboxState F
less n o = record { ready = drop n o.ready; ends = ends_after n o.ends; later = o.later }

abbrev pub unwritten : {F : Type 0} → OutboxState F → ℕ
unwritten o = length o.ends + length o.later

-- it is taken
abbrev pub IsTaken : {F : Type 0} → Answer F → Type 0
IsTaken (Replies N) = ⊤
IsTaken Ends = ⊤
IsTaken (Refuses code) = ⊥

pub record Took {F : Type 0} (h g : EndState F) (o p : OutboxState F) : Type 0 where
  pub taken : IsTaken (ended h.taken)
  pub end : g ≡ after_end h (ended h.taken)
  pub said : p ≡ outbox_state o.ready o.ends (o.later ++ replied (ended h.taken))

-- the end refuses it, and has sent no more; or memory ran out, and nothing has changed
abbrev pub RefusedFor : {F : Type 0} → EndState F → EndState F → EndFault → Type 0
RefusedFor h g f = IfSome (refusal_of f) (λ a. a ≡ ended h.taken) × (g.end.sent ≡ h.end.sent)

abbrev pub RefusedEnd : {F : Type 0} → EndState F → EndState F → EndFault → Type 0
RefusedEnd h g faults.Memory = g ≡ h
RefusedEnd h g (faults.Placing f) = RefusedFor h g (faults.Placing f)
RefusedEnd h g faults.TooManyParts = RefusedFor h g faults.TooManyParts
RefusedEnd h g faults.Spent = RefusedFor h g faults.Spent

abbrev pub Answered : {F X : Type 0} → EndState F → EndState F → OutboxState F → OutboxState F → Result X EndFault →
    Type 0
Answered h g o p (Ok x) = Took h g o p
Answered h g o p (Err f) = RefusedEnd h g f × (p ≡ o)
