-- A message that is taken part by part, as its frames come.
--     Taken, nothing_taken e      what an end keeps of the parts so far
--     taken S e t p               after one part more
--     taken_all S e M             after these parts
--     ended t                     what the end answers where the message ends here
--     after_ended e t a           the end after that answer
--     by_parts S e t M            what it answers to these parts, taken up to the first refusal, and then their end
use Rattle.std.specs.Prelude.{ℕ, ◌+◌, Bool, false, ◌||◌, [], ◌∷◌, ◌++◌, Option, Some, None, fold, if◌then◌else◌}
use Rattle.definitions.specs.Fingerprints.{Summary}
use Rattle.definitions.specs.Messages.{Part, Message, is_open}
use Rattle.definitions.specs.Replies.{reply_to}
use Rattle.definitions.specs.Placing.{Place, First, Refused, next, finish, refusal, place_after}
use Rattle.definitions.specs.Talks.{Knowledge, nothing, and_then, learn}
use Rattle.definitions.specs.Refusals.{too_many_parts, spent}
use Rattle.definitions.specs.Ends.{Stage, Fresh, Waits, Over, Spent, End, own_of, is_sendable, Answer, Replies, Ends}
use Rattle.definitions.specs.Ends.{Refuses, stage_after_reply}

-- what an end keeps of the parts of a message that has not ended
pub record Taken (F : Type 0) : Type 0 where
  pub place : Place F
  -- one of them is open
  pub opens : Bool
  -- the reply to them; none once it has too many parts, and from then on
  pub reply : Option (Message F)
  -- what they teach, which counts once the message has ended
  pub learned : Knowledge

-- before the first part of a message: an end that is spent or whose session is over takes none
abbrev pub place_of : {F : Type 0} → Stage F → Place F
place_of (Fresh cut) = First cut
place_of (Waits own) = place_after own
place_of Over = Refused spent
place_of Spent = Refused spent

abbrev pub nothing_taken : {F : Type 0} → End F → Taken F
nothing_taken e = record { place = place_of e.stage; opens = false; reply = Some []; learned = nothing }

-- a reply goes on, as long as it may be sent
abbrev pub grown : {F : Type 0} → Option (Message F) → Message F → Option (Message F)
grown None N = None
grown (Some M) N = if is_sendable (M ++ N) then Some (M ++ N) else None

-- after one part more
abbrev pub taken : {F : Type 0} → Summary F → End F → Taken F → Part F → Taken F
taken S e t p = record {
  place = next t.place p;
  opens = t.opens || is_open p;
  reply = grown t.reply (reply_to S e.peer p);
  learned = and_then t.learned (learn e.peer.items (own_of e.stage) (p ∷ []));
}

abbrev pub taken_all : {F : Type 0} → Summary F → End F → Message F → Taken F
taken_all S e M = fold (taken S e) (nothing_taken e) M

abbrev pub replies_or_refuses : {F : Type 0} → Option (Message F) → Answer F
replies_or_refuses (Some N) = Replies N
replies_or_refuses None = Refuses too_many_parts

abbrev pub ended_unless : {F : Type 0} → Taken F → Option ℕ → Answer F
ended_unless t (Some code) = Refuses code
ended_unless t None = if t.opens then replies_or_refuses t.reply else Ends

-- a refusal of the placing comes first
abbrev pub ended : {F : Type 0} → Taken F → Answer F
ended t = ended_unless t (finish t.place)

-- what was learned counts from now on; a refusal leaves nothing learned
abbrev pub after_ended : {F : Type 0} → End F → Taken F → Answer F → End F
after_ended e t (Replies N) =
    record e { stage = stage_after_reply N; sent = e.sent + 1; learned = and_then e.learned t.learned }
after_ended e t Ends = record e { stage = Over; learned = and_then e.learned t.learned }
after_ended e t (Refuses code) = record e { stage = Spent; learned = nothing }

abbrev pub refuses_or : {F : Type 0} → Option ℕ → Answer F → Answer F
refuses_or (Some code) a = Refuses code
refuses_or None a = a

-- the parts up to the first that is refused, and then their end
abbrev pub by_parts : {F : Type 0} → Summary F → End F → Taken F → Message F → Answer F
by_parts S e t [] = ended t
by_parts S e t (p ∷ M) = refuses_or (refusal (next t.place p)) (by_parts S e (taken S e t p) M)
