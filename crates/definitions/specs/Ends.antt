-- One end of a session: what it answers to a message, whatever the peer sends, and what it is then.
--     Stage, End                      where its session stands; who speaks, how many messages it sent, what it learned
--     initiator S P, responder S P    at the beginning: the initiator's first message is sent
--     answer S e M, after S e M       what the end answers to M, and the end after that
--     heard S e Ms                    the end after these messages
--     is_over s                       whether the session is over
--     initiator_at S I R k, responder_at S I R k      the two ends of a talk, which heard their share of its first k
--                                                     messages
use Rattle.std.specs.Prelude.{ℕ, ◌+◌, nat_le, length, Bool, true, false, List, [], Option, Some, None, fold}
use Rattle.std.specs.Prelude.{if◌then◌else◌}
use Rattle.definitions.specs.Fingerprints.{Summary}
use Rattle.definitions.specs.Messages.{Message, has_open, open_parts}
use Rattle.definitions.specs.Replies.{Peer, opening, reply}
use Rattle.definitions.specs.Placing.{place_fault, opening_fault}
use Rattle.definitions.specs.Talks.{Knowledge, nothing, and_then, learn, talk, of_first, of_second}
use Rattle.definitions.specs.Wire.{max_parts}
use Rattle.definitions.specs.Refusals.{too_many_parts, spent}

pub data Stage (F : Type 0) : Type 0 where
  -- a responder that has received nothing, and whether the first message may cut
  Fresh : (cut : Bool) → Stage F
  -- the own message that was sent last waits for the peer's: these are its open parts
  Waits : (own : Message F) → Stage F
  -- a message without open part was sent or received
  Over : Stage F
  -- a message was refused
  Spent : Stage F

pub record End (F : Type 0) : Type 0 where
  pub peer : Peer
  pub stage : Stage F
  pub sent : ℕ
  pub learned : Knowledge

abbrev pub responder : {F : Type 0} → Summary F → Peer → End F
responder S P = record { peer = P; stage = Fresh S.may_cut; sent = 0; learned = nothing }

abbrev pub initiator : {F : Type 0} → Summary F → Peer → End F
initiator S P = record { peer = P; stage = Waits (opening S P); sent = 1; learned = nothing }

pub data Answer (F : Type 0) : Type 0 where
  Replies : (reply : Message F) → Answer F
  -- the message received had no open part
  Ends : Answer F
  Refuses : (code : ℕ) → Answer F

-- why a message is refused, where it is: a spent end and an end whose session is over take none
abbrev pub stage_fault : {F : Type 0} → Stage F → Message F → Option ℕ
stage_fault (Fresh cut) M = opening_fault cut M
stage_fault (Waits own) M = place_fault own M
stage_fault Over M = Some spent
stage_fault Spent M = Some spent

-- the open parts of the own message that the next one answers: the first message of all answers nothing
abbrev pub own_of : {F : Type 0} → Stage F → Message F
own_of (Fresh cut) = []
own_of (Waits own) = own
own_of Over = []
own_of Spent = []

-- the message has no more parts than a message may have
abbrev pub is_sendable : {F : Type 0} → Message F → Bool
is_sendable M = nat_le (length M) max_parts

abbrev pub reply_or_refuse : {F : Type 0} → Message F → Answer F
reply_or_refuse N = if is_sendable N then Replies N else Refuses too_many_parts

abbrev pub answer_unless : {F : Type 0} → Summary F → Peer → Message F → Option ℕ → Answer F
answer_unless S P M (Some code) = Refuses code
answer_unless S P M None = if has_open M then reply_or_refuse (reply S P M) else Ends

-- a refusal of the placing comes first
abbrev pub answer : {F : Type 0} → Summary F → End F → Message F → Answer F
answer S e M = answer_unless S e.peer M (stage_fault e.stage M)

abbrev pub stage_after_reply : {F : Type 0} → Message F → Stage F
stage_after_reply N = if has_open N then Waits (open_parts N) else Over

abbrev pub gained : {F : Type 0} → End F → Message F → Knowledge
gained e M = and_then e.learned (learn e.peer.items (own_of e.stage) M)

-- a refusal leaves nothing learned
abbrev pub after_answer : {F : Type 0} → End F → Message F → Answer F → End F
after_answer e M (Replies N) = record e { stage = stage_after_reply N; sent = e.sent + 1; learned = gained e M }
after_answer e M Ends = record e { stage = Over; learned = gained e M }
after_answer e M (Refuses code) = record e { stage = Spent; learned = nothing }

abbrev pub is_live : {F : Type 0} → Stage F → Bool
is_live (Fresh cut) = true
is_live (Waits own) = true
is_live Over = false
is_live Spent = false

-- an end that is spent or whose session is over stays as it is
abbrev pub after : {F : Type 0} → Summary F → End F → Message F → End F
after S e M = if is_live e.stage then after_answer e M (answer S e M) else e

abbrev pub heard : {F : Type 0} → Summary F → End F → List (Message F) → End F
heard S e Ms = fold (after S) e Ms

-- each hears what the other sent
abbrev pub initiator_at : {F : Type 0} → Summary F → Peer → Peer → ℕ → End F
initiator_at S I R k = heard S (initiator S I) (of_second (talk S I R k))

abbrev pub responder_at : {F : Type 0} → Summary F → Peer → Peer → ℕ → End F
responder_at S I R k = heard S (responder S R) (of_first (talk S I R k))

-- the session of an end at this stage is over
abbrev pub is_over : {F : Type 0} → Stage F → Bool
is_over (Fresh cut) = false
is_over (Waits own) = false
is_over Over = true
is_over Spent = false
