-- What an end answers, as the definitions have it.
--     end_fault_number f     the number of a refusal
--     told_in result         whether a part was taken, or the number of its refusal, unless memory ran out
--     answer_in result       the answer, unless memory ran out
--     after_part S h p o, after_end h a   the end after a part, and after the end of a message
--     after_message S h M a the end after the parts of a message and its end
--     after S h M           the end after a message, of which it had taken no part
--     Comes s M              the message may come at this stage
--     IsJudged h M result    what a call answers agrees with whether the message may come
use Rattle.std.specs.Prelude.{ℕ, List, Result, Ok, Err, Option, Some, None, if◌then◌else◌, fold, ⊤}
use Rattle.std.specs.List.{AllByRecursion}
use Rattle.definitions.specs.Fingerprints.{Summary}
use Rattle.definitions.specs.Theorems.{IsShort}
use Rattle.definitions.specs.Messages.{Part, Message}
use Rattle.definitions.specs.Placing.{IsOpening, Placed}
use Rattle.definitions.specs.Talks.{nothing}
use Rattle.definitions.specs.Ends.{End, Stage, Fresh, Waits, Over, Spent, Answer, Replies, Ends, Refuses, after}
use Rattle.definitions.specs.Ends.{is_live}
use Rattle.definitions.specs.Taking.{taken, nothing_taken, after_ended}
use Rattle.definitions.specs.Refusals as codes
use Rattle.place_core.specs.PlaceFaults.{place_fault_number}
use Rattle.ends_core.specs.EndStates.{EndState}
use Rattle.ends_core.specs.declared.turn.Turn.{Turn}
use Rattle.ends_core.specs.declared.turn.Turn.TheVariants as turns
use Rattle.ends_core.specs.declared.turn.EndFault.{EndFault}
use Rattle.ends_core.specs.declared.turn.EndFault.TheVariants as faults

abbrev pub end_fault_number : EndFault → ℕ
end_fault_number (faults.Placing f) = place_fault_number f
end_fault_number faults.TooManyParts = codes.too_many_parts
end_fault_number faults.Spent = codes.spent
end_fault_number faults.Memory = codes.no_memory

abbrev pub number_of : EndFault → Option ℕ
number_of (faults.Placing f) = Some (place_fault_number f)
number_of faults.TooManyParts = Some codes.too_many_parts
number_of faults.Spent = Some codes.spent
number_of faults.Memory = None

abbrev pub some_of : Option ℕ → Option (Option ℕ)
some_of None = None
some_of (Some code) = Some (Some code)

abbrev pub told_in : Result ⊤ EndFault → Option (Option ℕ)
told_in (Ok x) = Some None
told_in (Err f) = some_of (number_of f)

abbrev pub answer_of : {F : Type 0} → Turn F → Answer F
answer_of (turns.Reply N) = Replies N
answer_of turns.Over = Ends

abbrev pub refusal_of : {F : Type 0} → EndFault → Option (Answer F)
refusal_of (faults.Placing f) = Some (Refuses (place_fault_number f))
refusal_of faults.TooManyParts = Some (Refuses codes.too_many_parts)
refusal_of faults.Spent = Some (Refuses codes.spent)
refusal_of faults.Memory = None

abbrev pub answer_in : {F : Type 0} → Result (Turn F) EndFault → Option (Answer F)
answer_in (Ok turn) = Some (answer_of turn)
answer_in (Err f) = refusal_of f

-- the end after a message, or a refusal, holds no part
abbrev pub fresh : {F : Type 0} → List ℕ → End F → EndState F
fresh steps e = record { steps = steps; end = e; taken = nothing_taken e }

abbrev pub end_after : {F : Type 0} → Summary F → EndState F → Message F → EndState F
end_after S h M = fresh h.steps (after S h.end M)

-- the message may come at this stage, by the relation
abbrev pub Comes : {F : Type 0} → Stage F → Message F → Type 0
Comes (Fresh cut) M = IsOpening cut M
Comes (Waits own) M = Placed own M
Comes Over M = ⊥
Comes Spent M = ⊥

-- a call agrees with C, that the message may come: it takes the message only then, and refuses it for its place, or
-- since the end takes none, only else
abbrev pub AgreesWith : {F : Type 0} → Type 0 → Result (Turn F) EndFault → Type 0
AgreesWith C (Ok turn) = C
AgreesWith C (Err (faults.Placing f)) = C → ⊥
AgreesWith C (Err faults.TooManyParts) = C
AgreesWith C (Err faults.Spent) = C → ⊥
AgreesWith C (Err faults.Memory) = ⊤

abbrev pub IsJudged : {F : Type 0} → EndState F → Message F → Result (Turn F) EndFault → Type 0
IsJudged h M result = AgreesWith (Comes h.end.stage M) result

-- the end after a refusal: a spent end, and one whose session is over, stays as it is
abbrev pub spend : {F : Type 0} → EndState F → EndState F
spend h = if is_live h.end.stage then fresh h.steps (record h.end { stage = Spent; learned = nothing }) else h

abbrev pub after_part : {F : Type 0} → Summary F → EndState F → Part F → Option ℕ → EndState F
after_part S h p None = record h { taken = taken S h.end h.taken p }
after_part S h p (Some code) = spend h

-- after parts that are taken
abbrev pub after_parts : {F : Type 0} → Summary F → EndState F → Message F → EndState F
after_parts S h M = record h { taken = fold (taken S h.end) h.taken M }

abbrev pub after_end : {F : Type 0} → EndState F → Answer F → EndState F
after_end h (Replies N) = fresh h.steps (after_ended h.end h.taken (Replies N))
after_end h Ends = fresh h.steps (after_ended h.end h.taken Ends)
after_end h (Refuses code) = spend h

-- the end after the parts of a message and its end: what it had taken before counts too
abbrev pub after_message : {F : Type 0} → Summary F → EndState F → Message F → Answer F → EndState F
after_message S h M (Replies N) = after_end (after_parts S h M) (Replies N)
after_message S h M Ends = after_end (after_parts S h M) Ends
after_message S h M (Refuses code) = spend h

abbrev pub refused : {F : Type 0} → EndState F → EndFault → EndState F
refused h faults.Memory = h
refused h (faults.Placing f) = spend h
refused h faults.TooManyParts = spend h
refused h faults.Spent = spend h

-- how many messages are sent
abbrev pub messages_in : {F : Type 0} → Turn F → ℕ
messages_in (turns.Reply N) = 1
messages_in turns.Over = 0

-- no List of a reply is longer than the limit
abbrev pub KeepsLimit : {F : Type 0} → EndState F → Result (Turn F) EndFault → Type 0
KeepsLimit h (Ok (turns.Reply N)) = AllByRecursion (IsShort h.end.peer.table.limit) N
KeepsLimit h (Ok turns.Over) = ⊤
KeepsLimit h (Err f) = ⊤
