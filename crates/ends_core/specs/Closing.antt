-- Where the end of a message leads.
--     IsTaking a              it is no refusal
--     IsDue d result          by what was drafted; memory runs out only where nothing is refused
--     IsClosed h result       by what was taken
use Rattle.std.specs.Prelude.{◌≡◌, Result, Ok, Err, IfSome, IfNone, if◌then◌else◌}
use Rattle.definitions.specs.Ends.{Stage, Over, Spent, Answer, Replies, Ends, Refuses, stage_after_reply}
use Rattle.definitions.specs.Taking.{ended, replies_or_refuses}
use Rattle.ends_core.specs.EndStates.{EndState, stage_of, taken_of, none_at}
use Rattle.ends_core.specs.Drafts.{Drafted, nothing_drafted}
use Rattle.ends_core.specs.Turns.{refusal_of}
use Rattle.ends_core.specs.declared.stage.Stage as own
use Rattle.ends_core.specs.declared.turn.EndFault.{EndFault}

-- where the session stands after an answer
abbrev pub stage_after : {F : Type 0} → Answer F → Stage F
stage_after (Replies N) = stage_after_reply N
stage_after Ends = Over
stage_after (Refuses code) = Spent

abbrev pub IsTaking : {F : Type 0} → Answer F → Type 0
IsTaking (Replies N) = Unit {0}
IsTaking Ends = Unit {0}
IsTaking (Refuses code) = ⊥

-- what was drafted, where the placing refuses nothing
abbrev pub drafted_answer : {F : Type 0} → Drafted F → Answer F
drafted_answer d = if d.opens then replies_or_refuses d.reply else Ends

-- a stage after this answer, of which no part of a message was taken
pub record IsAfter {F : Type 0} (s : own.Stage F) (a : Answer F) : Type 0 where
  pub taking : IsTaking a
  pub stage : stage_of s ≡ stage_after a
  pub none : taken_of s nothing_drafted ≡ none_at (stage_after a)

abbrev pub IsDue : {F : Type 0} → Answer F → Result (own.Stage F) EndFault → Type 0
IsDue a (Ok s) = IsAfter s a
IsDue {F} a (Err f) = IfSome (refusal_of f) (λ r. r ≡ a) × IfNone (refusal_of {F = F} f) (IsTaking a)

abbrev pub IsClosed : {F : Type 0} → EndState F → Result (own.Stage F) EndFault → Type 0
IsClosed h r = IsDue (ended h.taken) r
