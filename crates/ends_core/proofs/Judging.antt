-- What an end answers agrees with whether the message may come.
use Rattle.std.proofs.Common.{◌≡◌, ℕ, ◌<◌, Bool, true, false, List, [], ◌∷◌, not, ◌&&◌, ◌==◌, length, if◌then◌else◌}
use Rattle.std.proofs.Common.{Option, Some, None, IfSome, Result, Ok, Err, refl, fold, arith}
use Rattle.std.specs.Prelude.{◌↔◌, ⊤}
use Rattle.std.specs.List.{list_any}
use Rattle.definitions.specs.Items.{Apart, Range, same_item, same_range, same_upper, whole}
use Rattle.definitions.specs.Sets.{has}
use Rattle.definitions.specs.Fingerprints.{Summary}
use Rattle.definitions.specs.Messages.{Part, Sum, Listing, Answer, Message, RangesRise, has_open, open_ranges}
use Rattle.definitions.specs.Placing.{Place, First, After, Refused, placed_to, ends_before, next, next_first}
use Rattle.definitions.specs.Placing.{next_inside, next_outside, next_sum, is_list, finish, place_after}
use Rattle.definitions.specs.Refusals.{too_many_parts}
use Rattle.definitions.specs.Replies.{Peer, reply}
use Rattle.definitions.specs.Theorems.{PlacingIsExact, OpeningIsExact}
use Rattle.definitions.specs.Ends.{Stage, Fresh, Waits, Over, Spent, Replies, Ends, Refuses, answer, answer_unless}
use Rattle.definitions.specs.Ends.{own_of, stage_fault, is_sendable}
use Rattle.place_core.specs.declared.fault.PlaceFault.{PlaceFault}
use Rattle.place_core.specs.declared.fault.PlaceFault.TheVariants as places
use Rattle.place_core.specs.PlaceFaults.{place_fault_number}
use Rattle.ends_core.specs.EndStates.{EndState}
use Rattle.ends_core.specs.Turns.{AgreesWith, IsJudged, Comes, answer_in}
use Rattle.ends_core.specs.declared.turn.Turn.{Turn}
use Rattle.ends_core.specs.declared.turn.Turn.TheVariants as turns
use Rattle.ends_core.specs.declared.turn.EndFault.{EndFault}
use Rattle.ends_core.specs.declared.turn.EndFault.TheVariants as faults

-- ---- no place is refused as one part too many

-- a refusal that a place keeps
abbrev Keeps : {F : Type 0} → Place F → Type 0
Keeps (First cut) = ⊤
Keeps (After left inside) = ⊤
Keeps (Refused code) = too_many_parts < code

either : {F : Type 0} (b : Bool) (p q : Place F) → Keeps p → Keeps q → Keeps (if b then p else q)
either true p q k l = k
either false p q k l = l

to : {F : Type 0} (left : Message F) (y u : Option (List ℕ)) → Keeps (placed_to left y u)
to left None u = tt
to left (Some y) u = tt

sum : {F : Type 0} (left : Message F) (X Y : Range) → Keeps (next_sum left X Y)
sum left X Y =
    either (same_upper X.upper Y.upper) _ _ (omega arith)
    (either (ends_before Y.upper X.upper) _ _ (to left Y.upper X.upper) (omega arith))

inside : {F : Type 0} (left : Message F) (Z : Range) (p : Part F) → Keeps (next_inside left Z p)
inside left Z (Sum Y f) =
    either (same_range Y Z) _ _ tt
    (either (same_item Y.lower Z.lower && ends_before Y.upper Z.upper) _ _ (to left Y.upper Z.upper) (omega arith))
inside left Z (Listing Y items) = omega arith
inside left Z (Answer Y marks items) = omega arith

outside : {F : Type 0} (left : Message F) (p : Part F) → Keeps (next_outside left p)
outside [] p = omega arith
outside (Listing X listed ∷ left) (Sum Y f) = omega arith
outside (Listing X listed ∷ left) (Listing Y items) = omega arith
outside (Listing X listed ∷ left) (Answer Y marks items) =
    either (not (same_range X Y)) _ _ (omega arith)
    (either (not (length marks == length listed)) _ _ (omega arith)
    (either (list_any (has listed) items) _ _ (omega arith) tt))
outside (Sum X f ∷ left) (Sum Y g) = either (same_item X.lower Y.lower) _ _ (sum left X Y) (outside left (Sum Y g))
outside (Sum X f ∷ left) (Listing Y items) = either (same_range X Y) _ _ tt (outside left (Listing Y items))
outside (Sum X f ∷ left) (Answer Y marks items) = outside left (Answer Y marks items)
outside (Answer X marks items ∷ left) p = outside left p

first : {F : Type 0} (cut : Bool) (p : Part F) → Keeps (next_first cut p)
first cut (Sum Y f) = either (same_range Y whole) _ _ tt
    (either (cut && same_item Y.lower whole.lower && ends_before Y.upper whole.upper) _ _ (to [] Y.upper whole.upper)
    (omega arith))
first cut (Listing Y items) = omega arith
first cut (Answer Y marks items) = omega arith

step : {F : Type 0} (p : Place F) (q : Part F) → Keeps p → Keeps (next p q)
step (First cut) q k = first cut q
step (After left None) q k = outside left q
step (After left (Some Z)) q k = inside left Z q
step (Refused code) q k = k

steps : {F : Type 0} (M : Message F) (p : Place F) → Keeps p → Keeps (fold next p M)
steps [] p k = k
steps (q ∷ M) p k = steps M (next p q) (step p q k)

abbrev IsOther : Option ℕ → Type 0
IsOther fault = IfSome fault (λ code. too_many_parts < code)

where-any : (b : Bool) (code : ℕ) → too_many_parts < code → IsOther (if b then Some code else None)
where-any true code k = k
where-any false code k = tt

finished : {F : Type 0} (p : Place F) → Keeps p → IsOther (finish p)
finished (First cut) k = omega arith
finished (After left None) k = where-any (list_any is_list left) _ (omega arith)
finished (After left (Some Z)) k = omega arith
finished (Refused code) k = k

other : {F : Type 0} (s : Stage F) (M : Message F) → IsOther (stage_fault s M)
other (Fresh cut) M = finished (fold next (First cut) M) (steps M (First cut) tt)
other (Waits own) M = finished (fold next (place_after own) M) (steps M (place_after own) tt)
other Over M = omega arith
other Spent M = omega arith

-- ---- where a message may come it is not refused for that

exact : {F : Type 0} (s : Stage F) (M : Message F) → PlacingIsExact F → OpeningIsExact F →
    Apart (open_ranges (own_of s)) → RangesRise M → (stage_fault s M ≡ None) ↔ Comes s M
exact (Fresh cut) M placing opening apart rise = opening cut M
exact (Waits own) M placing opening apart rise = placing own M apart rise
exact Over M placing opening apart rise = ((λ no. absurd (cc)), (λ no. absurd no))
exact Spent M placing opening apart rise = ((λ no. absurd (cc)), (λ no. absurd no))

-- a message without fault is not refused by another number than that of too many parts
taken : {F : Type 0} (b c : Bool) (N : Message F) (code : ℕ) → too_many_parts < code →
    Refuses code ≡ (if b then (if c then Replies N else Refuses too_many_parts) else Ends) → ⊥
taken true true N code above e = absurd (cc)
taken true false N code above e = let same : code ≡ too_many_parts = cc in omega arith
taken false c N code above e = absurd (cc)

place_number : (f : PlaceFault) → too_many_parts < place_fault_number f
place_number places.Misplaced = omega arith
place_number places.Stall = omega arith
place_number places.Gap = omega arith
place_number places.MissingAnswer = omega arith
place_number places.MarkCount = omega arith
place_number places.AnswerRepeats = omega arith

agrees : {F : Type 0} (S : Summary F) (P : Peer) (M : Message F) (fault : Option ℕ) (C : Type 0)
    (r : Result (Turn F) EndFault) →
    (fault ≡ None) ↔ C → IsOther fault →
    IfSome (answer_in r) (λ a. a ≡ answer_unless S P M fault) → AgreesWith C r
agrees S P M None C (Ok turn) comes late same = comes.0 refl
agrees S P M None C (Err (faults.Placing f)) comes late same =
    let N = reply S P M in
    absurd (taken (has_open M) (is_sendable N) N (place_fault_number f) (place_number f) same)
agrees S P M None C (Err faults.TooManyParts) comes late same = comes.0 refl
agrees S P M None C (Err faults.Spent) comes late same =
    let N = reply S P M in
    absurd (taken (has_open M) (is_sendable N) N _ (omega arith) same)
agrees S P M None C (Err faults.Memory) comes late same = tt
agrees S P M (Some code) C (Ok (turns.Reply N)) comes late same = absurd (cc)
agrees S P M (Some code) C (Ok turns.Over) comes late same = absurd (cc)
agrees S P M (Some code) C (Err (faults.Placing f)) comes late same = λ may. let none = comes.1 may in absurd (cc)
agrees S P M (Some code) C (Err faults.TooManyParts) comes late same =
    let is : too_many_parts ≡ code = cc in
    absurd (omega arith)
agrees S P M (Some code) C (Err faults.Spent) comes late same = λ may. let none = comes.1 may in absurd (cc)
agrees S P M (Some code) C (Err faults.Memory) comes late same = tt

pub judged : {F : Type 0} (S : Summary F) (h : EndState F) (M : Message F) (r : Result (Turn F) EndFault) →
    PlacingIsExact F → OpeningIsExact F →
    Apart (open_ranges (own_of h.end.stage)) → RangesRise M →
    IfSome (answer_in r) (λ a. a ≡ answer S h.end M) → IsJudged h M r
judged S h M r placing opening apart rise same =
    agrees S h.end.peer M (stage_fault h.end.stage M) (Comes h.end.stage M) r
    (exact h.end.stage M placing opening apart rise) (other h.end.stage M) same
