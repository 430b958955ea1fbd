-- Reading a message part by part, as a loop does.
use Rattle.std.proofs.Common.{◌≡◌, ℕ, zero, suc, ◌+◌, ◌-◌, ◌<◌, List, [], ◌∷◌, ◌++◌, length, Option, Some, None, true}
use Rattle.std.proofs.Common.{Result, Ok, Err, refl, sym, ap, ◌∙◌, append_assoc, arith, rules}
use Rattle.std.specs.Prelude.{nat_lt}
use Rattle.std.proofs.lemmas.List.{append-nil, length-append}
use Rattle.definitions.specs.Messages.{Part, Message}
use Rattle.definitions.specs.Wire.{Profile, Event, Came, Ended, One_message}
use Rattle.definitions.specs.Refusals.{truncated, trailing}
use Rattle.definitions.specs.Reading.{◌>>=◌, event_at}
use Rattle.definitions.specs.Streams.{message_from, message_by, message_ends}
use Rattle.wire_core.specs.Readers.{whole_frame, next_at, event_of}
use Rattle.wire_core.specs.Refused.{fault_number, Fails}
use Rattle.wire_core.specs.declared.fault.DecodeError.{DecodeError}
use Rattle.wire_core.specs.declared.fault.DecodeError.TheVariants as errors

-- what was read before, and what is still read
abbrev pub with_parts : {F : Type 0} → Message F → Result (Message F) ℕ → Result (Message F) ℕ
with_parts front read = read >>= λ ps. Ok (front ++ ps)

by_next : {F : Type 0} (r : Result (Option (Event F × List ℕ)) ℕ)
    (more : List ℕ → Result (Message F) ℕ) (e : Event F) (rest : List ℕ) →
    (r >>= whole_frame) ≡ Ok (e, rest) → message_by r more ≡ message_ends e rest (more rest)
by_next (Err code) more e rest h = absurd cc
by_next (Ok None) more e rest h = absurd cc
by_next (Ok (Some x)) more e rest h =
    let both : x ≡ (e, rest) = cc in
    λ i. message_ends (both i).0 (both i).1 (more (both i).1)

by_fault : {F : Type 0} (r : Result (Option (Event F × List ℕ)) ℕ) (more : List ℕ → Result (Message F) ℕ) (code : ℕ) →
    (r >>= whole_frame) ≡ Err code → message_by r more ≡ Err code
by_fault (Err e) more code h = let same : e ≡ code = cc in ap (λ (n : ℕ). Err n) same
by_fault (Ok None) more code h = let same : truncated ≡ code = cc in ap (λ (n : ℕ). Err n) same
by_fault (Ok (Some x)) more code h = absurd cc

regroup : {F : Type 0} (front : Message F) (p : Part F) (read : Result (Message F) ℕ) →
    with_parts front (read >>= λ ps. Ok (p ∷ ps)) ≡ with_parts (front ++ p ∷ []) read
regroup {F} front p (Ok ps) = ap (λ (qs : Message F). Ok qs) (simp append_assoc)
regroup front p (Err e) = refl

pub parts_go_on : {F : Type 0} (P : Profile F) (fuel : ℕ) (front : Message F) (bytes : List ℕ) (p : Part F)
    (rest : List ℕ) (total : Result (Message F) ℕ) → 0 < fuel →
    next_at P (length front) bytes ≡ Ok (Came p, rest) →
    with_parts front (message_from P fuel (length front) bytes) ≡ total →
    with_parts (front ++ p ∷ []) (message_from P (fuel - 1) (length (front ++ p ∷ [])) rest) ≡ total
parts_go_on P zero front bytes p rest total some read so_far = absurd (omega arith)
parts_go_on P (suc fuel) front bytes p rest total some read so_far =
    let more = message_from P fuel (length front + 1) in
    let one = by_next (event_at P One_message (length front) bytes) more (Came p) rest read in
    let count : length (front ++ p ∷ []) ≡ length front + 1 = omega (arith, length-append front (p ∷ [])) in
    let left : suc fuel - 1 ≡ fuel = omega arith in
    (λ i. with_parts (front ++ p ∷ []) (message_from P (left i) (count i) rest))
    ∙ sym (regroup front p (more rest)) ∙ sym (ap (with_parts front) one) ∙ so_far

pub parts_fail : {F : Type 0} (P : Profile F) (e : DecodeError) (fuel : ℕ) (front : Message F) (bytes : List ℕ)
    (total : Result (Message F) ℕ) → 0 < fuel → Fails e (next_at P (length front) bytes) →
    with_parts front (message_from P fuel (length front) bytes) ≡ total → Fails e total
parts_fail P errors.Memory fuel front bytes total some h so_far = tt
parts_fail P (errors.Fault f) zero front bytes total some h so_far = absurd (omega arith)
parts_fail P (errors.Fault f) (suc fuel) front bytes total some h so_far =
    let more = message_from P fuel (length front + 1) in
    let one = by_fault (event_at P One_message (length front) bytes) more (fault_number f) h in
    sym so_far ∙ ap (with_parts front) one

-- what was read after so many parts, by the name that it has now
pub read_after : {F : Type 0} (P : Profile F) (n m : ℕ) (bytes after : List ℕ) (o p : Option (Part F)) → n ≡ m →
    next_at P n bytes ≡ Ok (event_of o, after) → o ≡ p → next_at P m bytes ≡ Ok (event_of p, after)
read_after P n m bytes after o p count read is = ap (λ k. next_at P k bytes) (sym count) ∙ read
    ∙ ap (λ q. Ok (event_of q, after)) is

ended : {F : Type 0} (P : Profile F) (fuel : ℕ) (front : Message F) (bytes rest : List ℕ)
    (total : Result (Message F) ℕ) → 0 < fuel → next_at P (length front) bytes ≡ Ok (Ended, rest) →
    with_parts front (message_from P fuel (length front) bytes) ≡ total →
    total ≡ with_parts front (message_ends Ended rest (Ok []))
ended P zero front bytes rest total some read so_far = absurd (omega arith)
ended P (suc fuel) front bytes rest total some read so_far =
    let more = message_from P fuel (length front + 1) in
    let one = by_next (event_at P One_message (length front) bytes) more Ended rest read in
    sym so_far ∙ ap (with_parts front) one

pub parts_end : {F : Type 0} (P : Profile F) (fuel : ℕ) (front : Message F) (bytes rest : List ℕ)
    (total : Result (Message F) ℕ) → 0 < fuel → next_at P (length front) bytes ≡ Ok (Ended, rest) → length rest ≡ 0 →
    with_parts front (message_from P fuel (length front) bytes) ≡ total → total ≡ Ok front
parts_end {F} P fuel front bytes [] total some read none so_far = ended P fuel front bytes [] total some read so_far
    ∙ ap (λ (ps : Message F). Ok ps) (append-nil front)
parts_end P fuel front bytes (b ∷ rest) total some read none so_far = absurd (omega arith)

pub parts_trail : {F : Type 0} (P : Profile F) (fuel : ℕ) (front : Message F) (bytes rest : List ℕ)
    (total : Result (Message F) ℕ) → 0 < fuel → next_at P (length front) bytes ≡ Ok (Ended, rest) → 0 < length rest →
    with_parts front (message_from P fuel (length front) bytes) ≡ total → total ≡ Err trailing
parts_trail P fuel front bytes rest total some read left so_far =
    let above : nat_lt 0 (length rest) ≡ true = search (rules, left) in
    ended P fuel front bytes rest total some read so_far ∙ rw above refl
