-- Reading one after the other, as a loop does.
use Rattle.std.proofs.Common.{◌≡◌, ℕ, suc, ◌-◌, ◌+◌, ◌≤◌, ◌<◌, List, [], ◌∷◌, ◌++◌, Option, Some, Result, Ok}
use Rattle.std.proofs.Common.{Err, refl, sym, ap, ◌∙◌, append_assoc, arith}
use Rattle.std.proofs.lemmas.List.{append-nil}
use Rattle.definitions.specs.Items.{Item, Range}
use Rattle.definitions.specs.Reading.{◌>>=◌, item_at, items_at}
use Rattle.wire_core.specs.Refused.{fault_number, Fails}
use Rattle.wire_core.specs.declared.fault.DecodeError.{DecodeError}
use Rattle.wire_core.specs.declared.fault.DecodeError.TheVariants as errors

-- what was read before, and what is still read
abbrev pub with_items : List Item → Result (List Item × List ℕ) ℕ → Result (List Item × List ℕ) ℕ
with_items front read = read >>= λ x. Ok (front ++ x.0, x.1)

regroup : (front : List Item) (x : Item) (read : Result (List Item × List ℕ) ℕ) →
    with_items front (read >>= λ xs. Ok (x ∷ xs.0, xs.1)) ≡ with_items (front ++ x ∷ []) read
regroup front x (Ok xs) = ap (λ (ns : List Item). Ok (ns, xs.1)) (simp append_assoc)
regroup front x (Err f) = refl

pub items_go_on : (X : Range) (front : List Item) (count i : ℕ) (before : Option Item) (bytes : List ℕ) (x : Item)
    (after : List ℕ) (total : Result (List Item × List ℕ) ℕ) →
    i < count → item_at X before bytes ≡ Ok (x, after) →
    with_items front (items_at X (count - i) before bytes) ≡ total →
    with_items (front ++ x ∷ []) (items_at X (count - (i + 1)) (Some x) after) ≡ total
items_go_on X front count i before bytes x after total lt h so_far =
    let k : count - i ≡ suc (count - (i + 1)) = omega arith in
    let one : with_items front (items_at X (count - i) before bytes)
    ≡ with_items (front ++ x ∷ []) (items_at X (count - (i + 1)) (Some x) after) =
    rw (k, h) (regroup front x (items_at X (count - (i + 1)) (Some x) after)) in
    sym one ∙ so_far

pub items_end : (X : Range) (e : DecodeError) (front : List Item) (count i : ℕ) (before : Option Item) (bytes : List ℕ)
    (total : Result (List Item × List ℕ) ℕ) →
    i < count → Fails e (item_at X before bytes) → with_items front (items_at X (count - i) before bytes) ≡ total →
    Fails e total
items_end X errors.Memory front count i before bytes total lt h so_far = tt
items_end X (errors.Fault f) front count i before bytes total lt h so_far =
    let k : count - i ≡ suc (count - (i + 1)) = omega arith in
    let one : with_items front (items_at X (count - i) before bytes) ≡ Err (fault_number f) = rw (k, h) refl in
    sym so_far ∙ one

pub items_are_done : (X : Range) (front : List Item) (count i : ℕ) (before : Option Item) (bytes : List ℕ)
    (total : Result (List Item × List ℕ) ℕ) →
    count ≤ i → with_items front (items_at X (count - i) before bytes) ≡ total → total ≡ Ok (front, bytes)
items_are_done X front count i before bytes total le so_far =
    let k : count - i ≡ 0 = omega arith in
    let one : with_items front (items_at X (count - i) before bytes) ≡ Ok (front, bytes) =
    rw k (ap (λ (ns : List Item). Ok (ns, bytes)) (append-nil front)) in
    sym so_far ∙ one
