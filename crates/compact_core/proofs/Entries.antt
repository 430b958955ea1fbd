-- Items read one after the other, as a loop does.
use Rattle.std.proofs.Common.{◌≡◌, ℕ, suc, ◌-◌, ◌+◌, ◌≤◌, ◌<◌, List, [], ◌∷◌, ◌++◌, Bool, true, false, Option, Some}
use Rattle.std.proofs.Common.{None}
use Rattle.std.proofs.Common.{Result, Ok, Err, refl, sym, ap, ◌∙◌, append_assoc, arith, length, length-append}
use Rattle.std.proofs.lemmas.List.{append-nil}
use Rattle.definitions.specs.Items.{Item}
use Rattle.definitions.specs.CompactReading.{Reading, ◌>>=◌, gives, item_from, others_from, entries_from}
use Rattle.compact_core.specs.Readings.{Stops, Fails}
use Rattle.compact_core.specs.declared.stop.Stop.{Stop}
use Rattle.compact_core.specs.declared.stop.Stop.TheVariants as stops
use Rattle.compact_core.specs.declared.stop.ReadError.{ReadError}
use Rattle.compact_core.specs.declared.stop.ReadError.TheVariants as errors
use Rattle.wire_core.specs.Refused.{fault_number}

-- what was read before, and what is still read
abbrev pub with_items : List Item → Reading (List Item) → Reading (List Item)
with_items front read = read >>= λ x. gives (front ++ x.0) x.1

regroup : (front : List Item) (x : Item) (read : Reading (List Item)) →
    with_items front (read >>= λ xs. gives (x ∷ xs.0) xs.1) ≡ with_items (front ++ x ∷ []) read
regroup front x (Ok (Some xs)) = ap (λ (ns : List Item). Ok (Some (ns, xs.1))) (simp append_assoc)
regroup front x (Ok None) = refl
regroup front x (Err f) = refl

pub none_before : (read : Reading (List Item)) → with_items [] read ≡ read
none_before (Ok (Some xs)) = refl
none_before (Ok None) = refl
none_before (Err f) = refl

pub others_some : (more : List ℕ → Reading (List Item)) (bytes : List ℕ) → 0 < length bytes →
    others_from more bytes ≡ more bytes
others_some more [] some = absurd (omega arith)
others_some more (b ∷ bytes) some = refl

pub entries_step : (width : ℕ) (y : Option (List ℕ)) (room : ℕ) (first : Bool) (before bytes after : List ℕ) (x : Item)
    (front : List Item) (all : ℕ) → 0 < length bytes → length bytes + length front ≤ all →
    item_from width y room first before bytes ≡ gives x after →
    with_items front (others_from (entries_from (all - length front) width y room first before) bytes)
    ≡ with_items (front ++ x ∷ [])
    (others_from (entries_from (all - (length front + 1)) width y (room - (1 + length x)) false x) after)
entries_step width y room first before bytes after x front all some fuel read =
    let k : all - length front ≡ suc (all - (length front + 1)) = omega arith in
    let left : room - (1 + length x) ≡ room - suc (length x) = omega arith in
    rw (others_some (entries_from (all - length front) width y room first before) bytes some, k, read, left)
    (regroup front x
    (others_from (entries_from (all - (length front + 1)) width y (room - suc (length x)) false x) after))

pub entries_stop : (width : ℕ) (y : Option (List ℕ)) (room : ℕ) (first : Bool) (before bytes : List ℕ)
    (front : List Item) (all : ℕ) (e : ReadError) (total : Reading (List Item)) → 0 < length bytes →
    length bytes + length front ≤ all → Fails e (item_from width y room first before bytes) →
    with_items front (others_from (entries_from (all - length front) width y room first before) bytes) ≡ total →
    Fails e total
entries_stop width y room first before bytes front all errors.Memory total some fuel read so_far = tt
entries_stop width y room first before bytes front all (errors.Stop stops.Unfinished) total some fuel read so_far =
    let k : all - length front ≡ suc (all - (length front + 1)) = omega arith in
    let one : with_items front (others_from (entries_from (all - length front) width y room first before) bytes)
    ≡ Ok None =
    rw (others_some (entries_from (all - length front) width y room first before) bytes some, k, read) refl in
    sym so_far ∙ one
entries_stop width y room first before bytes front all (errors.Stop (stops.Fault f)) total some fuel read so_far =
    let k : all - length front ≡ suc (all - (length front + 1)) = omega arith in
    let one : with_items front (others_from (entries_from (all - length front) width y room first before) bytes)
    ≡ Err (fault_number f) =
    rw (others_some (entries_from (all - length front) width y room first before) bytes some, k, read) refl in
    sym so_far ∙ one

pub entries_end : (more : List ℕ → Reading (List Item)) (front : List Item) (bytes : List ℕ)
    (total : Reading (List Item)) → length bytes ≡ 0 → with_items front (others_from more bytes) ≡ total →
    total ≡ gives front bytes
entries_end more front [] total none so_far = sym so_far ∙ ap (λ (ns : List Item). gives ns []) (append-nil front)
entries_end more front (b ∷ bytes) total none so_far = absurd (omega arith)

pub entries_begin : (width : ℕ) (y : Option (List ℕ)) (room : ℕ) (lower before bytes : List ℕ) (items : List Item) →
    items ≡ [] → before ≡ lower → 0 < length bytes →
    with_items items (others_from (entries_from (length bytes - length items) width y room true before) bytes)
    ≡ entries_from (length bytes) width y room true lower bytes
entries_begin width y room lower before bytes items none same some =
    let none_len : length items ≡ 0 = ap length none in
    let all : length bytes - length items ≡ length bytes = omega arith in
    (λ i. with_items (none i) (others_from (entries_from (all i) width y room true (same i)) bytes))
    ∙ none_before (others_from (entries_from (length bytes) width y room true lower) bytes)
    ∙ others_some (entries_from (length bytes) width y room true lower) bytes some

pub entries_go_on : (width : ℕ) (y : Option (List ℕ)) (room : ℕ) (first : Bool) (before bytes after : List ℕ) (x : Item)
    (front next : List Item) (left all : ℕ) (held : List ℕ) (total : Reading (List Item)) → 0 < length bytes →
    length bytes + length front ≤ all → item_from width y room first before bytes ≡ gives x after →
    next ≡ front ++ x ∷ [] → left ≡ room - (1 + length x) → held ≡ x →
    with_items front (others_from (entries_from (all - length front) width y room first before) bytes) ≡ total →
    with_items next (others_from (entries_from (all - length next) width y left false held) after) ≡ total
entries_go_on width y room first before bytes after x front next left all held total some fuel read next_is left_is same
    so_far =
    let len : length next ≡ length front + 1 = omega (arith, ap length next_is, length-append front (x ∷ [])) in
    (λ i. with_items (next_is i) (others_from (entries_from (all - len i) width y (left_is i) false (same i)) after))
    ∙ sym (entries_step width y room first before bytes after x front all some fuel read) ∙ so_far

pub one_more : (front next : List Item) (x : Item) → next ≡ front ++ x ∷ [] → length next ≡ length front + 1
one_more front next x is = omega (arith, ap length is, length-append front (x ∷ []))
