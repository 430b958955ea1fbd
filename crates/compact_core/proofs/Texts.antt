-- Texts, written step by step.
use Rattle.std.proofs.Common.{◌≡◌, ℕ, zero, suc, ◌+◌, ◌*◌, ◌/◌, ◌^◌, ◌≤◌, ◌<◌, List, [], ◌∷◌, ◌++◌, Bool, true, false}
use Rattle.std.proofs.Common.{refl, sym, ap, ◌∙◌, append_assoc, append-nil, arith, rules, length, drop, get_or}
use Rattle.std.proofs.Common.{length-append}
use Rattle.std.proofs.Common.{length-drop}
use Rattle.std.specs.Prelude.{flat_map, ◌==◌, if◌then◌else◌, nat_lt, min}
use Rattle.definitions.proofs.Lemmas.{ltb-true, ltb-false}
use Rattle.std.proofs.lemmas.List.{drop_more, drop_all}
use Rattle.definitions.specs.Items.{Item, Range}
use Rattle.definitions.specs.Messages.{Listing, Answer}
use Rattle.definitions.specs.Wire.{Profile, IsPart, body, short_text, range_text, items_text, marks_text, count_text}
use Rattle.definitions.specs.Wire.{mark_bytes, mark_bytes_for}
use Rattle.definitions.specs.Compact.{shared, number_text, common_length, entry_text, entries_text, compact_items}
use Rattle.definitions.specs.Compact.{compact_marks}
use Rattle.laws.proofs.Marks.{length-mark_bytes}

-- ---- the beginning that two share

nothing_shared : (x : List ℕ) → shared x [] ≡ 0
nothing_shared [] = refl
nothing_shared (a ∷ x) = refl

shared_left_ends : (x y : List ℕ) (i : ℕ) → length x ≤ i → shared (drop i x) (drop i y) ≡ 0
shared_left_ends x y i high = ap (λ (t : List ℕ). shared t (drop i y)) (drop_all i x high)

shared_right_ends : (x y : List ℕ) (i : ℕ) → length y ≤ i → shared (drop i x) (drop i y) ≡ 0
shared_right_ends x y i high = ap (shared (drop i x)) (drop_all i y high) ∙ nothing_shared (drop i x)

pub shared_end : (x y : List ℕ) (i most : ℕ) → most ≡ min (length x) (length y) → most ≤ i → i ≤ most →
    i + shared (drop i x) (drop i y) ≡ shared x y → most ≡ shared x y
shared_end x y i most is high low so_far = cases (nat_lt (length y) (length x)) refl where
  cases : (b : Bool) → nat_lt (length y) (length x) ≡ b → most ≡ shared x y
  cases true h =
      let less : length y < length x = ltb-true _ _ h in
      let none = shared_right_ends x y i (omega arith) in omega arith
  cases false h =
      let least : length x ≤ length y = ltb-false _ _ h in
      let none = shared_left_ends x y i (omega arith) in omega arith

-- ---- items

pub entries_more : (width : ℕ) (before held out next text : List ℕ) (items : List Item) (i : ℕ) (x : Item) →
    i < length items → x ≡ get_or items i x → next ≡ out ++ entry_text width before x → held ≡ x →
    out ++ entries_text width before (drop i items) ≡ text → next ++ entries_text width held (drop (i + 1) items) ≡ text
entries_more width before held out next text items i x low at is same so_far =
    let left : drop i items ≡ x ∷ drop (i + 1) items =
    drop_more items i x low ∙ ap (λ y. y ∷ drop (i + 1) items) (sym at) in
    (λ k. is k ++ entries_text width (same k) (drop (i + 1) items))
    ∙ append_assoc out (entry_text width before x) (entries_text width x (drop (i + 1) items))
    ∙ ap (λ (ys : List Item). out ++ entries_text width before ys) (sym left) ∙ so_far

pub entries_all : (width : ℕ) (before out text : List ℕ) (items : List Item) (i : ℕ) → length items ≤ i →
    out ++ entries_text width before (drop i items) ≡ text → out ≡ text
entries_all width before out text items i high so_far =
    sym (append-nil out)
    ∙ ap (λ (ys : List Item). out ++ entries_text width before ys) (sym (drop_all i items high)) ∙ so_far

-- ---- lengths

entry_short : (width : ℕ) (before x : List ℕ) → length (entry_text width before x) ≤ 2 + length x
entry_short width before x =
    cases (width == 0) (drop (shared before x) x) (omega (arith, length-drop (shared before x) x))
  where
    cases : (b : Bool) (rest : List ℕ) → length rest ≤ length x →
        length (shared before x ∷ (if b then length rest ∷ rest else rest)) ≤ 2 + length x
    cases true rest le = omega arith
    cases false rest le = omega arith

entries_short : (width : ℕ) (before : List ℕ) (items : List Item) →
    length (entries_text width before items) ≤ 2 * length (flat_map short_text items)
entries_short width before [] = omega arith
entries_short width before (x ∷ xs) =
    let more = entries_short width x xs in
    let own = entry_short width before x in
    let a = length-append (entry_text width before x) (entries_text width x xs) in
    let b = length-append (short_text x) (flat_map short_text xs) in
    omega arith

items_short : (lower : List ℕ) (items : List Item) →
    length (compact_items lower items) ≤ 1 + 2 * length (flat_map short_text items)
items_short lower [] = omega arith
items_short lower (x ∷ xs) =
    let all = entries_short (common_length (x ∷ xs)) lower (x ∷ xs) in omega arith

number_short : (n : ℕ) → length (number_text n) ≤ 4
number_short n = grind arith

pub list_short : {F : Type 0} (P : Profile F) (X : Range) (items : List Item) → IsPart P (Listing X items) →
    length (compact_items X.lower items) < 2 ^ 28
list_short P X items part =
    let short = part.short in
    let held = items_short X.lower items in
    let a = length-append (range_text X) (items_text items) in
    let b = length-append (count_text (length items)) (flat_map short_text items) in
    omega arith

pub marks_short : {F : Type 0} (P : Profile F) (X : Range) (marks : List Bool) (items : List Item) →
    IsPart P (Answer X marks items) → length marks < 2 ^ 28
marks_short P X marks items part =
    let short = part.short in
    let a = length-append (range_text X) (marks_text marks ++ items_text items) in
    let b = length-append (marks_text marks) (items_text items) in
    let d = length-append (count_text (length marks)) (mark_bytes marks) in
    let e = length-mark_bytes marks in
    omega arith

pub answer_short : {F : Type 0} (P : Profile F) (X : Range) (marks : List Bool) (items : List Item) →
    IsPart P (Answer X marks items) → length (compact_marks marks ++ compact_items X.lower items) < 2 ^ 28
answer_short P X marks items part =
    let short = part.short in
    let held = items_short X.lower items in
    let number = number_short (length marks) in
    let a = length-append (range_text X) (marks_text marks ++ items_text items) in
    let b = length-append (marks_text marks) (items_text items) in
    let d = length-append (count_text (length marks)) (mark_bytes marks) in
    let e = length-append (count_text (length items)) (flat_map short_text items) in
    let f = length-append (number_text (length marks)) (mark_bytes marks) in
    let h = length-append (compact_marks marks) (compact_items X.lower items) in
    omega arith
