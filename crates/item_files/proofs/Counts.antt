-- A list has no more items than its text has lines.
use Rattle.std.proofs.Common.{ℕ, ◌≡◌, ◌+◌, ◌≤◌, ◌<◌, Bool, true, false, List, [], ◌∷◌, ◌++◌, length, arith, subst, sym}
use Rattle.std.proofs.Common.{refl}
use Rattle.std.proofs.Common.{Option, Some, None, cond, ◌==◌}
use Rattle.std.specs.Prelude.{Result, Ok, Err, option_map}
use Rattle.std.proofs.lemmas.List.{length-append}
use Rattle.std.proofs.lemmas.List.Splits.{length-slice_split}
use Rattle.std.proofs.lemmas.List.Sums.{count_by-le-length}
use Rattle.definitions.specs.Items.{Item}
use Rattle.definitions.specs.Sets.{set_of}
use Rattle.definitions.proofs.Counts.{set_few}
use Rattle.item_files.specs.ItemFiles.{lines, items_from, file_items, line_before, line_items, content_items, bad_line}
use Rattle.item_files.specs.ItemFiles.{line_flaw, has_byte_order_mark, spelled, content_of, first_of}
use Rattle.item_files.specs.declared.form.ItemForm.{ItemForm}
use Rattle.item_files.specs.declared.bad_line.BadLine.{BadLine}
use Rattle.item_files.specs.declared.bad_line.LineFlaw.TheVariants as flaws
use Rattle.item_files.specs.PieceTexts.{feeds}

-- ---- lines

pub lines_are : (p : List ℕ) → length (lines p) ≡ feeds p + 1
lines_are p = length-slice_split (λ b. b == 10) p

pub feeds_few : (p : List ℕ) → feeds p ≤ length p
feeds_few p = count_by-le-length (λ b. b == 10) p

one_few : (o : Option Item) (xs : List Item) → option_map (λ x. x ∷ []) o ≡ Some xs → length xs ≤ 1
one_few None xs e = absurd cc
one_few (Some x) xs e = let is : x ∷ [] ≡ xs = cc in subst (λ ys. length ys ≤ 1) is (omega arith)

content_few : (form : ItemForm) (content : List ℕ) (xs : List Item) → content_items form content ≡ Some xs →
    length xs ≤ 1
content_few form [] xs e = let is : [] ≡ xs = cc in subst (λ ys. length ys ≤ 1) is (omega arith)
content_few form (b ∷ bs) xs e = one_few (spelled form (b ∷ bs)) xs e

line_few : (bad : BadLine) (o : Option (List Item)) (r : Result (List Item) BadLine) (xs : List Item) (m : ℕ) →
    ((ys : List Item) → o ≡ Some ys → length ys ≤ 1) → ((ys : List Item) → r ≡ Ok ys → length ys ≤ m) →
    line_before bad o r ≡ Ok xs → length xs ≤ m + 1
line_few bad None r xs m one rest e = absurd cc
line_few bad (Some ys) (Err b) xs m one rest e = absurd cc
line_few bad (Some ys) (Ok zs) xs m one rest e =
    let is : ys ++ zs ≡ xs = cc in
    subst (λ (us : List Item). length us ≤ m + 1) is (omega (arith, one ys refl, rest zs refl, length-append ys zs))

items_few : (form : ItemForm) (n : ℕ) (ls : List (List ℕ)) (xs : List Item) → items_from form n ls ≡ Ok xs →
    length xs ≤ length ls
items_few form n [] xs e = let is : [] ≡ xs = cc in subst (λ (us : List Item). length us ≤ 0) is (omega arith)
items_few form n (l ∷ ls) xs e =
    let few = line_few (bad_line (line_flaw form l) n l) (line_items form l) (items_from form (n + 1) ls) xs (length ls)
    (content_few form (content_of form l)) (items_few form (n + 1) ls) e in
    omega (arith, few)

number_few : (bad : BadLine) (o : Option (List Item)) (r : Result (List Item) BadLine) (b : BadLine) (m : ℕ) →
    bad.number < m → ((c : BadLine) → r ≡ Err c → c.number < m) → line_before bad o r ≡ Err b → b.number < m
number_few bad None r b m here rest e =
    let is : bad ≡ b = cc in subst (λ (c : BadLine). c.number < m) is here
number_few bad (Some ys) (Ok zs) b m here rest e = absurd cc
number_few bad (Some ys) (Err c) b m here rest e =
    let is : c ≡ b = cc in subst (λ (d : BadLine). d.number < m) is (rest c refl)

numbers_few : (form : ItemForm) (n : ℕ) (ls : List (List ℕ)) (b : BadLine) → items_from form n ls ≡ Err b →
    b.number < n + length ls
numbers_few form n [] b e = absurd cc
numbers_few form n (l ∷ ls) b e =
    number_few (bad_line (line_flaw form l) n l) (line_items form l) (items_from form (n + 1) ls) b
    (n + length (l ∷ ls)) (omega arith) (λ c is. let few = numbers_few form (n + 1) ls c is in omega (arith, few)) e

-- ---- texts

mark_few : (form : ItemForm) (p : List ℕ) (c : Bool) (xs : List Item) →
    cond c (Err (bad_line flaws.ByteOrderMark 1 (first_of (lines p)))) (items_from form 1 (lines p)) ≡ Ok xs →
    length xs ≤ length p + 1
mark_few form p true xs e = absurd cc
mark_few form p false xs e = omega (arith, items_few form 1 (lines p) xs e, lines_are p, feeds_few p)

pub items_of_few : (form : ItemForm) (p : List ℕ) (xs : List Item) → file_items form p ≡ Ok xs →
    length (set_of xs) ≤ length p + 1
items_of_few form p xs e = omega (arith, mark_few form p (has_byte_order_mark p) xs e, set_few xs)

mark_number : (form : ItemForm) (p : List ℕ) (c : Bool) (b : BadLine) →
    cond c (Err (bad_line flaws.ByteOrderMark 1 (first_of (lines p)))) (items_from form 1 (lines p)) ≡ Err b →
    b.number ≤ length p + 1
mark_number form p true b e =
    let is : bad_line flaws.ByteOrderMark 1 (first_of (lines p)) ≡ b = cc in
    subst (λ (d : BadLine). d.number ≤ length p + 1) is (omega arith)
mark_number form p false b e = omega (arith, numbers_few form 1 (lines p) b e, lines_are p, feeds_few p)

pub number_of_few : (form : ItemForm) (p : List ℕ) (b : BadLine) → file_items form p ≡ Err b →
    b.number ≤ length p + 1
number_of_few form p b e = mark_number form p (has_byte_order_mark p) b e
