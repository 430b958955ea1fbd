-- The items of a text that is cut in front of a line feed are those of the two parts.
use Rattle.std.proofs.Common.{ℕ, ◌≡◌, ◌+◌, ◌<◌, Bool, true, false, ◌==◌, List, [], ◌∷◌, ◌++◌, length, arith, sym, refl}
use Rattle.std.proofs.Common.{ap, ◌∙◌}
use Rattle.std.proofs.Common.{Option, Some, None, cond, append_assoc}
use Rattle.std.specs.Prelude.{Result, Ok, Err}
use Rattle.std.specs.List.{slice_split, onto_first}
use Rattle.definitions.specs.Items.{Item}
use Rattle.item_files.specs.ItemFiles.{lines, items_from, file_items, before, line_before, line_items, bad_line}
use Rattle.item_files.specs.ItemFiles.{line_flaw, has_byte_order_mark, first_of}
use Rattle.item_files.specs.declared.form.ItemForm.{ItemForm}
use Rattle.item_files.specs.declared.form.ItemForm.TheVariants as forms
use Rattle.item_files.specs.declared.bad_line.BadLine.{BadLine}
use Rattle.item_files.specs.declared.bad_line.LineFlaw.TheVariants as flaws
use Rattle.item_files.specs.PieceTexts.{feeds, later_line, joined}
use Rattle.item_files.proofs.Counts.{lines_are}

abbrev pub Outcome : Type 0
Outcome = Result (List Item) BadLine

-- what the first lines give, and then the others
abbrev pub then_lines : Outcome → Outcome → Outcome
then_lines (Ok xs) r = before xs r
then_lines (Err bad) r = Err bad

-- so many lines later
abbrev pub moved : ℕ → Outcome → Outcome
moved k (Ok ys) = Ok ys
moved k (Err bad) = Err (later_line k bad)

-- ---- lines

at_cut : (x : ℕ) (c : Bool) (A B : List (List ℕ)) → 0 < length A →
    cond c ([] ∷ (A ++ B)) (onto_first x (A ++ B)) ≡ cond c ([] ∷ A) (onto_first x A) ++ B
at_cut x true A B some = refl
at_cut x false [] B some = absurd (omega arith)
at_cut x false (a ∷ A) B some = refl

lines_cut : (p q : List ℕ) → lines (p ++ 10 ∷ q) ≡ lines p ++ lines q
lines_cut [] q = refl
lines_cut (x ∷ p) q = ap (λ Z. cond (x == 10) ([] ∷ Z) (onto_first x Z)) (lines_cut p q)
    ∙ at_cut x (x == 10) (lines p) (lines q) (omega (arith, lines_are p))

first_cut : (A B : List (List ℕ)) → 0 < length A → first_of (A ++ B) ≡ first_of A
first_cut [] B some = absurd (omega arith)
first_cut (a ∷ A) B some = refl

-- ---- items

line_then : (bad : BadLine) (o : Option (List Item)) (r s : Outcome) →
    line_before bad o (then_lines r s) ≡ then_lines (line_before bad o r) s
line_then bad None r s = refl
line_then bad (Some xs) (Ok ys) (Ok zs) = ap Ok (sym (append_assoc xs ys zs))
line_then bad (Some xs) (Ok ys) (Err e) = refl
line_then bad (Some xs) (Err e) s = refl

before_none : (r : Outcome) → before [] r ≡ r
before_none (Ok ys) = refl
before_none (Err bad) = refl

items_cut : (form : ItemForm) (n : ℕ) (ls ms : List (List ℕ)) →
    items_from form n (ls ++ ms) ≡ then_lines (items_from form n ls) (items_from form (n + length ls) ms)
items_cut form n [] ms =
    let same : n ≡ n + 0 = omega arith in
    ap (λ k. items_from form k ms) same ∙ sym (before_none (items_from form (n + 0) ms))
items_cut form n (l ∷ ls) ms =
    let same : (n + 1) + length ls ≡ n + length (l ∷ ls) = omega arith in
    let bad : BadLine = bad_line (line_flaw form l) n l in
    ap (line_before bad (line_items form l)) (items_cut form (n + 1) ls ms
    ∙ ap (λ k. then_lines (items_from form (n + 1) ls) (items_from form k ms)) same)
    ∙ line_then bad (line_items form l) (items_from form (n + 1) ls) (items_from form (n + length (l ∷ ls)) ms)

line_moved : (k : ℕ) (bad : BadLine) (o : Option (List Item)) (r : Outcome) →
    line_before (later_line k bad) o (moved k r) ≡ moved k (line_before bad o r)
line_moved k bad None r = refl
line_moved k bad (Some xs) (Ok ys) = refl
line_moved k bad (Some xs) (Err e) = refl

items_moved : (form : ItemForm) (n k : ℕ) (ls : List (List ℕ)) →
    items_from form (n + k) ls ≡ moved k (items_from form n ls)
items_moved form n k [] = refl
items_moved form n k (l ∷ ls) =
    let same : (n + k) + 1 ≡ (n + 1) + k = omega arith in
    ap (line_before (bad_line (line_flaw form l) (n + k) l) (line_items form l))
    (ap (λ m. items_from form m ls) same ∙ items_moved form (n + 1) k ls)
    ∙ line_moved k (bad_line (line_flaw form l) n l) (line_items form l) (items_from form (n + 1) ls)

-- ---- texts

mark_cut : (p q : List ℕ) → has_byte_order_mark (p ++ 10 ∷ q) ≡ has_byte_order_mark p
mark_cut [] q = refl
mark_cut (a ∷ []) q = refl
mark_cut (a ∷ b ∷ []) q = refl
mark_cut (a ∷ b ∷ c ∷ p) q = refl

-- a line feed at the front is an empty line
feed_first : (form : ItemForm) (q : List ℕ) → file_items form (10 ∷ q) ≡ items_from form 2 (lines q)
feed_first forms.Hex q = before_none (items_from forms.Hex 2 (lines q))
feed_first forms.Text q = before_none (items_from forms.Text 2 (lines q))
feed_first forms.Hash q = before_none (items_from forms.Hash 2 (lines q))

file_as : (form : ItemForm) (p : List ℕ) (c : Bool) → has_byte_order_mark p ≡ c →
    file_items form p
    ≡ cond c (Err (bad_line flaws.ByteOrderMark 1 (first_of (lines p)))) (items_from form 1 (lines p))
file_as form p c e = ap (λ (d : Bool).
    cond d (Err (bad_line flaws.ByteOrderMark 1 (first_of (lines p)))) (items_from form 1 (lines p))) e

pub cut : (form : ItemForm) (p q : List ℕ) →
    file_items form (p ++ 10 ∷ q) ≡ then_lines (file_items form p) (moved (feeds p) (file_items form (10 ∷ q)))
cut form p q = given (has_byte_order_mark p) refl
  where
    given : (c : Bool) → has_byte_order_mark p ≡ c →
        file_items form (p ++ 10 ∷ q) ≡ then_lines (file_items form p) (moved (feeds p) (file_items form (10 ∷ q)))
    given true e =
        file_as form (p ++ 10 ∷ q) true (mark_cut p q ∙ e)
        ∙ ap (λ l. Err (bad_line flaws.ByteOrderMark 1 l))
        (ap first_of (lines_cut p q) ∙ first_cut (lines p) (lines q) (omega (arith, lines_are p)))
        ∙ sym (ap (λ r. then_lines r (moved (feeds p) (file_items form (10 ∷ q)))) (file_as form p true e))
    given false e =
        let many : 1 + length (lines p) ≡ 2 + feeds p = omega (arith, lines_are p) in
        let others : items_from form (1 + length (lines p)) (lines q) ≡ moved (feeds p) (file_items form (10 ∷ q)) =
        ap (λ n. items_from form n (lines q)) many ∙ items_moved form 2 (feeds p) (lines q)
        ∙ ap (moved (feeds p)) (sym (feed_first form q)) in
        file_as form (p ++ 10 ∷ q) false (mark_cut p q ∙ e) ∙ ap (items_from form 1) (lines_cut p q)
        ∙ items_cut form 1 (lines p) (lines q) ∙ ap (then_lines (items_from form 1 (lines p))) others
        ∙ sym (ap (λ r. then_lines r (moved (feeds p) (file_items form (10 ∷ q)))) (file_as form p false e))

pub joined_twice : (xs ys : List Item) (k j : ℕ) (r : Outcome) →
    joined xs k (then_lines (Ok ys) (moved j r)) ≡ joined (xs ++ ys) (k + j) r
joined_twice xs ys k j (Ok zs) = ap Ok (sym (append_assoc xs ys zs))
joined_twice xs ys k j (Err bad) =
    let same : (bad.number + j) + k ≡ bad.number + (k + j) = omega arith in
    λ i. Err (record { number = same i; front = bad.front; flaw = bad.flaw })
