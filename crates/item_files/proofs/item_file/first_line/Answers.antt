use Rattle.std.proofs.Common.{arith, refl, sym, ◌∙◌, ap, ◌≡◌, ◌==◌, ◌+◌, ℕ, List, [], ◌∷◌, Bool, true, false, length}
use Rattle.std.proofs.Common.{take, drop, get_or}
use Rattle.std.specs.List.{position_or_len}
use Rattle.std.proofs.lemmas.List.{take_rest}
use Rattle.std.proofs.lemmas.List.Elements.{All-from_get_or}
use Rattle.std.proofs.lemmas.List.Sums.{position_or_len_is}
use Rattle.std.proofs.lemmas.List.Splits.{slice_split_none, slice_split_first}
use Rattle.memchr.specs.Find.{Passes, is_byte, Nowhere, NoneBefore}
use Rattle.item_files.specs.ItemFiles.{lines}
use Rattle.item_files.proofs.item_file.first_line.Goals as goal

is_no : (b : Bool) → (b ≡ true → ⊥) → b ≡ false
is_no true not_true = absurd (not_true refl)
is_no false not_true = refl

one_line : (text : List ℕ) → Nowhere (Passes (is_byte 10) text) 0 (length text) → lines text ≡ text ∷ []
one_line text none = slice_split_none (λ b. b == 10) text
    (All-from_get_or (λ b. (b == 10) ≡ false) text 0
    (λ k inside. is_no (get_or text k 0 == 10) (none k (omega arith) inside)))

more_lines : (text : List ℕ) (end : ℕ) → NoneBefore (Passes (is_byte 10) text) 0 (length text) end →
    Passes (is_byte 10) text end
    → lines text ≡ take end text ∷ lines (drop (end + 1) text)
more_lines text end first is =
    let place : position_or_len (λ b. b == 10) text ≡ end
    = position_or_len_is (λ b. b == 10) text end 0 (let high = first.high in omega arith)
    (λ k below. is_no (get_or text k 0 == 10) (first.before k (omega arith) below)) (λ _. is) in
    slice_split_first (λ b. b == 10) text 0 (let high = first.high in omega arith)
    ∙ ap (λ n. take n text ∷ lines (drop (n + 1) text)) place

pub returns-in-None-clause-lines : goal.returns-in-None-clause-lines
returns-in-None-clause-lines c = one_line c.args.text.now (rw c.in-None.is at c.memchr.ensures)

pub returns-in-Some-clause-lines : goal.returns-in-Some-clause-lines
returns-in-Some-clause-lines c =
    let found = rw c.in-Some.is at c.memchr.ensures in
    more_lines c.args.text.now c.in-Some.end found.0 found.1
    ∙ ap (λ rest. take c.in-Some.end c.args.text.now ∷ lines rest) (sym (take_rest c.args.text.now (c.in-Some.end + 1)))
