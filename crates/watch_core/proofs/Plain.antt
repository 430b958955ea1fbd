-- Escaped text has no byte of a tag.
--     of_byte     what stands for a byte has none
--     of_text     what stands for a text has none
use Rattle.std.proofs.Common.{◌≡◌, refl, ℕ, List, [], ◌∷◌, Bool, true, false, ap, ◌∙◌}
use Rattle.std.specs.Prelude.{◌==◌, ◌&&◌, if◌then◌else◌, codes}
use Rattle.std.specs.List.{list_all}
use Rattle.std.proofs.lemmas.List.Folds.{list_all-append}
use Rattle.watch_core.specs.PageTexts.{escape, escaped, is_plain}

by_tests : (byte : ℕ) (a b c d e : Bool) → (byte == 60) ≡ b → (byte == 62) ≡ c → (byte == 34) ≡ d
    → (byte == 39) ≡ e → list_all is_plain (if a then codes "&amp;" else if b then codes "&lt;" else if c
    then codes "&gt;" else if d then codes "&quot;" else if e then codes "&#39;" else byte ∷ []) ≡ true
by_tests byte true b c d e p q r s = refl
by_tests byte false true c d e p q r s = refl
by_tests byte false false true d e p q r s = refl
by_tests byte false false false true e p q r s = refl
by_tests byte false false false false true p q r s = refl
by_tests byte false false false false false p q r s = simp (p, q, r, s)

pub of_byte : (byte : ℕ) → list_all is_plain (escape byte) ≡ true
of_byte byte =
    by_tests byte (byte == 38) (byte == 60) (byte == 62) (byte == 34) (byte == 39) refl refl refl refl

pub of_text : (text : List ℕ) → list_all is_plain (escaped text) ≡ true
of_text [] = refl
of_text (byte ∷ text) = list_all-append is_plain (escape byte) (escaped text)
    ∙ ap (λ front. front && list_all is_plain (escaped text)) (of_byte byte) ∙ of_text text
