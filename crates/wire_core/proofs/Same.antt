-- As many marks are equal where their bytes are.
use Rattle.std.proofs.Common.{◌≡◌, Bool, true, false, List, length, refl, sym, ap, ◌∙◌}
use Rattle.std.specs.Prelude.{bytes_eq}
use Rattle.std.proofs.lemmas.Slice.Eq.{bytes_eq-Decides}
use Rattle.definitions.specs.Wire.{mark_bytes}
use Rattle.definitions.specs.Reading.{marks_in}
use Rattle.laws.specs.Parts.{MarksComeBack}
use Rattle.wire_core.specs.Same.{same_marks, marks_Decides}

-- two tests that answer alike
alike : (s t : Bool) → (s ≡ true → t ≡ true) → (t ≡ true → s ≡ true) → s ≡ t
alike true t to from = sym (to refl)
alike false true to from = from refl
alike false false to from = refl

pub same_bytes : MarksComeBack → (a b : List Bool) → length a ≡ length b →
    bytes_eq (mark_bytes a) (mark_bytes b) ≡ same_marks a b
same_bytes back a b count =
    let marks = marks_Decides a b in
    let bytes = bytes_eq-Decides (mark_bytes a) (mark_bytes b) in
    alike _ _ (λ h. marks.1 (sym (back a) ∙ (λ i. marks_in (count i) (bytes.0 h i)) ∙ back b))
    (λ h. bytes.1 (ap mark_bytes (marks.0 h)))
