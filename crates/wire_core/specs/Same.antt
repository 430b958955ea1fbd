-- Parts are compared by their kinds, ranges, fingerprints, marks and items.
use Rattle.std.specs.Prelude.{◌≡◌, Bool, true, false, ◌&&◌, List, refl}
use Rattle.std.proofs.Common.{subst}
use Rattle.std.specs.Bool.{beq, Decides}
use Rattle.std.specs.Cmp.{IsEquivalence, decided, booleans_Decides}
use Rattle.std.specs.Cmp.Lexicographic.{pointwise}
use Rattle.std.proofs.lemmas.Bool.{and_parts, and_from, false≢true}
use Rattle.std.proofs.lemmas.Slice.Eq.{slice_eq-Decides, bytes_eq-Decides}
use Rattle.definitions.specs.Items.{Item, same_item, same_range}
use Rattle.definitions.proofs.Equality.{same_range-eq, same_range-itself}
use Rattle.definitions.specs.Fingerprints.{Summary, IsExact}
use Rattle.definitions.specs.Messages.{Part, Sum, Listing, Answer}

abbrev pub same_items : List Item → List Item → Bool
same_items = pointwise same_item

abbrev pub same_marks : List Bool → List Bool → Bool
same_marks = pointwise beq

abbrev pub same_part : {F : Type 0} → Summary F → Part F → Part F → Bool
same_part S (Sum X f) (Sum Y g) = same_range X Y && S.same f g
same_part S (Listing X xs) (Listing Y ys) = same_range X Y && same_items xs ys
same_part S (Answer X ms xs) (Answer Y ns ys) = same_range X Y && (same_marks ms ns && same_items xs ys)
same_part S _ _ = false

-- ---- the test answers equality

items_Decides : (xs ys : List Item) → Decides (same_items xs ys) (xs ≡ ys)
items_Decides xs ys = slice_eq-Decides bytes_eq-Decides xs ys (same_items xs ys) refl

pub marks_Decides : (ms ns : List Bool) → Decides (same_marks ms ns) (ms ≡ ns)
marks_Decides ms ns = slice_eq-Decides booleans_Decides ms ns (same_marks ms ns) refl

same_part-itself : {F : Type 0} (S : Summary F) → IsExact S → (p : Part F) → same_part S p p ≡ true
same_part-itself S exact (Sum X f) = and_from (same_range X X) (S.same f f) (same_range-itself X) ((exact f f).1 refl)
same_part-itself S exact (Listing X xs) =
    and_from (same_range X X) (same_items xs xs) (same_range-itself X) ((items_Decides xs xs).1 refl)
same_part-itself S exact (Answer X ms xs) =
    and_from (same_range X X) (same_marks ms ms && same_items xs xs) (same_range-itself X)
    (and_from (same_marks ms ms) (same_items xs xs) ((marks_Decides ms ms).1 refl) ((items_Decides xs xs).1 refl))

same_part-eq : {F : Type 0} (S : Summary F) → IsExact S → (p q : Part F) → same_part S p q ≡ true → p ≡ q
same_part-eq S exact (Sum X f) (Sum Y g) h =
    let both = and_parts (same_range X Y) (S.same f g) h in
    let range = same_range-eq X Y both.0 in
    let lanes = (exact f g).0 both.1 in
    λ i. Sum (range i) (lanes i)
same_part-eq S exact (Listing X xs) (Listing Y ys) h =
    let both = and_parts (same_range X Y) (same_items xs ys) h in
    let range = same_range-eq X Y both.0 in
    let items = (items_Decides xs ys).0 both.1 in
    λ i. Listing (range i) (items i)
same_part-eq S exact (Answer X ms xs) (Answer Y ns ys) h =
    let both = and_parts (same_range X Y) (same_marks ms ns && same_items xs ys) h in
    let rest = and_parts (same_marks ms ns) (same_items xs ys) both.1 in
    let range = same_range-eq X Y both.0 in
    let marks = (marks_Decides ms ns).0 rest.0 in
    let items = (items_Decides xs ys).0 rest.1 in
    λ i. Answer (range i) (marks i) (items i)
same_part-eq S exact (Sum X f) (Listing Y ys) h = absurd (false≢true h)
same_part-eq S exact (Sum X f) (Answer Y ns ys) h = absurd (false≢true h)
same_part-eq S exact (Listing X xs) (Sum Y g) h = absurd (false≢true h)
same_part-eq S exact (Listing X xs) (Answer Y ns ys) h = absurd (false≢true h)
same_part-eq S exact (Answer X ms xs) (Sum Y g) h = absurd (false≢true h)
same_part-eq S exact (Answer X ms xs) (Listing Y ys) h = absurd (false≢true h)

pub parts_Decides : {F : Type 0} (S : Summary F) → IsExact S → (p q : Part F) → Decides (same_part S p q) (p ≡ q)
parts_Decides S exact p q =
    (same_part-eq S exact p q, λ e. subst (λ r. same_part S p r ≡ true) e (same_part-itself S exact p))

pub same_part_equiv : {F : Type 0} (S : Summary F) → IsExact S → IsEquivalence (same_part S)
same_part_equiv S exact = decided (same_part S) (parts_Decides S exact)
