-- Parts in the compact spelling that begin at z: a head, the rest of the upper bound, and fields.
-- Of a head the kind, the share and the length of the rest are read back, and they are all that it is made of. So a
-- head and what was read after it (CompactBounds) are the text of the bound, and then the fields (CompactParts) that of
-- the part; and the other way round.
-- docs/LAWS.md: The compact spelling.
use Rattle.std.proofs.Common.{◌≡◌, ℕ, ◌+◌, ◌*◌, ◌/◌, ◌%◌, ◌<◌, ◌≤◌, true, false, List, [], ◌∷◌, ◌++◌, length, drop}
use Rattle.std.proofs.Common.{Option, Some, None, refl, sym, ap, subst, ◌∙◌, arith}
use Rattle.std.specs.Prelude.{not, ◌==◌}
use Rattle.definitions.proofs.Words.{IsItem, IsLower, IsUpper, IsRange, Range, comes_before, is_below, Part, Sum}
use Rattle.definitions.proofs.Words.{Listing, Answer, range_of, Profile, IsProfile, IsPart}
use Rattle.definitions.proofs.Lemmas.{not-false, eqb-true, eq-eqb, eqb-false}
use Rattle.definitions.specs.Compact.{shared, in_head, after_head, head_of, bound_text, compact_body}
use Rattle.definitions.specs.CompactReading.{upper_from, fields_from, body_from}
use Rattle.definitions.specs.Refusals.{bad_bound}
use Rattle.laws.proofs.Fields.{cons_eq}
use Rattle.laws.proofs.CompactBounds.{Reads, Then, as_reads, then_reads, test_reads, reads_if, BoundGood, bound_reads}
use Rattle.laws.proofs.CompactBounds.{shared_leaves}
use Rattle.laws.proofs.CompactParts.{mapped_reads, kind_of, fields_text, FieldsGood, fields_reads}

-- ==== The upper bound

abbrev UpperGood : List ℕ → ℕ → Option (List ℕ) → List ℕ → Type 0
UpperGood z head None front = (head % 8 ≡ 0) × (head / 8 % 8 ≡ 0) × (front ≡ [])
UpperGood z head (Some y) front = (0 < head % 8) × BoundGood z head y front

end_to : (z : List ℕ) (head : ℕ) (y : Option (List ℕ)) (front : List ℕ) → head % 8 ≡ 0 →
    (not (head / 8 % 8 == 0) ≡ false) × ((y ≡ None) × (front ≡ [])) → UpperGood z head y front
end_to z head y front none (shares, (is, nothing)) =
    subst (λ (y : Option (List ℕ)). UpperGood z head y front) (sym is)
    (none, eqb-true _ _ (not-false _ shares), nothing)

end_from : (z : List ℕ) (head : ℕ) (y : Option (List ℕ)) (front : List ℕ) → head % 8 ≡ 0 → UpperGood z head y front →
    (not (head / 8 % 8 == 0) ≡ false) × ((y ≡ None) × (front ≡ []))
end_from z head None front none g = (ap not (eq-eqb _ _ g.1), (refl, g.2))
end_from z head (Some y) front none g = absurd (let some = g.0 in omega arith)

some_to : (z : List ℕ) (head : ℕ) (y : Option (List ℕ)) (front : List ℕ) → 0 < head % 8 →
    ((x : List ℕ) × BoundGood z head x front × (y ≡ Some x)) → UpperGood z head y front
some_to z head y front some (x, g, is) =
    subst (λ (y : Option (List ℕ)). UpperGood z head y front) (sym is) (some, g)

some_from : (z : List ℕ) (head : ℕ) (y : Option (List ℕ)) (front : List ℕ) → 0 < head % 8 → UpperGood z head y front →
    (x : List ℕ) × BoundGood z head x front × (y ≡ Some x)
some_from z head None front some g = absurd (let none = g.0 in omega arith)
some_from z head (Some y) front some g = (y, g.1, refl)

upper_reads : (z : List ℕ) (head : ℕ) → IsLower z → Reads (UpperGood z head) (upper_from z head)
upper_reads z head low = reads_if (head % 8 == 0)
    (λ h. let none = eqb-true _ _ h in as_reads (test_reads (not (head / 8 % 8 == 0)) bad_bound None)
    (λ y front fits g. end_to z head y front none g) (λ y front g. end_from z head y front none g))
    (λ h. let not_none = eqb-false _ _ h in let some : 0 < head % 8 = omega arith in
    as_reads (mapped_reads (bound_reads z head low some) (λ y. Some y))
    (λ y front fits g. some_to z head y front some g) (λ y front g. some_from z head y front some g))

-- ==== Heads

in_head_small : (n : ℕ) → in_head n ≤ 7
in_head_small n = grind arith

-- what a head says is what it was made of
head_parts : (kind s l : ℕ) → s ≤ 7 → l ≤ 7 →
    ((64 * kind + (8 * s + l)) / 64 ≡ kind) × ((64 * kind + (8 * s + l)) / 8 % 8 ≡ s)
    × ((64 * kind + (8 * s + l)) % 8 ≡ l)
head_parts kind s l few short = (omega arith, omega arith, omega arith)

head_made : (head : ℕ) → head ≡ 64 * (head / 64) + (8 * (head / 8 % 8) + head % 8)
head_made head = omega arith

-- the head of a bound, and what follows it
pub bound_made : (kind : ℕ) (z : List ℕ) (head : ℕ) (y front : List ℕ) → head / 64 ≡ kind → BoundGood z head y front →
    head ∷ front ≡ bound_text kind z (Some y)
bound_made kind z head y front k g =
    let s : ℕ = shared z y in
    let l : ℕ = length (drop s y) in
    let a = g.share in
    let b = g.more in
    let made : head ≡ 64 * kind + (8 * in_head s + in_head l) = omega (arith, head_made head) in
    λ i. made i ∷ g.is i

pub some_amount : (n : ℕ) → 0 < n → 0 < in_head n
some_amount n h = grind arith

pub bound_told : (kind : ℕ) (z : List ℕ) (head : ℕ) (y front : List ℕ) → IsItem y → comes_before z y ≡ true →
    head ∷ front ≡ bound_text kind z (Some y) → (head / 64 ≡ kind) × ((0 < head % 8) × BoundGood z head y front)
bound_told kind z head y front item after is =
    let s : ℕ = shared z y in
    let l : ℕ = length (drop s y) in
    let e = cons_eq head (head_of kind s l) front _ is in
    let head_is = e.0 in
    let few = in_head_small s in
    let short = in_head_small l in
    let parts = head_parts kind (in_head s) (in_head l) few short in
    let share : head / 8 % 8 ≡ in_head s = ap (λ n. n / 8 % 8) head_is ∙ parts.1 in
    let more : head % 8 ≡ in_head l = ap (λ n. n % 8) head_is ∙ parts.2 in
    let some : 0 < in_head l = some_amount l (shared_leaves z y after) in (
      ap (λ n. n / 64) head_is ∙ parts.0,
      (omega arith, record { item = item; after = after; share = share; more = more; is = e.1 }),
    )

upper_made : (kind : ℕ) (z : List ℕ) (head : ℕ) (y : Option (List ℕ)) (front : List ℕ) → head / 64 ≡ kind →
    UpperGood z head y front → head ∷ front ≡ bound_text kind z y
upper_made kind z head None front k g =
    let a = g.0 in let b = g.1 in
    let made : head ≡ 64 * kind = omega (arith, head_made head) in λ i. made i ∷ g.2 i
upper_made kind z head (Some y) front k g = bound_made kind z head y front k g.1

upper_told : (kind : ℕ) (z : List ℕ) (head : ℕ) (y : Option (List ℕ)) (front : List ℕ) → IsUpper y →
    is_below z y ≡ true → head ∷ front ≡ bound_text kind z y → (head / 64 ≡ kind) × UpperGood z head y front
upper_told kind z head None front right below is =
    let e = cons_eq head (64 * kind) front [] is in
    let head_is = e.0 in (omega arith, (omega arith, omega arith, e.1))
upper_told kind z head (Some y) front right below is =
    let t = bound_told kind z head y front right below is in (t.0, t.1)

upper_right : (z : List ℕ) (head : ℕ) (y : Option (List ℕ)) (front : List ℕ) → IsLower z → UpperGood z head y front →
    IsRange (record { lower = z; upper = y })
upper_right z head None front low g = record { lower = low; upper = tt; rises = refl }
upper_right z head (Some y) front low g = record { lower = low; upper = g.1.item; rises = g.1.after }

-- ==== A part that begins at z

pub record BodyGood {F : Type 0} (P : Profile F) (z : List ℕ) (head : ℕ) (p : Part F) (front : List ℕ) : Type 0 where
  pub part : IsPart P p
  pub lower : (range_of p).lower ≡ z
  pub is : head ∷ front ≡ compact_body P p

abbrev BodyRead : {F : Type 0} → Profile F → List ℕ → ℕ → Part F → List ℕ → Type 0
BodyRead P z head = Then (UpperGood z head) (λ y. FieldsGood P (head / 64) (record { lower = z; upper = y }))

body_parts : {F : Type 0} (P : Profile F) (p : Part F) →
    compact_body P p ≡ bound_text (kind_of p) (range_of p).lower (range_of p).upper ++ fields_text P p
body_parts P (Sum X f) = refl
body_parts P (Listing X items) = refl
body_parts P (Answer X marks items) = refl

body_to : {F : Type 0} (P : Profile F) (z : List ℕ) (head : ℕ) (p : Part F) (front : List ℕ) →
    BodyRead P z head p front → BodyGood P z head p front
body_to {F} P z head p front (y, f, r, upper, g, whole) = record {
  part = g.part;
  lower = ap (λ (X : Range). X.lower) g.range;
  is = (λ i. head ∷ whole i) ∙ ap (λ (t : List ℕ). t ++ r) (upper_made (head / 64) z head y f refl upper)
      ∙ sym (body_parts P p
      ∙ (λ i. bound_text (g.kind_is i) (g.range i).lower (g.range i).upper ++ sym g.is i));
}

pub part_range : {F : Type 0} (P : Profile F) (p : Part F) → IsPart P p → IsRange (range_of p)
part_range P (Sum X f) part = part.fields.0
part_range P (Listing X items) part = part.fields.0
part_range P (Answer X marks items) part = part.fields.0

-- the text of a bound after its head
abbrev pub bound_tail : List ℕ → Option (List ℕ) → List ℕ
bound_tail z None = []
bound_tail z (Some y) =
    after_head (shared z y) ++ (after_head (length (drop (shared z y) y)) ++ drop (shared z y) y)

abbrev pub bound_head : ℕ → List ℕ → Option (List ℕ) → ℕ
bound_head kind z None = 64 * kind
bound_head kind z (Some y) = head_of kind (shared z y) (length (drop (shared z y) y))

pub bound_begins : (kind : ℕ) (z : List ℕ) (y : Option (List ℕ)) →
    bound_text kind z y ≡ bound_head kind z y ∷ bound_tail z y
bound_begins kind z None = refl
bound_begins kind z (Some y) = refl

body_at_lower : {F : Type 0} (P : Profile F) (head : ℕ) (p : Part F) (front : List ℕ) → IsPart P p →
    head ∷ front ≡ compact_body P p → BodyRead P (range_of p).lower head p front
body_at_lower P head p front part is =
    let z : List ℕ = (range_of p).lower in
    let y : Option (List ℕ) = (range_of p).upper in
    let kind : ℕ = kind_of p in
    let right = part_range P p part in
    let e = cons_eq head (bound_head kind z y) front (bound_tail z y ++ fields_text P p)
    (is ∙ body_parts P p ∙ ap (λ (t : List ℕ). t ++ fields_text P p) (bound_begins kind z y)) in
    let u = upper_told kind z head y (bound_tail z y) right.upper right.rises
    (ap (λ n. n ∷ bound_tail z y) e.0 ∙ sym (bound_begins kind z y)) in (
      y,
      bound_tail z y,
      fields_text P p,
      u.1,
      record { part = part; range = refl; kind_is = sym u.0; is = refl },
      e.1,
    )

body_from_good : {F : Type 0} (P : Profile F) (z : List ℕ) (head : ℕ) (p : Part F) (front : List ℕ) →
    BodyGood P z head p front → BodyRead P z head p front
body_from_good P z head p front g =
    subst (λ (z : List ℕ). BodyRead P z head p front) g.lower (body_at_lower P head p front g.part g.is)

pub body_reads : {F : Type 0} (P : Profile F) → IsProfile P → (z : List ℕ) (head : ℕ) → IsLower z → 63 < head →
    head < 256 → Reads (BodyGood P z head) (body_from P z head)
body_reads P real z head low part small = as_reads (then_reads (upper_reads z head low)
    (λ y. fields_from P (head / 64) (record { lower = z; upper = y.0 }) y.1)
    (λ y. FieldsGood P (head / 64) (record { lower = z; upper = y }))
    (λ y front g. fields_reads P real (head / 64) (record { lower = z; upper = y }) (upper_right z head y front low g)
    (omega arith) (omega arith)))
    (λ p front fits g. body_to P z head p front g) (λ p front g. body_from_good P z head p front g)

-- ---- the first byte of a part's text

pub head_range : (kind : ℕ) (z : List ℕ) (y : Option (List ℕ)) → kind ≤ 3 →
    (64 * kind ≤ bound_head kind z y) × (bound_head kind z y < 64 * kind + 64)
head_range kind z None high = (omega arith, omega arith)
head_range kind z (Some y) high =
    let few = in_head_small (shared z y) in
    let short = in_head_small (length (drop (shared z y) y)) in (omega arith, omega arith)

kinds : {F : Type 0} (p : Part F) → (1 ≤ kind_of p) × (kind_of p ≤ 3)
kinds (Sum X f) = (omega arith, omega arith)
kinds (Listing X items) = (omega arith, omega arith)
kinds (Answer X marks items) = (omega arith, omega arith)

-- the head of a part's text, and what follows it
abbrev pub body_tail : {F : Type 0} → Profile F → Part F → List ℕ
body_tail P p = bound_tail (range_of p).lower (range_of p).upper ++ fields_text P p

abbrev pub body_head : {F : Type 0} → Part F → ℕ
body_head p = bound_head (kind_of p) (range_of p).lower (range_of p).upper

pub body_begins : {F : Type 0} (P : Profile F) (p : Part F) → compact_body P p ≡ body_head p ∷ body_tail P p
body_begins P p = body_parts P p
    ∙ ap (λ (t : List ℕ). t ++ fields_text P p) (bound_begins (kind_of p) (range_of p).lower (range_of p).upper)

pub body_head_range : {F : Type 0} (p : Part F) → (63 < body_head p) × (body_head p < 256)
body_head_range p =
    let k = kinds p in
    let low = k.0 in
    let high = k.1 in
    let r = head_range (kind_of p) (range_of p).lower (range_of p).upper high in
    let a = r.0 in
    let b = r.1 in
    (omega arith, omega arith)
