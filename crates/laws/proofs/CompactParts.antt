-- Parts in the compact spelling: what follows the head of one that begins at z.
-- The upper bound is read against the lower one (CompactBounds); then by the kind a fingerprint, or a field that holds
-- marks and items (CompactItems). A part whose items were read with the room that its body has is one whose body is not
-- too long, and a part has a field that is not too long (CompactLists).
-- docs/LAWS.md: The compact spelling.
use Rattle.std.proofs.Common.{◌≡◌, ℕ, ◌+◌, ◌-◌, ◌^◌, ◌<◌, ◌≤◌, Bool, true, false, List, [], ◌++◌, length, Option, Some}
use Rattle.std.proofs.Common.{None, refl, sym, ap, subst, ◌∙◌, arith, inl, inr}
use Rattle.std.specs.Prelude.{nat_lt, not, ◌==◌, if◌then◌else◌, bytes_eq}
use Rattle.definitions.proofs.Words.{IsBytes, IsLower, IsUpper, IsRange, Item, Range, Part, Sum, Listing, Answer}
use Rattle.definitions.proofs.Words.{range_of, Profile, IsProfile, IsPart, body, short_text, mark_bytes, mark_bytes_for}
use Rattle.definitions.proofs.Words.{marks_in, max_body, range_text, count_text, marks_text, upper_text}
use Rattle.definitions.proofs.Lemmas.{not-false, length-append, append-nil, ltb-true, ltb-false, eqb-true, eqb-false}
use Rattle.definitions.proofs.Lemmas.{bytes_eq-Decides}
use Rattle.definitions.specs.Compact.{number_text, common_length, compact_items, compact_marks, field_text}
use Rattle.definitions.specs.CompactReading.{Reading, ◌>>=◌, gives, part_items_from, marks_of, marks_from, field_from}
use Rattle.definitions.specs.CompactReading.{sum_from, listing_in, answer_in, fields_from}
use Rattle.definitions.specs.Refusals.{mark_padding}
use Rattle.laws.proofs.Fields.{rest_fits}
use Rattle.laws.proofs.Marks.{length-mark_bytes, length-marks_in, marks_back}
use Rattle.laws.proofs.CompactBounds.{Reads, Then, as_reads, then_reads, given_is, given_reads, tested_reads, reads_if}
use Rattle.laws.proofs.CompactBounds.{bytes_read, cases_of}
use Rattle.laws.proofs.CompactFields.{NumberGood, number_reads}
use Rattle.laws.proofs.CompactItems.{Holds, ItemsGood, items_hold, FieldGood, field_reads}
use Rattle.laws.proofs.CompactLists.{frame_items, of_entries, to_entries, items_length}

-- a value that is made of what was read
pub mapped_reads : {A B : Type 0} {Good : A → List ℕ → Type 0} {read : List ℕ → Reading A} → Reads Good read →
    (f : A → B) → Reads (λ y front. (x : A) × Good x front × (y ≡ f x))
    (λ bytes. read bytes >>= (λ p. gives (f p.0) p.1))
mapped_reads {A} {B} {Good} r f = as_reads (then_reads r (λ p. gives (f p.0) p.1)
    (λ x y front. (y ≡ f x) × (front ≡ [])) (λ x front g. given_reads (f x)))
    to (λ y front (x, g, is). (x, front, [], g, (is, refl), sym (append-nil front))) where
      to : (y : B) (front : List ℕ) → IsBytes front → Then Good (λ x y front. (y ≡ f x) × (front ≡ [])) y front →
          (x : A) × Good x front × (y ≡ f x)
      to y front fits (x, before, after, g, (is, none), whole) =
          let same : before ≡ front = sym (append-nil before) ∙ ap (λ (t : List ℕ). before ++ t) (sym none)
          ∙ sym whole in
          (x, subst (Good x) same g, is)

-- ==== Marks

abbrev MarksGood : ℕ → List Bool → List ℕ → Type 0
MarksGood n marks front = (length marks ≡ n) × (front ≡ mark_bytes marks)

marks_to : (n : ℕ) (marks : List Bool) (front : List ℕ) →
    ((held : List ℕ) × ((length held ≡ mark_bytes_for n) × (front ≡ held))
    × (not (bytes_eq held (mark_bytes (marks_in n held))) ≡ false) × (marks ≡ marks_in n held)) →
    MarksGood n marks front
marks_to n marks front (held, right, clean, is) = (
  ap length is ∙ length-marks_in n held,
  right.1 ∙ (bytes_eq-Decides held (mark_bytes (marks_in n held))).0 (not-false _ clean) ∙ ap mark_bytes (sym is),
)

marks_of_good : (n : ℕ) (marks : List Bool) (front : List ℕ) → MarksGood n marks front →
    (held : List ℕ) × ((length held ≡ mark_bytes_for n) × (front ≡ held))
    × (not (bytes_eq held (mark_bytes (marks_in n held))) ≡ false) × (marks ≡ marks_in n held)
marks_of_good n marks front g =
    let back = marks_back n marks g.0 in (
      mark_bytes marks,
      (length-mark_bytes marks ∙ ap mark_bytes_for g.0, g.1),
      ap not ((bytes_eq-Decides (mark_bytes marks) (mark_bytes (marks_in n (mark_bytes marks)))).1
          (ap mark_bytes (sym back))),
      sym back,
    )

marks_of_reads : (n : ℕ) → Reads (MarksGood n) (marks_of n)
marks_of_reads n = as_reads (tested_reads (bytes_read (mark_bytes_for n))
    (λ held. not (bytes_eq held (mark_bytes (marks_in n held)))) mark_padding (marks_in n))
    (λ marks front fits g. marks_to n marks front g) (λ marks front g. marks_of_good n marks front g)

abbrev MarksTextGood : List Bool → List ℕ → Type 0
MarksTextGood marks front = (length marks < 2 ^ 28) × (front ≡ compact_marks marks)

marks_text_to : (marks : List Bool) (front : List ℕ) → Then NumberGood MarksGood marks front →
    MarksTextGood marks front
marks_text_to marks front (n, f, r, number, right, whole) =
    let few = number.0 in let len = right.0 in
    (omega arith, whole ∙ (λ i. number.1 i ++ right.1 i) ∙ (λ i. number_text (sym len i) ++ mark_bytes marks))

marks_reads : Reads MarksTextGood marks_from
marks_reads = as_reads (then_reads number_reads (λ n. marks_of n.0 n.1) MarksGood (λ n front g. marks_of_reads n))
    (λ marks front fits g. marks_text_to marks front g)
    (λ marks front g. (length marks, number_text (length marks), mark_bytes marks, (g.0, refl), (refl, refl), g.1))

-- ==== What a field holds

pub as_holds : {A : Type 0} {Good Good2 : A → List ℕ → Type 0} {read : List ℕ → Reading A} → Holds Good read →
    ((x : A) (bytes : List ℕ) → IsBytes bytes → Good x bytes → Good2 x bytes) →
    ((x : A) (bytes : List ℕ) → Good2 x bytes → Good x bytes) → Holds Good2 read
as_holds h to from = record {
  back = λ x bytes g. h.back x bytes (from x bytes g);
  only = λ bytes x rest fits e. to x bytes fits (h.only bytes x rest fits e);
}

pub mapped_holds : {A B : Type 0} {Good : A → List ℕ → Type 0} {read : List ℕ → Reading A} → Holds Good read →
    (f : A → B) → Holds (λ y bytes. (x : A) × Good x bytes × (y ≡ f x))
    (λ bytes. read bytes >>= (λ p. gives (f p.0) p.1))
mapped_holds {A} {B} {Good} {read} h f = record {
  back = λ y bytes g. ap (λ r. r >>= (λ p. gives (f p.0) p.1)) (h.back g.0 bytes g.1)
      ∙ ap (λ y. gives y []) (sym g.2);
  only = λ bytes y rest fits e. elim (cases_of (read bytes) (λ p. gives (f p.0) p.1) (gives y rest) e) [
    | inl c ↦ (c.0, h.only bytes c.0 c.1 fits c.2, sym (given_is (f c.0) y c.1 rest c.3).0)
    | inr d ↦ absurd (elim d [ inl c ↦ (let n = c.2 in cc) | inr c ↦ (let n = c.1 in cc) ])
  ];
}

pub then_holds : {A B : Type 0} {Good : A → List ℕ → Type 0} {read : List ℕ → Reading A} → Reads Good read →
    (k : A × List ℕ → Reading B) (Good2 : A → B → List ℕ → Type 0) →
    ((x : A) (front : List ℕ) → Good x front → Holds (Good2 x) (λ rest. k (x, rest))) →
    Holds (Then Good Good2) (λ bytes. read bytes >>= k)
then_holds {B} {read} r k Good2 goes = record {
  back = λ y whole g. ap (λ (t : List ℕ). read t >>= k) g.5
      ∙ ap (λ s. s >>= k) (r.back g.0 g.1 g.2 g.3) ∙ (goes g.0 g.1 g.3).back y g.2 g.4;
  only = λ bytes y rest fits e. elim (cases_of (read bytes) k (gives y rest) e) [
    | inl c ↦ let o = r.only bytes c.0 c.1 fits c.2 in (
      c.0,
      o.0,
      c.1,
      o.1,
      (goes c.0 o.0 o.1).only c.1 y rest (rest_fits bytes o.0 c.1 o.2 fits) c.3,
      o.2,
    )
    | inr d ↦ absurd (elim d [ inl c ↦ (let n = c.2 in cc) | inr c ↦ (let n = c.1 in cc) ])
  ];
}

holds_if : {A : Type 0} {Good : A → List ℕ → Type 0} (b : Bool) {r s : List ℕ → Reading A} →
    (b ≡ true → Holds Good r) → (b ≡ false → Holds Good s) → Holds Good (λ bytes. if b then r bytes else s bytes)
holds_if true x y = x refl
holds_if false x y = y refl

-- the items of a part, whose body without them is not too long
pub record PartItems {F : Type 0} (P : Profile F) (p : Part F) (xs : List Item) (bytes : List ℕ) : Type 0 where
  pub room : length (body P p) ≤ max_body
  pub items : ItemsGood (range_of p) (max_body - length (body P p)) xs bytes

part_items_hold : {F : Type 0} (P : Profile F) (p : Part F) → IsLower (range_of p).lower →
    Holds (PartItems P p) (part_items_from P p)
part_items_hold P p low = holds_if (nat_lt max_body (length (body P p)))
    (λ h. let over = ltb-true _ _ h in record {
      back = λ xs bytes g. absurd (let room = g.room in omega arith);
      only = λ bytes xs rest fits e. absurd cc;
    })
    (λ h. as_holds (items_hold (range_of p) (max_body - length (body P p)) low)
    (λ xs bytes fits g. record { room = ltb-false _ _ h; items = g }) (λ xs bytes g. g.items))

-- ==== By the kind

abbrev pub kind_of : {F : Type 0} → Part F → ℕ
kind_of (Sum X f) = 1
kind_of (Listing X items) = 2
kind_of (Answer X marks items) = 3

-- what follows the upper bound
abbrev pub fields_text : {F : Type 0} → Profile F → Part F → List ℕ
fields_text P (Sum X f) = P.text f
fields_text P (Listing X items) = field_text (compact_items X.lower items)
fields_text P (Answer X marks items) = field_text (compact_marks marks ++ compact_items X.lower items)

pub record FieldsGood {F : Type 0} (P : Profile F) (kind : ℕ) (X : Range) (p : Part F) (front : List ℕ) : Type 0 where
  pub part : IsPart P p
  pub range : range_of p ≡ X
  pub kind_is : kind_of p ≡ kind
  pub is : front ≡ fields_text P p

upper_length : (y : Option (List ℕ)) → IsUpper y → length (upper_text y) ≤ 65
upper_length None right = omega arith
upper_length (Some y) right = let long = right.not_long in omega arith

range_length : (X : Range) → IsRange X → length (range_text X) ≤ 130
range_length X right =
    let low = right.lower.not_long in
    let high = upper_length X.upper right.upper in
    omega (arith, length-append (short_text X.lower) (upper_text X.upper))

-- ---- a Sum

sum_length : {F : Type 0} (P : Profile F) (X : Range) (f : F) →
    length (body P (Sum X f)) ≡ 1 + length (range_text X) + length (P.text f)
sum_length P X f = omega (arith, length-append (range_text X) (P.text f))

abbrev SumHeld : {F : Type 0} → Profile F → Range → Part F → List ℕ → Type 0
SumHeld P X p front = (held : List ℕ) × ((length held ≡ P.size) × (front ≡ held)) × (p ≡ Sum X (P.read held))

sum_to : {F : Type 0} (P : Profile F) → IsProfile P → (X : Range) → IsRange X → (p : Part F) (front : List ℕ) →
    IsBytes front → SumHeld P X p front → FieldsGood P 1 X p front
sum_to {F} P real X right p front fits (held, (len, same), is) =
    let back : P.text (P.read held) ≡ held = real.back held (subst IsBytes same fits) len in
    let size : length (P.text (P.read held)) ≡ P.size = ap length back ∙ len in
    let short = range_length X right in
    let small = real.small in
    let long = sum_length P X (P.read held) in
    let made : FieldsGood P 1 X (Sum X (P.read held)) front = record {
      part = record { fields = (right, (size, ap P.read back)); short = (omega arith) };
      range = refl;
      kind_is = refl;
      is = same ∙ sym back;
    } in
    subst (λ (p : Part F). FieldsGood P 1 X p front) (sym is) made

sum_from_good : {F : Type 0} (P : Profile F) (X : Range) (p : Part F) (front : List ℕ) → FieldsGood P 1 X p front →
    SumHeld P X p front
sum_from_good P X (Sum Y f) front g =
    (P.text f, (g.part.fields.1.0, g.is), λ i. Sum (g.range i) (sym g.part.fields.1.1 i))
sum_from_good P X (Listing Y items) front g = absurd (let k = g.kind_is in omega arith)
sum_from_good P X (Answer Y marks items) front g = absurd (let k = g.kind_is in omega arith)

sum_reads : {F : Type 0} (P : Profile F) → IsProfile P → (X : Range) → IsRange X →
    Reads (FieldsGood P 1 X) (sum_from P X)
sum_reads P real X right = as_reads (mapped_reads (bytes_read P.size) (λ f. Sum X (P.read f)))
    (λ p front fits g. sum_to P real X right p front fits g) (λ p front g. sum_from_good P X p front g)

-- ---- a List

listing_length : {F : Type 0} (P : Profile F) (X : Range) (xs : List Item) →
    length (body P (Listing X xs)) ≡ length (body P (Listing X [])) + length (frame_items xs)
listing_length P X xs =
    let a = length-append (range_text X) (count_text (length xs) ++ frame_items xs) in
    let b = length-append (count_text (length xs)) (frame_items xs) in
    let c = length-append (range_text X) (count_text 0 ++ []) in
    omega arith

abbrev ListingHeld : {F : Type 0} → Profile F → Range → Part F → List ℕ → Type 0
ListingHeld P X p held = (xs : List Item) × PartItems P (Listing X []) xs held × (p ≡ Listing X xs)

listing_to : {F : Type 0} (P : Profile F) (X : Range) → IsRange X → (p : Part F) (front : List ℕ) →
    FieldGood (ListingHeld P X) p front → FieldsGood P 2 X p front
listing_to {F} P X right p front (held, (xs, g, is), few, front_is) =
    let room : ℕ = max_body - length (body P (Listing X [])) in
    let base = g.room in
    let o = of_entries X (common_length xs) room xs (omega arith) g.items.each in
    let size = o.1 in
    let len = listing_length P X xs in
    let made : FieldsGood P 2 X (Listing X xs) front = record {
      part = record { fields = (right, o.0); short = (omega arith) };
      range = refl;
      kind_is = refl;
      is = front_is ∙ ap field_text g.items.is;
    } in
    subst (λ (p : Part F). FieldsGood P 2 X p front) (sym is) made

listing_held : {F : Type 0} (P : Profile F) (X : Range) (xs : List Item) (front : List ℕ) → IsPart P (Listing X xs) →
    front ≡ field_text (compact_items X.lower xs) → FieldGood (ListingHeld P X) (Listing X xs) front
listing_held P X xs front part is =
    let room : ℕ = max_body - length (body P (Listing X [])) in
    let len = listing_length P X xs in
    let short = part.short in
    let each = to_entries X room xs part.fields.1 (omega arith) in
    let long = items_length X room xs part.fields.0.lower each in (
      compact_items X.lower xs,
      (xs, record { room = (omega arith); items = record { each = each; is = refl } }, refl),
      omega arith,
      is,
    )

listing_from_good : {F : Type 0} (P : Profile F) (X : Range) (p : Part F) (front : List ℕ) →
    FieldsGood P 2 X p front → FieldGood (ListingHeld P X) p front
listing_from_good P X (Sum Y f) front g = absurd (let k = g.kind_is in omega arith)
listing_from_good P X (Listing Y xs) front g =
    subst (λ (Z : Range). FieldGood (ListingHeld P Z) (Listing Y xs) front) g.range
    (listing_held P Y xs front g.part g.is)
listing_from_good P X (Answer Y marks xs) front g = absurd (let k = g.kind_is in omega arith)

listing_reads : {F : Type 0} (P : Profile F) (X : Range) → IsRange X →
    Reads (FieldsGood P 2 X) (field_from (listing_in P X))
listing_reads P X right =
    as_reads (field_reads (mapped_holds (part_items_hold P (Listing X []) right.lower) (λ xs. Listing X xs)))
    (λ p front fits g. listing_to P X right p front g) (λ p front g. listing_from_good P X p front g)

-- ---- an Answer

answer_length : {F : Type 0} (P : Profile F) (X : Range) (marks : List Bool) (xs : List Item) →
    length (body P (Answer X marks xs))
    ≡ 9 + length (range_text X) + length (mark_bytes marks) + length (frame_items xs)
answer_length P X marks xs =
    let t : List ℕ = count_text (length xs) ++ frame_items xs in
    let a = length-append (range_text X) (marks_text marks ++ t) in
    let b = length-append (marks_text marks) t in
    let c = length-append (count_text (length marks)) (mark_bytes marks) in
    let d = length-append (count_text (length xs)) (frame_items xs) in
    omega arith

number_length : (n : ℕ) → length (number_text n) ≤ 4
number_length n = grind arith

abbrev AnswerItems : {F : Type 0} → Profile F → Range → List Bool → Part F → List ℕ → Type 0
AnswerItems P X marks p held = (xs : List Item) × PartItems P (Answer X marks []) xs held × (p ≡ Answer X marks xs)

abbrev AnswerHeld : {F : Type 0} → Profile F → Range → Part F → List ℕ → Type 0
AnswerHeld P X = Then MarksTextGood (AnswerItems P X)

answer_to : {F : Type 0} (P : Profile F) (X : Range) → IsRange X → (p : Part F) (front : List ℕ) →
    FieldGood (AnswerHeld P X) p front → FieldsGood P 3 X p front
answer_to {F} P X right p front (held, (marks, f, r, text, (xs, g, is), whole), few, front_is) =
    let room : ℕ = max_body - length (body P (Answer X marks [])) in
    let base = g.room in
    let o = of_entries X (common_length xs) room xs (omega arith) g.items.each in
    let size = o.1 in
    let none = answer_length P X marks [] in
    let len = answer_length P X marks xs in
    let count = text.0 in
    let made : FieldsGood P 3 X (Answer X marks xs) front = record {
      part = record { fields = (right, omega arith, o.0); short = (omega arith) };
      range = refl;
      kind_is = refl;
      is = front_is ∙ ap field_text (whole ∙ (λ i. text.1 i ++ g.items.is i));
    } in
    subst (λ (p : Part F). FieldsGood P 3 X p front) (sym is) made

answer_held : {F : Type 0} (P : Profile F) (X : Range) (marks : List Bool) (xs : List Item) (front : List ℕ) →
    IsPart P (Answer X marks xs) → front ≡ field_text (compact_marks marks ++ compact_items X.lower xs) →
    FieldGood (AnswerHeld P X) (Answer X marks xs) front
answer_held P X marks xs front part is =
    let room : ℕ = max_body - length (body P (Answer X marks [])) in
    let none = answer_length P X marks [] in
    let len = answer_length P X marks xs in
    let short = part.short in
    let each = to_entries X room xs part.fields.2 (omega arith) in
    let long = items_length X room xs part.fields.0.lower each in
    let number = number_length (length marks) in
    let bytes = length-mark_bytes marks in
    let a = length-append (number_text (length marks)) (mark_bytes marks) in
    let b = length-append (compact_marks marks) (compact_items X.lower xs) in (
      compact_marks marks ++ compact_items X.lower xs,
      (
        marks,
        compact_marks marks,
        compact_items X.lower xs,
        (omega arith, refl),
        (xs, record { room = (omega arith); items = record { each = each; is = refl } }, refl),
        refl,
      ),
      omega arith,
      is,
    )

answer_from_good : {F : Type 0} (P : Profile F) (X : Range) (p : Part F) (front : List ℕ) → FieldsGood P 3 X p front →
    FieldGood (AnswerHeld P X) p front
answer_from_good P X (Sum Y f) front g = absurd (let k = g.kind_is in omega arith)
answer_from_good P X (Listing Y xs) front g = absurd (let k = g.kind_is in omega arith)
answer_from_good P X (Answer Y marks xs) front g =
    subst (λ (Z : Range). FieldGood (AnswerHeld P Z) (Answer Y marks xs) front) g.range
    (answer_held P Y marks xs front g.part g.is)

answer_reads : {F : Type 0} (P : Profile F) (X : Range) → IsRange X →
    Reads (FieldsGood P 3 X) (field_from (answer_in P X))
answer_reads {F} P X right =
    let inside : Holds (AnswerHeld P X) (answer_in P X) = then_holds marks_reads
    (λ marks. part_items_from P (Answer X marks.0 []) marks.1 >>= (λ items. gives (Answer X marks.0 items.0) items.1))
    (AnswerItems P X)
    (λ marks front g. mapped_holds (part_items_hold P (Answer X marks []) right.lower) (λ xs. Answer X marks xs)) in
    as_reads (field_reads inside)
    (λ p front fits g. answer_to P X right p front g) (λ p front g. answer_from_good P X p front g)

-- ---- any kind

pub fields_reads : {F : Type 0} (P : Profile F) → IsProfile P → (kind : ℕ) (X : Range) → IsRange X → 1 ≤ kind →
    kind ≤ 3 → Reads (FieldsGood P kind X) (fields_from P kind X)
fields_reads {F} P real kind X right low high =
    let of : (k : ℕ) (read : List ℕ → Reading (Part F)) → kind ≡ k → Reads (FieldsGood P k X) read →
    Reads (FieldsGood P kind X) read =
    λ k read e r. subst (λ n. Reads (FieldsGood P n X) read) (sym e) r in
    reads_if (kind == 1)
    (λ h. of 1 (sum_from P X) (eqb-true _ _ h) (sum_reads P real X right))
    (λ h. let not_one = eqb-false _ _ h in reads_if (kind == 2)
    (λ h. of 2 (field_from (listing_in P X)) (eqb-true _ _ h) (listing_reads P X right))
    (λ h. let not_two = eqb-false _ _ h in of 3 (field_from (answer_in P X)) (omega arith) (answer_reads P X right)))
