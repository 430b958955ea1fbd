-- Units in the compact spelling: a part with its skip, the end of a message, a fault.
-- The first byte says which: 0 and 8 are the end and a fault; below 64 a skip to a bound after z, and then the head of
-- a part; and else the head of a part that begins at z (CompactBodies). So a part that begins at z has no skip, and one
-- that begins after it has one.
-- docs/LAWS.md: The compact spelling.
use Rattle.std.proofs.Common.{◌≡◌, ℕ, ◌%◌, ◌<◌, ◌≤◌, Bool, true, false, List, [], ◌∷◌, ◌++◌, length, Option, Some, None}
use Rattle.std.proofs.Common.{Ok, Err, refl, sym, ap, subst, ◌∙◌, arith, inl, inr}
use Rattle.std.specs.Prelude.{◌⊎◌, nat_lt, ◌==◌, if◌then◌else◌, IfSome, bytes_eq}
use Rattle.definitions.proofs.Words.{IsBytes, IsItem, IsLower, comes_before, Part, range_of, Profile, IsProfile, IsPart}
use Rattle.definitions.proofs.Words.{Event, Came, Ended, Failed}
use Rattle.definitions.proofs.Lemmas.{ltb-true, ltb-false, eqb-true, eqb-false, bytes_eq-Decides, before-irrefl}
use Rattle.definitions.proofs.Lemmas.{before-asym}
use Rattle.definitions.specs.Compact.{bound_text, compact_body, skip_text, unit_text, IsUnit}
use Rattle.definitions.specs.CompactReading.{Reading, gives, body_from, skipped_from, skip_from, part_from, failed_from}
use Rattle.definitions.specs.CompactReading.{end_fault, came_at, unit_at}
use Rattle.definitions.specs.Refusals.{bad_kind}
use Rattle.laws.proofs.Fields.{cons_eq}
use Rattle.laws.proofs.CompactBounds.{Reads, Then, as_reads, then_reads, given_reads, byte_reads, reads_if, BoundGood}
use Rattle.laws.proofs.CompactBounds.{bound_reads}
use Rattle.laws.proofs.CompactItems.{item_lower}
use Rattle.laws.proofs.CompactParts.{mapped_reads}
use Rattle.laws.proofs.CompactBodies.{bound_made, bound_told, bound_tail, bound_head, bound_begins, head_range}
use Rattle.laws.proofs.CompactBodies.{body_tail, body_head, body_begins, body_head_range, BodyGood, body_reads}
use Rattle.laws.proofs.CompactBodies.{part_range}

-- ==== What begins with a byte

-- what follows each first byte, and no value has a text of no bytes
headed_reads : {A : Type 0} {Good : A → List ℕ → Type 0} (read : List ℕ → Reading A) (k : ℕ → List ℕ → Reading A) →
    read [] ≡ Ok None → ((b : ℕ) (bytes : List ℕ) → read (b ∷ bytes) ≡ k b bytes) →
    ((b : ℕ) → b < 256 → Reads (λ x front. Good x (b ∷ front)) (k b)) →
    ((x : A) (front : List ℕ) → Good x front → (b : ℕ) × (tail : List ℕ) × (b < 256) × (front ≡ b ∷ tail)) →
    Reads Good read
headed_reads {A} {Good} read k none some goes begins = record {
  back = λ x front rest g.
      let h = begins x front g in
      ap (λ (t : List ℕ). read (t ++ rest)) h.3 ∙ some h.0 (h.1 ++ rest)
      ∙ (goes h.0 h.2).back x h.1 rest (subst (Good x) h.3 g);
  only = λ bytes. elim bytes as (λ bytes. (x : A) (rest : List ℕ) → IsBytes bytes → read bytes ≡ gives x rest →
      (front : List ℕ) × Good x front × (bytes ≡ front ++ rest)) [
        | [] ↦ λ x rest fits e. absurd (let n = sym none ∙ e in cc)
        | b ∷ bytes ↦ λ x rest fits e.
            let o = (goes b fits.0).only bytes x rest fits.1 (sym (some b bytes) ∙ e) in
            (b ∷ o.0, o.1, ap (λ (t : List ℕ). b ∷ t) o.2)
      ];
  firm = λ bytes. elim bytes as (λ bytes. (more : List ℕ) (code : ℕ) → IsBytes bytes → read bytes ≡ Err code →
      read (bytes ++ more) ≡ Err code) [
        | [] ↦ λ more code fits e. absurd (let n = sym none ∙ e in cc)
        | b ∷ bytes ↦ λ more code fits e.
            some b (bytes ++ more) ∙ (goes b fits.0).firm bytes more code fits.1 (sym (some b bytes) ∙ e)
      ];
}

-- nothing is read, and nothing has a text
refused_reads : {A : Type 0} {Good : A → List ℕ → Type 0} (code : ℕ) → ((x : A) (front : List ℕ) → Good x front → ⊥) →
    Reads Good (λ bytes. Err code)
refused_reads code none = record {
  back = λ x front rest g. absurd (none x front g);
  only = λ bytes x rest fits e. absurd cc;
  firm = λ bytes more found fits e. e;
}

-- ==== After a skip

pub record SkippedGood {F : Type 0} (P : Profile F) (x : List ℕ) (p : Part F) (front : List ℕ) : Type 0 where
  pub part : IsPart P p
  pub lower : (range_of p).lower ≡ x
  pub is : front ≡ compact_body P p

-- the first byte of a part's text is above 63
is_head : {F : Type 0} (P : Profile F) (p : Part F) (head : ℕ) (front : List ℕ) → head ∷ front ≡ compact_body P p →
    63 < head
is_head P p head front is =
    let e = cons_eq head (body_head p) front (body_tail P p) (is ∙ body_begins P p) in
    let same = e.0 in
    let r = body_head_range p in
    let low = r.0 in omega arith

skipped_reads : {F : Type 0} (P : Profile F) → IsProfile P → (x : List ℕ) → IsLower x →
    Reads (SkippedGood P x) (skipped_from P x)
skipped_reads {F} P real x low = headed_reads (skipped_from P x)
    (λ head bytes. if nat_lt head 64 then Err bad_kind else body_from P x head bytes) refl (λ b bytes. refl)
    (λ head small. reads_if (nat_lt head 64)
    (λ h. let lt = ltb-true _ _ h in
    refused_reads bad_kind (λ p front g. let le = is_head P p head front g.is in omega arith))
    (λ h. let le = ltb-false _ _ h in as_reads (body_reads P real x head low (omega arith) small)
    (λ p front fits g. record { part = g.part; lower = g.lower; is = g.is })
    (λ p front g. record { part = g.part; lower = g.lower; is = g.is })))
    (λ p front g. (body_head p, body_tail P p, (body_head_range p).1, g.is ∙ body_begins P p))

-- ==== A skip, and a part after it

pub record SkipGood {F : Type 0} (P : Profile F) (z : List ℕ) (head : ℕ) (p : Part F) (front : List ℕ) : Type 0 where
  pub part : IsPart P p
  pub after : comes_before z (range_of p).lower ≡ true
  pub is : head ∷ front ≡ bound_text 0 z (Some (range_of p).lower) ++ compact_body P p

abbrev SkipRead : {F : Type 0} → Profile F → List ℕ → ℕ → Part F → List ℕ → Type 0
SkipRead P z head = Then (BoundGood z head) (SkippedGood P)

skip_to : {F : Type 0} (P : Profile F) (z : List ℕ) (head : ℕ) (p : Part F) (front : List ℕ) → head < 64 →
    SkipRead P z head p front → SkipGood P z head p front
skip_to {F} P z head p front low (x, f, r, bound, g, whole) = record {
  part = g.part;
  after = ap (comes_before z) g.lower ∙ bound.after;
  is = (λ i. head ∷ whole i) ∙ (λ i. bound_made 0 z head x f (omega arith) bound i ++ g.is i)
      ∙ ap (λ (x : List ℕ). bound_text 0 z (Some x) ++ compact_body P p) (sym g.lower);
}

-- what is after something is not empty
some_after : (z x : List ℕ) → comes_before z x ≡ true → 1 ≤ length x
some_after [] [] h = absurd cc
some_after (a ∷ z) [] h = absurd cc
some_after z (b ∷ x) h = omega arith

lower_item : (z x : List ℕ) → IsLower x → comes_before z x ≡ true → IsItem x
lower_item z x low after = record { not_empty = some_after z x after; not_long = low.not_long; bytes = low.bytes }

skip_from_good : {F : Type 0} (P : Profile F) (z : List ℕ) (head : ℕ) (p : Part F) (front : List ℕ) →
    SkipGood P z head p front → SkipRead P z head p front
skip_from_good P z head p front g =
    let x : List ℕ = (range_of p).lower in
    let e = cons_eq head (bound_head 0 z (Some x)) front (bound_tail z (Some x) ++ compact_body P p)
    (g.is ∙ ap (λ (t : List ℕ). t ++ compact_body P p) (bound_begins 0 z (Some x))) in
    let t = bound_told 0 z head x (bound_tail z (Some x))
    (lower_item z x (part_range P p g.part).lower g.after) g.after
    (ap (λ n. n ∷ bound_tail z (Some x)) e.0 ∙ sym (bound_begins 0 z (Some x))) in (
      x,
      bound_tail z (Some x),
      compact_body P p,
      t.1.1,
      record { part = g.part; lower = refl; is = refl },
      e.1,
    )

skip_reads : {F : Type 0} (P : Profile F) → IsProfile P → (z : List ℕ) (head : ℕ) → IsLower z → head < 64 →
    0 < head % 8 → Reads (SkipGood P z head) (skip_from P z head)
skip_reads P real z head low lt some = as_reads (then_reads (bound_reads z head low some)
    (λ x. skipped_from P x.0 x.1) (SkippedGood P)
    (λ x front g. skipped_reads P real x (item_lower x g.item)))
    (λ p front fits g. skip_to P z head p front lt g) (λ p front g. skip_from_good P z head p front g)

-- ==== A part

pub record PartGood {F : Type 0} (P : Profile F) (z : List ℕ) (head : ℕ) (p : Part F) (front : List ℕ) : Type 0 where
  pub part : IsPart P p
  pub climbs : comes_before (range_of p).lower z ≡ false
  pub is : head ∷ front ≡ skip_text z (range_of p).lower ++ compact_body P p

-- z and x are equal, or z comes before x
after_of : (z x : List ℕ) → comes_before x z ≡ false → bytes_eq z x ≡ false → comes_before z x ≡ true
after_of [] [] upto other = absurd cc
after_of [] (b ∷ x) upto other = refl
after_of (a ∷ z) [] upto other = absurd cc
after_of (a ∷ z) (b ∷ x) upto other = grind (arith, after_of z x)

same_of : (z x : List ℕ) → bytes_eq z x ≡ true → z ≡ x
same_of z x h = (bytes_eq-Decides z x).0 h

other_of : (z x : List ℕ) → comes_before z x ≡ true → bytes_eq z x ≡ false
other_of z x after = cases (bytes_eq z x) refl where
  cases : (b : Bool) → bytes_eq z x ≡ b → bytes_eq z x ≡ false
  cases false h = h
  cases true h = absurd (let same = ap (comes_before z) (sym (same_of z x h)) in
      let never = before-irrefl z in cc)

no_skip : (z x : List ℕ) → bytes_eq z x ≡ true → skip_text z x ≡ []
no_skip z x h = ap (λ (b : Bool). if b then [] else bound_text 0 z (Some x)) h

skips : (z x : List ℕ) → bytes_eq z x ≡ false → skip_text z x ≡ bound_text 0 z (Some x)
skips z x h = ap (λ (b : Bool). if b then [] else bound_text 0 z (Some x)) h

part_of_body : {F : Type 0} (P : Profile F) (z : List ℕ) (head : ℕ) (p : Part F) (front : List ℕ) →
    BodyGood P z head p front → PartGood P z head p front
part_of_body {F} P z head p front g = record {
  part = g.part;
  climbs = ap (λ (x : List ℕ). comes_before x z) g.lower ∙ before-irrefl z;
  is = g.is ∙ ap (λ (t : List ℕ). t ++ compact_body P p)
      (sym (no_skip z (range_of p).lower ((bytes_eq-Decides z (range_of p).lower).1 (sym g.lower))));
}

part_of_skip : {F : Type 0} (P : Profile F) (z : List ℕ) (head : ℕ) (p : Part F) (front : List ℕ) →
    SkipGood P z head p front → PartGood P z head p front
part_of_skip {F} P z head p front g = record {
  part = g.part;
  climbs = before-asym z (range_of p).lower g.after;
  is = g.is ∙ ap (λ (t : List ℕ). t ++ compact_body P p)
      (sym (skips z (range_of p).lower (other_of z (range_of p).lower g.after)));
}

-- where there is no skip, the head is the part's; where there is one, it is the skip's
body_or_skip : {F : Type 0} (P : Profile F) (z : List ℕ) (head : ℕ) (p : Part F) (front : List ℕ) →
    PartGood P z head p front →
    ((63 < head) × BodyGood P z head p front) ⊎ ((head < 64) × (0 < head % 8) × SkipGood P z head p front)
body_or_skip {F} P z head p front g = cases (bytes_eq z (range_of p).lower) refl where
  cases : (b : Bool) → bytes_eq z (range_of p).lower ≡ b →
      ((63 < head) × BodyGood P z head p front) ⊎ ((head < 64) × (0 < head % 8) × SkipGood P z head p front)
  cases true h =
      let is = g.is ∙ ap (λ (t : List ℕ). t ++ compact_body P p) (no_skip z (range_of p).lower h) in
      inl (is_head P p head front is, record { part = g.part; lower = sym (same_of z _ h); is = is })
  cases false h =
      let x : List ℕ = (range_of p).lower in
      let is = g.is ∙ ap (λ (t : List ℕ). t ++ compact_body P p) (skips z x h) in
      let skip : SkipGood P z head p front = record { part = g.part; after = after_of z x g.climbs h; is = is } in
      let e = cons_eq head (bound_head 0 z (Some x)) front (bound_tail z (Some x) ++ compact_body P p)
      (is ∙ ap (λ (t : List ℕ). t ++ compact_body P p) (bound_begins 0 z (Some x))) in
      let same = e.0 in
      let r = head_range 0 z (Some x) (omega arith) in
      let high = r.1 in
      let t = bound_told 0 z head x (bound_tail z (Some x))
      (lower_item z x (part_range P p g.part).lower skip.after) skip.after
      (ap (λ n. n ∷ bound_tail z (Some x)) e.0 ∙ sym (bound_begins 0 z (Some x))) in
      inr (omega arith, t.1.0, skip)

to_body : {F : Type 0} (P : Profile F) (z : List ℕ) (head : ℕ) (p : Part F) (front : List ℕ) → 63 < head →
    PartGood P z head p front → BodyGood P z head p front
to_body P z head p front high g = elim (body_or_skip P z head p front g) [
  | inl b ↦ b.1
  | inr s ↦ absurd (let low = s.0 in omega arith)
]

to_skip : {F : Type 0} (P : Profile F) (z : List ℕ) (head : ℕ) (p : Part F) (front : List ℕ) → head < 64 →
    PartGood P z head p front → (0 < head % 8) × SkipGood P z head p front
to_skip P z head p front low g = elim (body_or_skip P z head p front g) [
  | inl b ↦ absurd (let high = b.0 in omega arith)
  | inr s ↦ (s.1, s.2)
]

part_reads : {F : Type 0} (P : Profile F) → IsProfile P → (z : List ℕ) (head : ℕ) → IsLower z → head < 256 →
    Reads (PartGood P z head) (part_from P z head)
part_reads P real z head low small = reads_if (nat_lt 63 head)
    (λ h. let high = ltb-true _ _ h in as_reads (body_reads P real z head low high small)
    (λ p front fits g. part_of_body P z head p front g) (λ p front g. to_body P z head p front high g))
    (λ h. let at_most = ltb-false _ _ h in let lt : head < 64 = omega arith in reads_if (head % 8 == 0)
    (λ h. let none = eqb-true _ _ h in refused_reads bad_kind
    (λ p front g. let t = to_skip P z head p front lt g in let some = t.0 in omega arith))
    (λ h. let not_none = eqb-false _ _ h in as_reads (skip_reads P real z head low lt (omega arith))
    (λ p front fits g. part_of_skip P z head p front g) (λ p front g. (to_skip P z head p front lt g).1)))

-- ==== A unit

-- the unit is one after z, and this is its text
abbrev pub UnitGood : {F : Type 0} → Profile F → Option (List ℕ) → Event F → List ℕ → Type 0
UnitGood P z e front = IsUnit P z e × (front ≡ unit_text P z e)

abbrev UnitFrom : {F : Type 0} → Profile F → Option (List ℕ) → ℕ → Event F → List ℕ → Type 0
UnitFrom P z head e front = UnitGood P z e (head ∷ front)

-- a part's first byte is neither 0 nor 8
part_head : {F : Type 0} (P : Profile F) (z : List ℕ) (p : Part F) → IsPart P p →
    comes_before (range_of p).lower z ≡ false →
    (head : ℕ) × (front : List ℕ) × (head < 256) × (unit_text P (Some z) (Came p) ≡ head ∷ front)
part_head {F} P z p part climbs = cases (bytes_eq z (range_of p).lower) refl where
  cases : (b : Bool) → bytes_eq z (range_of p).lower ≡ b →
      (head : ℕ) × (front : List ℕ) × (head < 256) × (unit_text P (Some z) (Came p) ≡ head ∷ front)
  cases true h = (
    body_head p,
    body_tail P p,
    (body_head_range p).1,
    ap (λ (t : List ℕ). t ++ compact_body P p) (no_skip z (range_of p).lower h) ∙ body_begins P p,
  )
  cases false h =
      let x : List ℕ = (range_of p).lower in
      let r = head_range 0 z (Some x) (omega arith) in
      let high = r.1 in (
        bound_head 0 z (Some x),
        bound_tail z (Some x) ++ compact_body P p,
        omega arith,
        ap (λ (t : List ℕ). t ++ compact_body P p) (skips z x h ∙ bound_begins 0 z (Some x)),
      )

not_these : (n : ℕ) → (63 < n) ⊎ (0 < n % 8) → ((n == 0) ≡ false) × ((n == 8) ≡ false)
not_these n h = grind arith

part_is_no_other : {F : Type 0} (P : Profile F) (z : List ℕ) (head : ℕ) (p : Part F) (front : List ℕ) →
    PartGood P z head p front → ((head == 0) ≡ false) × ((head == 8) ≡ false)
part_is_no_other P z head p front g = not_these head (elim (body_or_skip P z head p front g) [
  | inl b ↦ inl b.0
  | inr s ↦ inr s.1
])

abbrev OfPart : {F : Type 0} → Profile F → Option (List ℕ) → ℕ → Part F → List ℕ → Type 0
OfPart P None head p front = ⊥
OfPart P (Some z) head p front = PartGood P z head p front

abbrev EndSays : {F : Type 0} → ℕ → Event F → List ℕ → Type 0
EndSays head e front = (e ≡ Ended) × (front ≡ [])

abbrev FaultSays : {F : Type 0} → ℕ → Event F → List ℕ → Type 0
FaultSays head e front = (code : ℕ) × (front ≡ code ∷ []) × (e ≡ Failed code)

abbrev PartSays : {F : Type 0} → Profile F → Option (List ℕ) → ℕ → Event F → List ℕ → Type 0
PartSays {F} P z head e front = (p : Part F) × OfPart P z head p front × (e ≡ Came p)

-- the first byte says which
abbrev HeadSays : {F : Type 0} → Profile F → Option (List ℕ) → ℕ → Event F → List ℕ → Type 0
HeadSays P z head e front = ((head ≡ 0) × EndSays head e front) ⊎ (((head ≡ 8) × FaultSays head e front)
    ⊎ (((head == 0) ≡ false) × ((head == 8) ≡ false) × PartSays P z head e front))

head_says : {F : Type 0} (P : Profile F) (z : Option (List ℕ)) (head : ℕ) (e : Event F) (front : List ℕ) →
    UnitFrom P z head e front → HeadSays P z head e front
head_says P None head (Came p) front g = absurd g.0.1
head_says P (Some z) head (Came p) front g =
    let part : PartGood P z head p front = record { part = g.0.0; climbs = g.0.1; is = g.1 } in
    let no = part_is_no_other P z head p front part in inr (inr (no.0, no.1, (p, part, refl)))
head_says P z head Ended front g = let e = cons_eq head 0 front [] g.1 in inl (e.0, (refl, e.1))
head_says P z head (Failed code) front g =
    let e = cons_eq head 8 front (code ∷ []) g.1 in inr (inl (e.0, (code, e.1, refl)))

ended_to : {F : Type 0} (P : Profile F) (z : Option (List ℕ)) (head : ℕ) (e : Event F) (front : List ℕ) → head ≡ 0 →
    EndSays head e front → UnitFrom P z head e front
ended_to P z head e front none says =
    subst (λ e. UnitFrom P z head e front) (sym says.0) (tt, λ i. none i ∷ says.1 i)

failed_to : {F : Type 0} (P : Profile F) (z : Option (List ℕ)) (head : ℕ) (e : Event F) (front : List ℕ) → head ≡ 8 →
    FaultSays head e front → UnitFrom P z head e front
failed_to P z head e front eight (code, is, says) =
    subst (λ e. UnitFrom P z head e front) (sym says) (tt, λ i. eight i ∷ is i)

came_to_unit : {F : Type 0} (P : Profile F) (z : Option (List ℕ)) (head : ℕ) (e : Event F) (front : List ℕ) →
    PartSays P z head e front → UnitFrom P z head e front
came_to_unit P None head e front (p, g, is) = absurd g
came_to_unit P (Some z) head e front (p, g, is) =
    subst (λ e. UnitFrom P (Some z) head e front) (sym is) ((g.part, g.climbs), g.is)

came_reads : {F : Type 0} (P : Profile F) → IsProfile P → (z : Option (List ℕ)) (head : ℕ) → IfSome z IsLower →
    head < 256 → Reads (PartSays P z head) (came_at P z head)
came_reads P real None head low small = refused_reads (end_fault head) (λ e front g. g.1)
came_reads P real (Some z) head low small = mapped_reads (part_reads P real z head low small) (λ p. Came p)

-- of the three, the one of this byte
is_end : {F : Type 0} (P : Profile F) (z : Option (List ℕ)) (head : ℕ) (e : Event F) (front : List ℕ) → head ≡ 0 →
    HeadSays P z head e front → EndSays head e front
is_end P z head e front none (inl h) = h.1
is_end P z head e front none (inr (inl h)) = absurd (let eight = h.0 in omega arith)
is_end P z head e front none (inr (inr h)) = absurd (let no = eqb-false _ _ h.0 in omega arith)

is_fault : {F : Type 0} (P : Profile F) (z : Option (List ℕ)) (head : ℕ) (e : Event F) (front : List ℕ) → head ≡ 8 →
    HeadSays P z head e front → FaultSays head e front
is_fault P z head e front eight (inl h) = absurd (let none = h.0 in omega arith)
is_fault P z head e front eight (inr (inl h)) = h.1
is_fault P z head e front eight (inr (inr h)) = absurd (let no = eqb-false _ _ h.1 in omega arith)

is_part : {F : Type 0} (P : Profile F) (z : Option (List ℕ)) (head : ℕ) (e : Event F) (front : List ℕ) →
    (head == 0) ≡ false → (head == 8) ≡ false → HeadSays P z head e front → PartSays P z head e front
is_part P z head e front not_end not_fault (inl h) =
    absurd (let no = eqb-false _ _ not_end in let none = h.0 in omega arith)
is_part P z head e front not_end not_fault (inr (inl h)) =
    absurd (let no = eqb-false _ _ not_fault in let eight = h.0 in omega arith)
is_part P z head e front not_end not_fault (inr (inr h)) = h.2

pub unit_begins : {F : Type 0} (P : Profile F) (z : Option (List ℕ)) (e : Event F) (front : List ℕ) →
    UnitGood P z e front → (b : ℕ) × (tail : List ℕ) × (b < 256) × (front ≡ b ∷ tail)
unit_begins P None (Came p) front g = absurd g.0.1
unit_begins P (Some z) (Came p) front g =
    let h = part_head P z p g.0.0 g.0.1 in (h.0, h.1, h.2, g.1 ∙ h.3)
unit_begins P z Ended front g = (0, [], omega arith, g.1)
unit_begins P z (Failed code) front g = (8, code ∷ [], omega arith, g.1)

pub unit_reads : {F : Type 0} (P : Profile F) → IsProfile P → (z : Option (List ℕ)) → IfSome z IsLower →
    Reads (UnitGood P z) (unit_at P z)
unit_reads {F} P real z low = headed_reads (unit_at P z)
    (λ head bytes. if head == 0 then gives Ended bytes
    else if head == 8 then failed_from bytes
    else came_at P z head bytes) refl (λ b bytes. refl)
    (λ head small. reads_if (head == 0)
    (λ h. let none = eqb-true _ _ h in as_reads (given_reads Ended)
    (λ e front fits g. ended_to P z head e front none g)
    (λ e front g. is_end P z head e front none (head_says P z head e front g)))
    (λ n0. reads_if (head == 8)
    (λ h. let eight = eqb-true _ _ h in as_reads (mapped_reads byte_reads (λ code. Failed code))
    (λ e front fits g. failed_to P z head e front eight g)
    (λ e front g. is_fault P z head e front eight (head_says P z head e front g)))
    (λ n8. as_reads (came_reads P real z head low small)
    (λ e front fits g. came_to_unit P z head e front g)
    (λ e front g. is_part P z head e front n0 n8 (head_says P z head e front g)))))
    (λ e front g. unit_begins P z e front g)
