-- Lists of items and fields in the compact spelling.
-- By induction on the list (`entries_back`, `entries_only`): what is read from all bytes of a field are one item or
-- more, each after the one before it (CompactFields), below the upper bound and with room in the frame's body. Such a
-- list is the same as items that rise strictly and lie in the range, which is what the definition of a part asks for
-- (`of_entries`, `to_entries`); their length in a frame is within the room, as each step takes its own from it.
-- A field is a number and so many bytes, which are read as a whole.
-- docs/LAWS.md: The compact spelling.
use Rattle.std.proofs.Common.{◌≡◌, ℕ, zero, suc, ◌-◌, ◌<◌, ◌≤◌, Bool, true, false, List, [], ◌∷◌, ◌++◌, length, Option}
use Rattle.std.proofs.Common.{Some, None, Ok, Err, refl, sym, ap, subst, ◌∙◌, arith, inl, inr}
use Rattle.std.specs.Prelude.{◌⊎◌, nat_lt, not, ◌==◌, if◌then◌else◌, ⊤}
use Rattle.definitions.proofs.Words.{IsBytes, IsItem, IsLower, Item, Range, is_below, short_text}
use Rattle.definitions.proofs.Lemmas.{not-false, length-append, append-nil, ltb-false, le-ltb, eqb-true, eq-eqb}
use Rattle.definitions.specs.Compact.{number_text, common_length, entry_text, entries_text, compact_items, field_text}
use Rattle.definitions.specs.CompactReading.{Reading, ◌>>=◌, gives, but_not, item_from, others_from, bytes_from}
use Rattle.definitions.specs.CompactReading.{entries_from, wide_items_from, items_from, max_field, all_of, held_from}
use Rattle.definitions.specs.CompactReading.{field_from}
use Rattle.definitions.specs.Refusals.{frame_length, item_length, item_outside}
use Rattle.laws.proofs.Fields.{rest_fits, front_fits}
use Rattle.laws.proofs.CompactBounds.{Reads, Then, as_reads, then_reads, given_is, test_reads, bytes_read, cases_of}
use Rattle.laws.proofs.CompactBounds.{given_more, bytes_firm}
use Rattle.laws.proofs.CompactFields.{IsWide, follows, EntryGood, entry_reads, number_reads, NumberGood}

-- ==== An item that may stand in the list

pub record ItemGood (width : ℕ) (y : Option (List ℕ)) (room : ℕ) (first : Bool) (before : List ℕ) (x : Item)
    (front : List ℕ) : Type 0 where
  pub entry : EntryGood width first before x front
  pub below : is_below x y ≡ true
  pub fits : length (short_text x) ≤ room

abbrev ItemTests : ℕ → Option (List ℕ) → ℕ → Item → Item → List ℕ → Type 0
ItemTests width y room x = Then (λ z front. (not (is_below x y) ≡ false) × ((z ≡ x) × (front ≡ [])))
    (λ z w front. (nat_lt room (length (short_text z)) ≡ false) × ((w ≡ z) × (front ≡ [])))

item_to : (width : ℕ) (y : Option (List ℕ)) (room : ℕ) (first : Bool) (before : List ℕ) (x : Item) (front : List ℕ) →
    Then (EntryGood width first before) (ItemTests width y room) x front → ItemGood width y room first before x front
item_to width y room first before x front
    (x1, f, r, entry, (z, f2, r2, (below, (z_is, none)), (fits, (w_is, none2)), r_is), whole) =
    let same : x1 ≡ x = sym (w_is ∙ z_is) in
    let z_same : z ≡ x = sym w_is in
    let all : f ≡ front = sym (append-nil f) ∙ (λ i. f ++ (sym none i ++ sym none2 i)) ∙ (λ i. f ++ sym r_is i)
    ∙ sym whole in
    record {
      entry = subst (λ (x : List ℕ). EntryGood width first before x front) same
          (subst (λ (t : List ℕ). EntryGood width first before x1 t) all entry);
      below = ap (λ (x : List ℕ). is_below x y) (sym same) ∙ not-false _ below;
      fits = subst (λ (x : List ℕ). length (short_text x) ≤ room) z_same (ltb-false _ _ fits);
    }

item_from_good : (width : ℕ) (y : Option (List ℕ)) (room : ℕ) (first : Bool) (before : List ℕ) (x : Item)
    (front : List ℕ) → ItemGood width y room first before x front →
    Then (EntryGood width first before) (ItemTests width y room) x front
item_from_good width y room first before x front g = let le = g.fits in (
  x,
  front,
  [],
  g.entry,
  (x, [], [], (ap not g.below, (refl, refl)), (le-ltb _ _ le, (refl, refl)), refl),
  sym (append-nil front),
)

item_reads : (width : ℕ) (y : Option (List ℕ)) (room : ℕ) (first : Bool) (before : List ℕ) → width ≤ 64 →
    IsLower before → Reads (ItemGood width y room first before) (item_from width y room first before)
item_reads width y room first before narrow low =
    as_reads (then_reads (entry_reads width first before narrow low)
    (λ x. but_not (not (is_below x.0 y)) item_outside x
    >>= (λ within. but_not (nat_lt room (length (short_text within.0))) frame_length within))
    (ItemTests width y room)
    (λ x front g. then_reads (test_reads (not (is_below x y)) item_outside x)
    (λ within. but_not (nat_lt room (length (short_text within.0))) frame_length within)
    (λ z w front. (nat_lt room (length (short_text z)) ≡ false) × ((w ≡ z) × (front ≡ [])))
    (λ z front2 g2. test_reads (nat_lt room (length (short_text z))) frame_length z)))
    (λ x front fits g. item_to width y room first before x front g)
    (λ x front g. item_from_good width y room first before x front g)

-- ==== Items one after another

-- items that may stand one after another after this one
abbrev pub AreEntries : ℕ → Option (List ℕ) → ℕ → Bool → List ℕ → List Item → Type 0
AreEntries width y room first before [] = ⊤
AreEntries width y room first before (x ∷ xs) = IsItem x × IsWide width x × (follows first before x ≡ true)
    × (is_below x y ≡ true) × (length (short_text x) ≤ room)
    × AreEntries width y (room - length (short_text x)) false x xs

pub item_lower : (x : Item) → IsItem x → IsLower x
item_lower x h = record { not_long = h.not_long; bytes = h.bytes }

others_back : (more : List ℕ → Reading (List Item)) (width : ℕ) (x : Item) (xs : List Item) →
    ((0 < length xs) → more (entries_text width x xs) ≡ gives xs []) →
    others_from more (entries_text width x xs) ≡ gives xs []
others_back more width x [] h = refl
others_back more width x (z ∷ xs) h = h (omega arith)

entry_some : (width : ℕ) (before : List ℕ) (x : Item) → 0 < length (entry_text width before x)
entry_some width before x = omega arith

entries_back : (fuel width : ℕ) (y : Option (List ℕ)) (room : ℕ) (first : Bool) (before : List ℕ) (xs : List Item) →
    width ≤ 64 → IsLower before → length (entries_text width before xs) ≤ fuel → 0 < length xs →
    AreEntries width y room first before xs →
    entries_from fuel width y room first before (entries_text width before xs) ≡ gives xs []
entries_back fuel width y room first before [] narrow low enough some a = absurd (omega arith)
entries_back zero width y room first before (x ∷ xs) narrow low enough some a = absurd (omega arith)
entries_back (suc fuel) width y room first before (x ∷ xs) narrow low enough some a =
    let good : ItemGood width y room first before x (entry_text width before x) = record {
      entry = record { item = a.0; wide = a.1; next = a.2; is = refl };
      below = a.3;
      fits = a.4;
    } in
    let read = (item_reads width y room first before narrow low).back x (entry_text width before x)
    (entries_text width x xs) good in
    let len = length-append (entry_text width before x) (entries_text width x xs) in
    let rest : others_from (entries_from fuel width y (room - length (short_text x)) false x) (entries_text width x xs)
    ≡ gives xs [] =
    others_back (entries_from fuel width y (room - length (short_text x)) false x) width x xs
    (λ n. entries_back fuel width y (room - length (short_text x)) false x xs narrow (item_lower x a.0) (omega arith) n
    a.5) in
    ap (λ r. r >>= (λ p. others_from (entries_from fuel width y (room - length (short_text p.0)) false p.0) p.1
    >>= (λ q. gives (p.0 ∷ q.0) q.1))) read
    ∙ ap (λ r. r >>= (λ q. gives (x ∷ q.0) q.1)) rest

abbrev EntriesFound : ℕ → Option (List ℕ) → ℕ → Bool → List ℕ → List ℕ → List Item → List ℕ → Type 0
EntriesFound width y room first before bytes xs rest = (0 < length xs) × AreEntries width y room first before xs
    × (bytes ≡ entries_text width before xs) × (rest ≡ [])

others_only : (more : List ℕ → Reading (List Item)) (bytes : List ℕ) (xs : List Item) (rest : List ℕ) →
    others_from more bytes ≡ gives xs rest →
    ((bytes ≡ []) × (xs ≡ []) × (rest ≡ [])) ⊎ (more bytes ≡ gives xs rest)
others_only more [] xs rest e = let p = given_is [] xs [] rest e in inl (refl, sym p.0, sym p.1)
others_only more (b ∷ bytes) xs rest e = inr e

last_found : (width : ℕ) (y : Option (List ℕ)) (room : ℕ) (first : Bool) (before : List ℕ) (x : Item)
    (front bytes rest2 rest : List ℕ) (xs : List Item) → ItemGood width y room first before x front →
    bytes ≡ front ++ rest2 → (rest2 ≡ []) × (xs ≡ []) × (rest ≡ []) →
    EntriesFound width y room first before bytes (x ∷ xs) rest
last_found width y room first before x front bytes rest2 rest xs g is (none, last, end) = (
  omega arith,
  subst (λ (xs : List Item). AreEntries width y room first before (x ∷ xs)) (sym last)
      (g.entry.item, g.entry.wide, g.entry.next, g.below, g.fits, tt),
  is ∙ (λ i. g.entry.is i ++ none i) ∙ ap (λ (xs : List Item). entries_text width before (x ∷ xs)) (sym last),
  end,
)

more_found : (width : ℕ) (y : Option (List ℕ)) (room : ℕ) (first : Bool) (before : List ℕ) (x : Item)
    (front bytes rest2 rest : List ℕ) (xs : List Item) → ItemGood width y room first before x front →
    bytes ≡ front ++ rest2 → EntriesFound width y (room - length (short_text x)) false x rest2 xs rest →
    EntriesFound width y room first before bytes (x ∷ xs) rest
more_found width y room first before x front bytes rest2 rest xs g is (some, each, rest_is, end) = (
  omega arith,
  (g.entry.item, g.entry.wide, g.entry.next, g.below, g.fits, each),
  is ∙ (λ i. g.entry.is i ++ rest_is i),
  end,
)

found_is : (width : ℕ) (y : Option (List ℕ)) (room : ℕ) (first : Bool) (before bytes : List ℕ) (xs zs : List Item)
    (rest rest2 : List ℕ) → EntriesFound width y room first before bytes xs rest → gives xs rest ≡ gives zs rest2 →
    EntriesFound width y room first before bytes zs rest2
found_is width y room first before bytes xs zs rest rest2 f e =
    let p = given_is xs zs rest rest2 e in
    subst (λ (zs : List Item). EntriesFound width y room first before bytes zs rest2) p.0
    (subst (λ (t : List ℕ). EntriesFound width y room first before bytes xs t) p.1 f)

entries_only : (fuel width : ℕ) (y : Option (List ℕ)) (room : ℕ) (first : Bool) (before bytes : List ℕ)
    (xs : List Item) (rest : List ℕ) → width ≤ 64 → IsLower before → IsBytes bytes →
    entries_from fuel width y room first before bytes ≡ gives xs rest →
    EntriesFound width y room first before bytes xs rest
entries_only zero width y room first before bytes xs rest narrow low fits e = absurd cc
entries_only (suc fuel) width y room first before bytes xs rest narrow low fits e =
    elim (cases_of (item_from width y room first before bytes)
    (λ p. others_from (entries_from fuel width y (room - length (short_text p.0)) false p.0) p.1
    >>= (λ q. gives (p.0 ∷ q.0) q.1)) (gives xs rest) e) [
      | inl c ↦ let o = (item_reads width y room first before narrow low).only bytes c.0 c.1 fits c.2 in
          elim (cases_of (others_from (entries_from fuel width y (room - length (short_text c.0)) false c.0) c.1)
          (λ q. gives (c.0 ∷ q.0) q.1) (gives xs rest) c.3) [
            | inl d ↦ found_is width y room first before bytes (c.0 ∷ d.0) xs d.1 rest
                (elim (others_only (entries_from fuel width y (room - length (short_text c.0)) false c.0) c.1 d.0 d.1
                d.2) [
                  | inl last ↦ last_found width y room first before c.0 o.0 bytes c.1 d.1 d.0 o.1 o.2 last
                  | inr more ↦ more_found width y room first before c.0 o.0 bytes c.1 d.1 d.0 o.1 o.2
                      (entries_only fuel width y (room - length (short_text c.0)) false c.0 c.1 d.0 d.1 narrow
                      (item_lower c.0 o.1.entry.item) (rest_fits bytes o.0 c.1 o.2 fits) more)
                ])
                d.3
            | inr d ↦ absurd (elim d [ inl c ↦ (let n = c.2 in cc) | inr c ↦ (let n = c.1 in cc) ])
          ]
      | inr d ↦ absurd (elim d [ inl c ↦ (let n = c.2 in cc) | inr c ↦ (let n = c.1 in cc) ])
    ]

-- ==== All bytes of a field

-- all bytes are a text of the value, and such a text is read
pub record Holds {A : Type 0} (Good : A → List ℕ → Type 0) (read : List ℕ → Reading A) : Type 0 where
  pub back : (x : A) (bytes : List ℕ) → Good x bytes → read bytes ≡ gives x []
  pub only : (bytes : List ℕ) (x : A) (rest : List ℕ) → IsBytes bytes → read bytes ≡ gives x rest → Good x bytes

-- the items of a range, for which a frame's body has so much room
pub record ItemsGood (X : Range) (room : ℕ) (xs : List Item) (bytes : List ℕ) : Type 0 where
  pub each : AreEntries (common_length xs) X.upper room true X.lower xs
  pub is : bytes ≡ compact_items X.lower xs

common_small : (y : Option (List ℕ)) (room : ℕ) (first : Bool) (before : List ℕ) (width : ℕ) (xs : List Item) →
    AreEntries width y room first before xs → common_length xs ≤ 64
common_small y room first before width [] each = omega arith
common_small y room first before width (x ∷ xs) each = let long = each.0.not_long in grind arith

abbrev same_width : ℕ → List Item × List ℕ → Reading (List Item)
same_width width xs = but_not (not (common_length xs.0 == width)) item_length xs

wide_back : (X : Range) (room width : ℕ) (xs : List Item) → width ≤ 64 → IsLower X.lower → 0 < length xs →
    common_length xs ≡ width → AreEntries width X.upper room true X.lower xs →
    (if nat_lt 64 width then Err item_length else wide_items_from width X room (entries_text width X.lower xs))
    ≡ gives xs []
wide_back X room width xs narrow low some same each =
    ap (λ (b : Bool). if b then Err item_length
    else wide_items_from width X room (entries_text width X.lower xs)) (le-ltb _ _ narrow)
    ∙ ap (λ r. r >>= same_width width)
    (entries_back (length (entries_text width X.lower xs)) width X.upper room true X.lower xs narrow low (omega arith)
    some each)
    ∙ ap (λ (b : Bool). but_not (not b) item_length (xs, [])) (eq-eqb _ _ same)

items_back : (X : Range) (room : ℕ) (xs : List Item) → IsLower X.lower →
    AreEntries (common_length xs) X.upper room true X.lower xs →
    items_from X room (compact_items X.lower xs) ≡ gives xs []
items_back X room [] low each = refl
items_back X room (x ∷ xs) low each =
    wide_back X room (common_length (x ∷ xs)) (x ∷ xs) (common_small X.upper room true X.lower _ (x ∷ xs) each) low
    (omega arith) refl each

wide_found : (X : Range) (room width : ℕ) (bytes : List ℕ) (xs : List Item) → 0 < length xs →
    AreEntries width X.upper room true X.lower xs → bytes ≡ entries_text width X.lower xs →
    common_length xs ≡ width → ItemsGood X room xs (width ∷ bytes)
wide_found X room width bytes [] some each is same = absurd (omega arith)
wide_found X room width bytes (x ∷ xs) some each is same = record {
  each = subst (λ w. AreEntries w X.upper room true X.lower (x ∷ xs)) (sym same) each;
  is = (λ i. width ∷ is i) ∙ ap (λ w. w ∷ entries_text w X.lower (x ∷ xs)) (sym same);
}

wide_only : (X : Range) (room width : ℕ) (bytes : List ℕ) (xs : List Item) (rest : List ℕ) → IsLower X.lower →
    IsBytes bytes → width ≤ 64 → wide_items_from width X room bytes ≡ gives xs rest →
    ItemsGood X room xs (width ∷ bytes)
wide_only X room width bytes xs rest low fits narrow e =
    elim (cases_of (entries_from (length bytes) width X.upper room true X.lower bytes) (same_width width)
    (gives xs rest) e) [
      | inl c ↦ let f = entries_only (length bytes) width X.upper room true X.lower bytes c.0 c.1 narrow low fits c.2 in
          let t = (test_reads (not (common_length c.0 == width)) item_length c.0).only c.1 xs rest
          (subst IsBytes (sym f.3) tt) c.3 in
          subst (λ (xs : List Item). ItemsGood X room xs (width ∷ bytes)) (sym t.1.1.0)
          (wide_found X room width bytes c.0 f.0 f.1 f.2 (eqb-true _ _ (not-false _ t.1.0)))
      | inr d ↦ absurd (elim d [ inl c ↦ (let n = c.2 in cc) | inr c ↦ (let n = c.1 in cc) ])
    ]

items_only : (X : Range) (room : ℕ) (bytes : List ℕ) (xs : List Item) (rest : List ℕ) → IsLower X.lower →
    IsBytes bytes → items_from X room bytes ≡ gives xs rest → ItemsGood X room xs bytes
items_only X room [] xs rest low fits e =
    let p = given_is [] xs [] rest e in
    subst (λ (xs : List Item). ItemsGood X room xs []) p.0 (record { each = tt; is = refl })
items_only X room (width ∷ bytes) xs rest low fits e = cases (nat_lt 64 width) refl e where
  cases : (b : Bool) → nat_lt 64 width ≡ b →
      (if b then Err item_length else wide_items_from width X room bytes) ≡ gives xs rest →
      ItemsGood X room xs (width ∷ bytes)
  cases true h e = absurd cc
  cases false h e = wide_only X room width bytes xs rest low fits.1 (ltb-false _ _ h) e

pub items_hold : (X : Range) (room : ℕ) → IsLower X.lower → Holds (ItemsGood X room) (items_from X room)
items_hold X room low = record {
  back = λ xs bytes g. ap (items_from X room) g.is ∙ items_back X room xs low g.each;
  only = λ bytes xs rest fits e. items_only X room bytes xs rest low fits e;
}

-- ==== A field

all_only : {A : Type 0} (r : Reading A) (bytes : List ℕ) (x : A) (rest : List ℕ) → all_of r bytes ≡ gives x rest →
    (left : List ℕ) × (r ≡ gives x left) × (bytes ≡ rest)
all_only (Ok (Some p)) bytes x rest e = let q = given_is p.0 x bytes rest e in (p.1, (λ i. gives (q.0 i) p.1), q.1)
all_only (Ok None) bytes x rest e = absurd cc
all_only (Err code) bytes x rest e = absurd cc

all_firm : {A : Type 0} (r : Reading A) (bytes more : List ℕ) (code : ℕ) → all_of r bytes ≡ Err code →
    all_of r (bytes ++ more) ≡ Err code
all_firm (Ok (Some p)) bytes more code e = absurd cc
all_firm (Ok None) bytes more code e = e
all_firm (Err found) bytes more code e = e

held_reads : {A : Type 0} {Good : A → List ℕ → Type 0} {inside : List ℕ → Reading A} → Holds Good inside → (n : ℕ) →
    Reads (λ x front. Good x front × (length front ≡ n)) (held_from inside n)
held_reads {A} {Good} {inside} h n = record {
  back = λ x front rest g. ap (λ r. r >>= (λ field. all_of (inside field.0) field.1))
      ((bytes_read n).back front front rest (g.1, refl))
      ∙ ap (λ r. all_of r rest) (h.back x front g.0);
  only = λ bytes x rest fits e.
      elim (cases_of (bytes_from n bytes) (λ field. all_of (inside field.0) field.1) (gives x rest) e) [
        | inl c ↦ let o = (bytes_read n).only bytes c.0 c.1 fits c.2 in
            let a = all_only (inside c.0) c.1 x rest c.3 in
            let right : IsBytes c.0 = subst IsBytes o.1.1 (front_fits bytes o.0 c.1 o.2 fits) in (
              c.0,
              (h.only c.0 x a.0 right a.1, o.1.0),
              o.2 ∙ (λ i. o.1.1 i ++ a.2 i),
            )
        | inr d ↦ absurd (elim d [ inl c ↦ (let n = c.2 in cc) | inr c ↦ (let n = c.1 in cc) ])
      ];
  firm = λ bytes more code fits e.
      elim (cases_of (bytes_from n bytes) (λ field. all_of (inside field.0) field.1) (Err code) e) [
        | inl c ↦ ap (λ r. r >>= (λ field. all_of (inside field.0) field.1))
            (given_more (bytes_read n) bytes more c.0 c.1 fits c.2)
            ∙ all_firm (inside c.0) c.1 more code c.3
        | inr d ↦ elim d [
          | inl c ↦ absurd (bytes_firm n bytes c.0 c.1)
          | inr c ↦ absurd (let n = c.1 in cc)
        ]
      ];
}

-- the text of a value is held in a field
abbrev pub FieldGood : {A : Type 0} → (A → List ℕ → Type 0) → A → List ℕ → Type 0
FieldGood Good x front = (held : List ℕ) × Good x held × (length held ≤ max_field) × (front ≡ field_text held)

abbrev AfterNumber : {A : Type 0} → (A → List ℕ → Type 0) → ℕ → A → List ℕ → Type 0
AfterNumber Good n = Then (λ m front. (nat_lt max_field n ≡ false) × ((m ≡ n) × (front ≡ [])))
    (λ m x front. Good x front × (length front ≡ m))

field_to : {A : Type 0} (Good : A → List ℕ → Type 0) (x : A) (front : List ℕ) →
    Then NumberGood (AfterNumber Good) x front → FieldGood Good x front
field_to Good x front (n, f, r, number, (m, g, held, (few, (same, none)), (good, long), r_is), whole) =
    let count : n ≡ length held = sym same ∙ sym long in
    let most : n ≤ max_field = ltb-false _ _ few in (
      held,
      good,
      omega arith,
      whole ∙ (λ i. number.1 i ++ r_is i) ∙ (λ i. number_text (count i) ++ (none i ++ held)),
    )

field_from_good : {A : Type 0} (Good : A → List ℕ → Type 0) (x : A) (front : List ℕ) → FieldGood Good x front →
    Then NumberGood (AfterNumber Good) x front
field_from_good Good x front (held, good, few, is) = (
  length held,
  number_text (length held),
  held,
  (omega arith, refl),
  (length held, [], held, (le-ltb _ _ few, (refl, refl)), (good, refl), refl),
  is,
)

pub field_reads : {A : Type 0} {Good : A → List ℕ → Type 0} {inside : List ℕ → Reading A} → Holds Good inside →
    Reads (FieldGood Good) (field_from inside)
field_reads {A} {Good} {inside} h = as_reads (then_reads number_reads
    (λ n. but_not (nat_lt max_field n.0) frame_length n >>= (λ m. held_from inside m.0 m.1)) (AfterNumber Good)
    (λ n front g. then_reads (test_reads (nat_lt max_field n) frame_length n) (λ m. held_from inside m.0 m.1)
    (λ m x front. Good x front × (length front ≡ m)) (λ m front2 g2. held_reads h m)))
    (λ x front fits g. field_to Good x front g) (λ x front g. field_from_good Good x front g)
