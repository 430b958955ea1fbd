-- The bodies of frames.
-- A body is its fields in order, so each reading of a body is a chain of readings that tell (Fields). An item is read,
-- tested against the one before it and against the range; n items are a run (`IsRun`), by induction on n; and a run is
-- the same as items that rise strictly and lie in the range, which is what the definition of a part asks for. Two
-- bounds and the test that the lower is below the upper make a range.
-- Then by the kind, the first byte: a Sum, a List, an Answer, the end of a message, a fault frame, and no sixth. For
-- each, the values are those of the event's spelling, and the faults those of the relation: the texts of right fields,
-- and after them what is no right field. After the last field nothing may be left.
-- docs/LAWS.md: Reading is exact.
use Rattle.std.proofs.Common.{rules, ◌≡◌, ℕ, zero, suc, true, List, [], ◌∷◌, ◌++◌, length, Option, Some, None, Result}
use Rattle.std.proofs.Common.{refl, sym, ap, subst, ◌∙◌, append_assoc, arith, inl, inr, Ordering, Less, ◌^◌, ◌<◌, ◌≤◌}
use Rattle.std.proofs.Common.{Bool, false, ◌||◌, take, drop, Err}
use Rattle.std.specs.Prelude.{◌⊎◌, not, IsTrue, flat_map, ⊤, ◌==◌, nat_lt, slice_index}
use Rattle.std.specs.List.Sorted.{IsStrictlySortedBy}
use Rattle.definitions.proofs.Words.{AllByRecursion, is_lt, IsBytes, Item, IsItem, Range, contains, item_cmp, IsUpper}
use Rattle.definitions.proofs.Words.{IsRange, is_below, IsSet, short_text, count_text, items_text, AreItemsOf}
use Rattle.definitions.proofs.Words.{upper_text, range_text, Profile, marks_text, Event, Came, Failed, Input}
use Rattle.definitions.proofs.Words.{One_message, Stream, greatest_kind, IsProfile, Says, Begins, NoItem, rises_from}
use Rattle.definitions.proofs.Words.{FaultyItem, FaultyItems, FaultyList, Trails, IsCount, FaultyBounds, FaultyUpper}
use Rattle.definitions.proofs.Words.{FaultyRange, FaultyBytes, FaultyAnswer, FaultyFields, FaultyBody, unless, text_at}
use Rattle.definitions.proofs.Words.{item_at, items_at, list_at, number_at, lower_at, upper_at, range_at, bytes_at}
use Rattle.definitions.proofs.Words.{marks_at, sum_at, listing_at, answer_at, came_at, failed_at, ended_at}
use Rattle.definitions.proofs.Words.{nothing_after, event_in, item_order, item_outside, empty_range, bad_kind, trailing}
use Rattle.definitions.proofs.Words.{Part, Sum, Listing, Answer}
use Rattle.definitions.proofs.Lemmas.{common_steps, length-append, ltb-true, ltb-false, eqb-true, append-nil}
use Rattle.definitions.proofs.Lemmas.{length-take-le, length-drop, take-append-drop, before-trans}
use Rattle.definitions.specs.Reading.{◌>>=◌}
use Rattle.laws.proofs.Fields.{Tells, along, as_told, after_reading, bind_assoc, tested, read_ok, item_field}
use Rattle.laws.proofs.Fields.{count_field, lower_field, upper_field, by_test_then, told_ok, told_err, rest_fits}
use Rattle.laws.proofs.Fields.{some_bytes, neq_of}
use Rattle.laws.proofs.Marks.{marks_told}

-- ==== Items, and the end of a body after them

abbrev inside : Range → Item × List ℕ → Result (Item × List ℕ) ℕ
inside X y = unless (not (contains X y.0)) item_outside y

item_after : {B : Type 0} (X : Range) (before : Option Item) (k : Item × List ℕ → Result B ℕ)
    (Good : Item → List ℕ → B → Type 0) (Later : Item → List ℕ → ℕ → Type 0) →
    ((x : Item) (rest : List ℕ) → Tells (IsBytes rest) (k (x, rest)) (Good x rest) (Later x rest)) → (bytes : List ℕ) →
    Tells (IsBytes bytes) (item_at X before bytes >>= k) (λ y.
    Begins short_text IsItem (λ x rest. IsTrue (rises_from before x) × (IsTrue (contains X x) × Good x rest y)) bytes)
    (λ e. NoItem bytes e ⊎ Begins short_text IsItem (λ x rest. FaultyItem X before x (Later x rest e) e) bytes)
item_after {B} X before k Good Later goes bytes =
    along (bind_assoc (text_at bytes) (λ x. unless (not (rises_from before x.0)) item_order x >>= inside X) k)
    (after_reading item_field (λ x. (unless (not (rises_from before x.0)) item_order x >>= inside X) >>= k)
    (λ x rest y. IsTrue (rises_from before x) × (IsTrue (contains X x) × Good x rest y))
    (λ x rest e. FaultyItem X before x (Later x rest e) e)
    (λ x rest right. as_told (along (bind_assoc (unless (not (rises_from before x)) item_order (x, rest)) (inside X) k)
    (tested (rises_from before x) item_order (x, rest) (λ y. inside X y >>= k) _ _
    (λ _. tested (contains X x) item_outside (x, rest) k _ _ (λ _. goes x rest))))
    (λ f. f) (λ y f g. g) (λ y g. g)
    (λ e b. elim b [
      | inl x ↦ inl x
      | inr x ↦ elim x.1 [ inl y ↦ inr (inl (x.0, y.0, y.1)) | inr y ↦ inr (inr (x.0, y.0, y.1)) ]
    ])
    (λ e b. elim b [
      | inl x ↦ inl x
      | inr x ↦ elim x [ inl y ↦ inr (y.0, inl (y.1, y.2)) | inr y ↦ inr (y.0, inr (y.1, y.2)) ]
    ])) bytes)

-- so many right items, each after the one before
abbrev pub IsRun : Range → ℕ → Option Item → List Item → Type 0
IsRun X zero before [] = ⊤
IsRun X zero before (x ∷ xs) = ⊥
IsRun X (suc n) before [] = ⊥
IsRun X (suc n) before (x ∷ xs) =
    IsItem x × IsTrue (rises_from before x) × IsTrue (contains X x) × IsRun X n (Some x) xs

abbrev Run : {B : Type 0} → Range → ℕ → Option Item → (List Item → List ℕ → B → Type 0) → List ℕ → B → Type 0
Run X n before Good bytes y = Begins (flat_map short_text) (IsRun X n before) (λ xs rest. Good xs rest y) bytes

run_none : {B : Type 0} (X : Range) (before : Option Item) (Good : List Item → List ℕ → B → Type 0) (bytes : List ℕ)
    (y : B) → Run X zero before Good bytes y → Good [] bytes y
run_none X before Good bytes y a = grind arith

abbrev FirstOf : {B : Type 0} → Range → ℕ → Option Item → (List Item → List ℕ → B → Type 0) → List ℕ → B → Type 0
FirstOf X n before Good bytes y = Begins short_text IsItem (λ x rest. IsTrue (rises_from before x)
    × (IsTrue (contains X x) × Run X n (Some x) (λ xs. Good (x ∷ xs)) rest y)) bytes

run_first : {B : Type 0} (X : Range) (n : ℕ) (before : Option Item) (Good : List Item → List ℕ → B → Type 0)
    (bytes : List ℕ) (y : B) → Run X (suc n) before Good bytes y → FirstOf X n before Good bytes y
run_first X n before Good bytes y ([], rest, run, is, g) = absurd run
run_first X n before Good bytes y (x ∷ xs, rest, run, is, g) = grind (arith, append_assoc)

run_more : {B : Type 0} (X : Range) (n : ℕ) (before : Option Item) (Good : List Item → List ℕ → B → Type 0)
    (bytes : List ℕ) (y : B) → FirstOf X n before Good bytes y → Run X (suc n) before Good bytes y
run_more X n before Good bytes y (x, rest, item, is, (rises, (within, (xs, more, run, is2, g)))) =
    grind (arith, append_assoc)

pub items_told : {B : Type 0} (X : Range) (n : ℕ) (before : Option Item) (k : List Item × List ℕ → Result B ℕ)
    (Good : List Item → List ℕ → B → Type 0) →
    ((xs : List Item) (rest : List ℕ) → Tells (IsBytes rest) (k (xs, rest)) (Good xs rest) (Trails rest)) →
    (bytes : List ℕ) →
    Tells (IsBytes bytes) (items_at X n before bytes >>= k) (Run X n before Good bytes) (FaultyItems X n before bytes)
items_told X zero before k Good goes bytes = as_told (goes [] bytes) (λ f. f) (λ y f g. ([], bytes, tt, refl, g))
    (run_none X before Good bytes) (λ e b. b) (λ e b. b)
items_told X (suc n) before k Good goes bytes =
    as_told (along
    (bind_assoc (item_at X before bytes) (λ x. items_at X n (Some x.0) x.1 >>= (λ xs. read_ok (x.0 ∷ xs.0, xs.1))) k)
    (item_after X before (λ x. (items_at X n (Some x.0) x.1 >>= (λ xs. read_ok (x.0 ∷ xs.0, xs.1))) >>= k)
    (λ x rest y. Run X n (Some x) (λ xs. Good (x ∷ xs)) rest y) (λ x rest e. FaultyItems X n (Some x) rest e)
    (λ x rest. along (bind_assoc (items_at X n (Some x) rest) (λ xs. read_ok (x ∷ xs.0, xs.1)) k)
    (items_told X n (Some x) (λ xs. k (x ∷ xs.0, xs.1)) (λ xs. Good (x ∷ xs)) (λ xs more. goes (x ∷ xs) more) rest))
    bytes))
    (λ f. f) (λ y f g. run_more X n before Good bytes y g) (run_first X n before Good bytes) (λ e b. b) (λ e b. b)

-- ---- a run and a set

less_of : (o : Ordering) → is_lt o ≡ true → o ≡ Less
less_of o h = grind arith

less-trans : (x y z : Item) → item_cmp x y ≡ Less → item_cmp y z ≡ Less → item_cmp x z ≡ Less
less-trans x y z h k = less_of (item_cmp x z) (before-trans x y z (ap is_lt h) (ap is_lt k))

all_after : (b x : Item) (xs : List Item) → item_cmp b x ≡ Less → AllByRecursion (λ y. item_cmp x y ≡ Less) xs →
    AllByRecursion (λ y. item_cmp b y ≡ Less) xs
all_after b x [] h a = tt
all_after b x (y ∷ ys) h a = (less-trans b x y h a.0, all_after b x ys h a.1)

abbrev pub After : Option Item → List Item → Type 0
After None xs = ⊤
After (Some b) xs = AllByRecursion (λ y. item_cmp b y ≡ Less) xs

after_rises : (before : Option Item) (x : Item) (xs : List Item) → After before (x ∷ xs) → IsTrue (rises_from before x)
after_rises before x xs a = grind arith

pub record Rising (X : Range) (n : ℕ) (before : Option Item) (xs : List Item) : Type 0 where
  pub count : length xs ≡ n
  pub each : AllByRecursion IsItem xs
  pub within : AllByRecursion (λ x. IsTrue (contains X x)) xs
  pub after : After before xs
  pub rises : IsSet xs

nothing_after_any : (before : Option Item) → After before []
nothing_after_any before = grind arith

pub run_rises : (X : Range) (n : ℕ) (before : Option Item) (xs : List Item) → IsRun X n before xs → Rising X n before xs
unfolding IsStrictlySortedBy
run_rises X zero before [] run =
    record { count = refl; each = tt; within = tt; after = nothing_after_any before; rises = tt }
run_rises X zero before (x ∷ xs) run = absurd run
run_rises X (suc n) before [] run = absurd run
run_rises X (suc n) before (x ∷ xs) run = grind (arith, run_rises X n (Some x) xs run.3, before, less_of, all_after)

pub rises_run : (X : Range) (before : Option Item) (xs : List Item) → AllByRecursion IsItem xs →
    AllByRecursion (λ x. IsTrue (contains X x)) xs → After before xs → IsSet xs → IsRun X (length xs) before xs
unfolding IsStrictlySortedBy
rises_run X before [] each within after rises = tt
rises_run X before (x ∷ xs) each within after rises =
    (each.0, after_rises before x xs after, within.0, rises_run X (Some x) xs each.1 within.1 rises.0 rises.1)

-- ---- a count and so many items

abbrev Counted : {B : Type 0} → Range → (List Item → List ℕ → B → Type 0) → List ℕ → B → Type 0
Counted X Good bytes y = Begins count_text IsCount (λ n rest. Run X n None Good rest y) bytes

list_of_count : {B : Type 0} (X : Range) (Good : List Item → List ℕ → B → Type 0) (bytes : List ℕ) (y : B) →
    Counted X Good bytes y → Begins items_text (AreItemsOf X) (λ xs rest. Good xs rest y) bytes
list_of_count X Good bytes y (n, rest, small, is, (xs, more, run, is2, g)) = grind (arith, run_rises, append_assoc)

count_of_list : {B : Type 0} (X : Range) (Good : List Item → List ℕ → B → Type 0) (bytes : List ℕ) (y : B) →
    Begins items_text (AreItemsOf X) (λ xs rest. Good xs rest y) bytes → Counted X Good bytes y
count_of_list X Good bytes y (xs, more, right, is, g) = grind (arith, append_assoc, rises_run)

pub list_told : {B : Type 0} (X : Range) (k : List Item × List ℕ → Result B ℕ)
    (Good : List Item → List ℕ → B → Type 0) →
    ((xs : List Item) (rest : List ℕ) → Tells (IsBytes rest) (k (xs, rest)) (Good xs rest) (Trails rest)) →
    (bytes : List ℕ) →
    Tells (IsBytes bytes) (list_at X bytes >>= k)
    (λ y. Begins items_text (AreItemsOf X) (λ xs rest. Good xs rest y) bytes) (FaultyList X bytes)
list_told {B} X k Good goes bytes =
    as_told (along (bind_assoc (number_at bytes) (λ n. items_at X n.0 None n.1) k)
    (after_reading count_field (λ n. items_at X n.0 None n.1 >>= k) (λ n rest y. Run X n None Good rest y)
    (λ n rest. FaultyItems X n None rest)
    (λ n rest _. items_told X n None k Good goes rest) bytes))
    (λ f. f) (λ y f g. list_of_count X Good bytes y g) (count_of_list X Good bytes) (λ e b. b) (λ e b. b)

-- ==== A range, and what follows it

abbrev span : List ℕ → Option (List ℕ) → Range
span x y = record { lower = x; upper = y }

abbrev bounds : List ℕ × List ℕ → Option (List ℕ) × List ℕ → Result (Range × List ℕ) ℕ
bounds x y = unless (not (is_below x.0 y.0)) empty_range (span x.0 y.0, y.1)

pub range_told : {B : Type 0} (k : Range × List ℕ → Result B ℕ) (Good : Range → List ℕ → B → Type 0)
    (Next : Range → List ℕ → ℕ → Type 0) →
    ((X : Range) (rest : List ℕ) → IsRange X → Tells (IsBytes rest) (k (X, rest)) (Good X rest) (Next X rest)) →
    (bytes : List ℕ) →
    Tells (IsBytes bytes) (range_at bytes >>= k) (λ y. Begins range_text IsRange (λ X rest. Good X rest y) bytes)
    (FaultyRange Next bytes)
range_told {B} k Good Next goes bytes =
    let GoodUpper : List ℕ → List ℕ → B → Type 0 =
    λ x rest z. Begins upper_text IsUpper (λ y more. IsTrue (is_below x y) × Good (span x y) more z) rest in
    as_told (along (bind_assoc (lower_at bytes) (λ x. upper_at x.1 >>= bounds x) k)
    (after_reading lower_field (λ x. (upper_at x.1 >>= bounds x) >>= k) GoodUpper (FaultyUpper Next)
    (λ x rest right. along (bind_assoc (upper_at rest) (bounds (x, rest)) k)
    (after_reading upper_field (λ y. bounds (x, rest) y >>= k)
    (λ y more z. IsTrue (is_below x y) × Good (span x y) more z) (FaultyBounds Next x)
    (λ y more right2. tested (is_below x y) empty_range (span x y, more) k _ _
    (λ below. goes (span x y) more (record { lower = right; upper = right2; rises = below }))) rest))
    bytes))
    (λ f. f)
    (λ z f g. let u = g.4 in (
      span g.0 u.0,
      u.1,
      record { lower = g.2; upper = u.2; rises = u.4.0 },
      g.3 ∙ ap (λ (t : List ℕ). short_text g.0 ++ t) u.3 ∙ sym (append_assoc (short_text g.0) (upper_text u.0) u.1),
      u.4.1,
    ))
    (λ z g. (
      g.0.lower,
      upper_text g.0.upper ++ g.1,
      g.2.lower,
      g.3 ∙ append_assoc (short_text g.0.lower) (upper_text g.0.upper) g.1,
      (g.0.upper, g.1, g.2.upper, λ i. upper_text g.0.upper ++ g.1, (g.2.rises, g.4)),
    ))
    (λ e b. b) (λ e b. b)

-- ==== A body: the events that it says, and its faults

-- ---- the end

pub end_told : {B : Type 0} (v : B) (rest : List ℕ) →
    Tells (IsBytes rest) (nothing_after (v, rest)) (λ y. (y ≡ v) × (rest ≡ [])) (Trails rest)
end_told v [] = told_ok _ v _ _ (λ _. (refl, refl)) (λ z g. sym g.0) (λ e b. let lt = b.0 in omega arith)
end_told v (b ∷ rest) = grind arith

-- n bytes and nothing more
pub bytes_end : {B : Type 0} (n : ℕ) (v : List ℕ → B) (bytes : List ℕ) →
    Tells (IsBytes bytes) (bytes_at n bytes >>= (λ f. nothing_after (v f.0, f.1)))
    (λ y. (length bytes ≡ n) × (y ≡ v bytes)) (FaultyBytes n bytes)
bytes_end {B} n v bytes = record {
  total = λ fits. elim ((some_bytes n bytes).total fits) [
    | inl p ↦ elim ((end_told (v p.0.0) p.0.1).total (rest_fits bytes p.0.0 p.0.1 p.1.1 fits)) [
      | inl q ↦ let whole : bytes ≡ p.0.0 = p.1.1 ∙ ap (λ (t : List ℕ). p.0.0 ++ t) q.1.1 ∙ append-nil p.0.0 in
          inl (
            q.0,
            (ap length whole ∙ p.1.0, q.1.0 ∙ ap v (sym whole)),
            ap (λ r. r >>= (λ f. nothing_after (v f.0, f.1))) p.2 ∙ q.2,
          )
      | inr q ↦ let more = q.1.0 in let l = ap length p.1.1 in let a = length-append p.0.0 p.0.1 in let len = p.1.0 in
          inr (q.0, inr (omega arith, q.1.1), ap (λ r. r >>= (λ f. nothing_after (v f.0, f.1))) p.2 ∙ q.2)
    ]
    | inr p ↦ inr (p.0, inl p.1, ap (λ r. r >>= (λ f. nothing_after (v f.0, f.1))) p.2)
  ];
  good = λ y g. ap (λ r. r >>= (λ f. nothing_after (v f.0, f.1)))
      ((some_bytes n bytes).good (bytes, []) (g.0, sym (append-nil bytes)))
      ∙ (end_told (v bytes) []).good y (g.1, refl);
  bad = λ e b. elim b [
    | inl x ↦ ap (λ r. r >>= (λ f. nothing_after (v f.0, f.1))) ((some_bytes n bytes).bad e x)
    | inr x ↦ too_long e x
  ];
} where
  too_long : (e : ℕ) → (n < length bytes) × (e ≡ trailing) →
      (bytes_at n bytes >>= (λ f. nothing_after (v f.0, f.1))) ≡ Err e
  too_long e x =
      let lt = x.0 in
      let len : length (take n bytes) ≡ n = length-take-le n bytes (omega arith) in
      let left : 0 < length (drop n bytes) = omega (arith, length-drop n bytes) in
      ap (λ r. r >>= (λ f. nothing_after (v f.0, f.1)))
      ((some_bytes n bytes).good (take n bytes, drop n bytes) (len, sym (take-append-drop n bytes)))
      ∙ (end_told (v (take n bytes)) (drop n bytes)).bad e (left, x.1)

-- ---- the three kinds of parts

abbrev Told : {F : Type 0} → Profile F → Input → ℕ → List ℕ → Result (Event F) ℕ → (ℕ → Type 0) → Type 0
Told P input kind bytes r Bad = Tells (IsBytes bytes) r (Says P input (kind ∷ bytes)) Bad

sum_good : {F : Type 0} (P : Profile F) (input : Input) (bytes : List ℕ) (y : Event F) → Says P input (1 ∷ bytes) y →
    Begins range_text IsRange (λ X rest. (length rest ≡ P.size) × (y ≡ Came (Sum X (P.read rest)))) bytes
sum_good P input bytes y g = grind arith

after_part : {F : Type 0} (read : Result (Part F × List ℕ) ℕ) →
    (came_at read >>= nothing_after) ≡ (read >>= (λ p. nothing_after (Came p.0, p.1)))
after_part read = bind_assoc read (λ p. read_ok (Came p.0, p.1)) nothing_after

abbrev close : {F : Type 0} → Part F × List ℕ → Result (Event F) ℕ
close p = nothing_after (Came p.0, p.1)

abbrev sum_of : {F : Type 0} → Profile F → Range × List ℕ → Result (Part F × List ℕ) ℕ
sum_of P X = bytes_at P.size X.1 >>= (λ f. read_ok (Sum X.0 (P.read f.0), f.1))

sum_says : {F : Type 0} (P : Profile F) → IsProfile P → (input : Input) (bytes : List ℕ) (y : Event F) → IsBytes bytes →
    Begins range_text IsRange (λ X rest. (length rest ≡ P.size) × (y ≡ Came (Sum X (P.read rest)))) bytes →
    Says P input (1 ∷ bytes) y
sum_says P real input bytes y fits (X, rest, right, is, (len, what)) = grind (arith, rest_fits, fits)

pub sum_told : {F : Type 0} (P : Profile F) → IsProfile P → (input : Input) (bytes : List ℕ) →
    Told P input 1 bytes (came_at (sum_at P bytes) >>= nothing_after) (FaultyRange (λ X. FaultyBytes P.size) bytes)
sum_told {F} P real input bytes =
    as_told (along (after_part (sum_at P bytes) ∙ bind_assoc (range_at bytes) (sum_of P) close)
    (range_told (λ X. sum_of P X >>= close) (λ X rest y. (length rest ≡ P.size) × (y ≡ Came (Sum X (P.read rest))))
    (λ X. FaultyBytes P.size)
    (λ X rest right. along (bind_assoc (bytes_at P.size rest) (λ f. read_ok (Sum X (P.read f.0), f.1)) close)
    (bytes_end P.size (λ b. Came (Sum X (P.read b))) rest)) bytes))
    (λ f. f) (sum_says P real input bytes) (sum_good P input bytes) (λ e b. b) (λ e b. b)

abbrev listing_of : {F : Type 0} → Range × List ℕ → Result (Part F × List ℕ) ℕ
listing_of X = list_at X.0 X.1 >>= (λ items. read_ok (Listing X.0 items.0, items.1))

abbrev ListingGood : {F : Type 0} → Range → List ℕ → Event F → Type 0
ListingGood X rest y = Begins items_text (AreItemsOf X) (λ xs more. (y ≡ Came (Listing X xs)) × (more ≡ [])) rest

listing_says : {F : Type 0} (P : Profile F) (input : Input) (bytes : List ℕ) (y : Event F) → IsBytes bytes →
    Begins range_text IsRange (λ X rest. ListingGood X rest y) bytes → Says P input (2 ∷ bytes) y
listing_says P input bytes y fits (X, rest, right, is, (xs, more, items, is2, (what, none))) = search rules

listing_good : {F : Type 0} (P : Profile F) (input : Input) (bytes : List ℕ) (y : Event F) →
    Says P input (2 ∷ bytes) y → Begins range_text IsRange (λ X rest. ListingGood X rest y) bytes
listing_good P input bytes y g = search rules

pub listing_told : {F : Type 0} (P : Profile F) (input : Input) (bytes : List ℕ) →
    Told P input 2 bytes (came_at (listing_at bytes) >>= nothing_after) (FaultyRange FaultyList bytes)
listing_told {F} P input bytes =
    as_told (along (after_part (listing_at bytes) ∙ bind_assoc (range_at bytes) listing_of close)
    (range_told (λ X. listing_of X >>= close) ListingGood FaultyList
    (λ X rest right. along (bind_assoc (list_at X rest) (λ items. read_ok (Listing X items.0, items.1)) close)
    (list_told X (λ items. close (Listing X items.0, items.1)) (λ xs more y. (y ≡ Came (Listing X xs)) × (more ≡ []))
    (λ xs more. end_told (Came (Listing X xs)) more) rest)) bytes))
    (λ f. f) (listing_says P input bytes) (listing_good P input bytes) (λ e b. b) (λ e b. b)

abbrev items_after : {F : Type 0} → Range → List Bool × List ℕ → Result (Part F × List ℕ) ℕ
items_after X marks = list_at X marks.1 >>= (λ items. read_ok (Answer X marks.0 items.0, items.1))

abbrev answer_of : {F : Type 0} → Range × List ℕ → Result (Part F × List ℕ) ℕ
answer_of X = marks_at X.1 >>= items_after X.0

abbrev ItemsGood : {F : Type 0} → Range → List Bool → List ℕ → Event F → Type 0
ItemsGood X marks rest y =
    Begins items_text (AreItemsOf X) (λ xs more. (y ≡ Came (Answer X marks xs)) × (more ≡ [])) rest

abbrev AnswerGood : {F : Type 0} → Range → List ℕ → Event F → Type 0
AnswerGood X rest y = Begins marks_text (λ marks. length marks < 2 ^ 32) (λ marks more. ItemsGood X marks more y) rest

answer_says : {F : Type 0} (P : Profile F) (input : Input) (bytes : List ℕ) (y : Event F) → IsBytes bytes →
    Begins range_text IsRange (λ X rest. AnswerGood X rest y) bytes → Says P input (3 ∷ bytes) y
answer_says P input bytes y fits (X, rest, right, is, (marks, more, few, is2, (xs, end, items, is3, (what, none)))) =
    search rules

answer_good : {F : Type 0} (P : Profile F) (input : Input) (bytes : List ℕ) (y : Event F) → Says P input (3 ∷ bytes) y →
    Begins range_text IsRange (λ X rest. AnswerGood X rest y) bytes
answer_good P input bytes y g = search rules

pub answer_told : {F : Type 0} (P : Profile F) (input : Input) (bytes : List ℕ) →
    Told P input 3 bytes (came_at (answer_at bytes) >>= nothing_after) (FaultyRange FaultyAnswer bytes)
answer_told {F} P input bytes =
    as_told (along (after_part (answer_at bytes) ∙ bind_assoc (range_at bytes) answer_of close)
    (range_told (λ X. answer_of X >>= close) AnswerGood FaultyAnswer
    (λ X rest right. along (bind_assoc (marks_at rest) (items_after X) close)
    (marks_told X (λ marks. items_after X marks >>= close) (ItemsGood X)
    (λ marks more. along (bind_assoc (list_at X more) (λ items. read_ok (Answer X marks items.0, items.1)) close)
    (list_told X (λ items. close (Answer X marks items.0, items.1)) (λ xs end y. (y ≡ Came (Answer X marks xs))
    × (end ≡ [])) (λ xs end. end_told (Came (Answer X marks xs)) end) more)) rest))
    bytes))
    (λ f. f) (answer_says P input bytes) (answer_good P input bytes) (λ e b. b) (λ e b. b)

-- ---- the end of a message, and a fault frame

pub ended_told : {F : Type 0} (P : Profile F) (input : Input) (bytes : List ℕ) →
    Told P input 4 bytes (ended_at bytes >>= nothing_after) (FaultyBytes 0 bytes)
ended_told {F} P input bytes = grind (arith, common_steps, as_told, end_told)

failed_says : {F : Type 0} (P : Profile F) (bytes : List ℕ) → (y : Event F) → IsBytes bytes →
    (length bytes ≡ 1) × (y ≡ Failed (slice_index bytes 0)) → Says P Stream (5 ∷ bytes) y
failed_says P bytes y f g = grind (arith, common_steps)

failed_good : {F : Type 0} (P : Profile F) (input : Input) (bytes : List ℕ) (y : Event F) → Says P input (5 ∷ bytes) y →
    (length bytes ≡ 1) × (y ≡ Failed (slice_index bytes 0))
failed_good P input bytes y g = grind arith

pub failed_told : {F : Type 0} (P : Profile F) (bytes : List ℕ) →
    Told P Stream 5 bytes (failed_at bytes >>= nothing_after) (FaultyBytes 1 bytes)
failed_told {F} P bytes =
    as_told (along (bind_assoc (bytes_at 1 bytes) (λ code. read_ok {A = Event F × List ℕ}
    (Failed (slice_index code.0 0), code.1)) nothing_after) (bytes_end 1 (λ b. Failed (slice_index b 0)) bytes))
    (λ f. f) (failed_says P bytes) (failed_good P Stream bytes) (λ e b. b) (λ e b. b)

-- ---- any kind

abbrev Kinds : ℕ → (A B C D E : Type 0) → Type 0
Kinds n A B C D E = ((n ≡ 1) × A) ⊎ (((n ≡ 2) × B) ⊎ (((n ≡ 3) × C) ⊎ (((n ≡ 4) × D) ⊎ ((n ≡ 5) × E))))

-- of the five, the one of this number
abbrev Kind : (A B C D E : Type 0) → ℕ → Type 0
Kind A B C D E (suc zero) = A
Kind A B C D E (suc (suc zero)) = B
Kind A B C D E (suc (suc (suc zero))) = C
Kind A B C D E (suc (suc (suc (suc zero)))) = D
Kind A B C D E (suc (suc (suc (suc (suc zero))))) = E
Kind A B C D E _ = ⊥

only : (n : ℕ) (A B C D E : Type 0) → Kinds n A B C D E → Kind A B C D E n
only n A B C D E a = grind arith

pick : (n i : ℕ) (A B C D E : Type 0) → n ≡ i → Kinds n A B C D E → Kind A B C D E i
pick n i A B C D E e k = subst (Kind A B C D E) e (only n A B C D E k)

pub or_cases : (a b : Bool) → (a || b) ≡ true → (a ≡ true) ⊎ (b ≡ true)
or_cases a b h = grind arith

pub or_none : (a b : Bool) → (a || b) ≡ false → (a ≡ false) × (b ≡ false)
or_none a b h = grind arith

says_kind : {F : Type 0} (P : Profile F) (input : Input) (kind : ℕ) (bytes : List ℕ) → (y : Event F) →
    Says P input (kind ∷ bytes) y → (1 ≤ kind) × (kind ≤ greatest_kind input)
says_kind P input kind bytes y g = grind arith

-- and no more than five
five_kinds : (input : Input) → greatest_kind input ≤ 5
five_kinds input = grind arith

-- a told kind, where the kind is a variable
of_kind : {F : Type 0} (P : Profile F) (input : Input) (kind i : ℕ) (bytes : List ℕ) (r : Result (Event F) ℕ)
    (Bad : ℕ → Type 0) → kind ≡ i → 1 ≤ kind → kind ≤ greatest_kind input →
    ((e : ℕ) → Bad e → FaultyFields P kind bytes e) → ((e : ℕ) → FaultyFields P kind bytes e → Bad e) →
    Told P input i bytes r Bad →
    Tells (IsBytes (kind ∷ bytes)) r (Says P input (kind ∷ bytes)) (FaultyBody P input (kind ∷ bytes))
of_kind {F} P input kind i bytes r Bad e low high to from t = as_told t (λ f. f.1)
    (λ y f g. subst (λ (k : ℕ). Says P input (k ∷ bytes) y) (sym e) g)
    (λ y g. subst (λ (k : ℕ). Says P input (k ∷ bytes) y) e g)
    (λ c b. inr (high, to c b))
    (λ c b. elim b [ inl x ↦ absurd (elim x.0 [ inl z ↦ omega arith | inr z ↦ omega arith ]) | inr x ↦ from c x.1 ])

last_kind : {F : Type 0} (P : Profile F) (input : Input) (kind : ℕ) (bytes : List ℕ) → kind ≡ 5 →
    kind ≤ greatest_kind input →
    Tells (IsBytes (kind ∷ bytes)) (failed_at bytes >>= nothing_after) (Says P input (kind ∷ bytes))
    (FaultyBody P input (kind ∷ bytes))
last_kind P One_message kind bytes q high = absurd (omega arith)
last_kind P Stream kind bytes q high = of_kind P Stream kind 5 bytes _ _ q (omega arith) high
    (λ c b. inr (inr (inr (inr (q, b))))) (λ c. pick kind 5 _ _ _ _ _ q) (failed_told P bytes)

pub event_told : {F : Type 0} (P : Profile F) → IsProfile P → (input : Input) → (kind : ℕ) (bytes : List ℕ) →
    Tells (IsBytes (kind ∷ bytes)) (event_in P input (kind ∷ bytes)) (Says P input (kind ∷ bytes))
    (FaultyBody P input (kind ∷ bytes))
event_told {F} P real input kind bytes =
    by_test_then (kind == 0 || nat_lt (greatest_kind input) kind) _ _ nothing_after
    (λ h. let out : (kind ≡ 0) ⊎ (greatest_kind input < kind) = elim (or_cases (kind == 0)
    (nat_lt (greatest_kind input) kind) h) [ inl x ↦ inl (eqb-true _ _ x) | inr x ↦ inr (ltb-true _ _ x) ] in
    told_err _ bad_kind _ _ (λ _. inl (out, refl))
    (λ c b. elim b [
      | inl x ↦ sym x.1
      | inr x ↦ elim out [ inl z ↦ absurd (pick kind 0 _ _ _ _ _ z x.1) | inr z ↦ absurd (let le = x.0 in omega arith) ]
    ])
    (λ y g. let k = says_kind P input kind bytes y g in let a = k.0 in let b = k.1 in
    elim out [ inl z ↦ omega arith | inr z ↦ omega arith ]))
    (λ h. let no = or_none (kind == 0) (nat_lt (greatest_kind input) kind) h in
    let ne = neq_of kind 0 no.0 in
    let high : kind ≤ greatest_kind input = ltb-false _ _ no.1 in
    let low : 1 ≤ kind = omega arith in
    by_test_then (kind == 1) _ _ nothing_after
    (λ e. let q = eqb-true kind 1 e in of_kind P input kind 1 bytes _ _ q low high (λ c b. inl (q, b))
    (λ c. pick kind 1 _ _ _ _ _ q) (sum_told P real input bytes))
    (λ n1. by_test_then (kind == 2) _ _ nothing_after
    (λ e. let q = eqb-true kind 2 e in of_kind P input kind 2 bytes _ _ q low high (λ c b. inr (inl (q, b)))
    (λ c. pick kind 2 _ _ _ _ _ q) (listing_told P input bytes))
    (λ n2. by_test_then (kind == 3) _ _ nothing_after
    (λ e. let q = eqb-true kind 3 e in of_kind P input kind 3 bytes _ _ q low high (λ c b. inr (inr (inl (q, b))))
    (λ c. pick kind 3 _ _ _ _ _ q) (answer_told P input bytes))
    (λ n3. by_test_then (kind == 4) _ _ nothing_after
    (λ e. let q = eqb-true kind 4 e in of_kind P input kind 4 bytes _ _ q low high (λ c b. inr (inr (inr (inl (q, b)))))
    (λ c. pick kind 4 _ _ _ _ _ q) (ended_told P input bytes))
    (λ n4. let a = neq_of kind 1 n1 in let b = neq_of kind 2 n2 in let c = neq_of kind 3 n3 in
    let d = neq_of kind 4 n4 in
    let five = five_kinds input in last_kind P input kind bytes (omega arith) high)))))
