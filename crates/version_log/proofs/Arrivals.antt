-- Histories that are kept as places: what one more makes of them, and where each item is found.
use Rattle.std.proofs.Common.{◌≡◌, ℕ, zero, suc, ◌+◌, ◌-◌, ◌<◌, ◌≤◌, true, false, List, [], ◌∷◌, ◌++◌, take, drop, map}
use Rattle.std.proofs.Common.{length, get_or, filter, Some, refl, sym, ap, subst, ◌∙◌, append_assoc, arith}
use Rattle.std.proofs.Common.{◌⊎◌, inl, inr}
use Rattle.std.specs.List.{AllByRecursion, slice_get}
use Rattle.std.specs.Ordering.{match_ordering}
use Rattle.std.specs.declared.cmp.Ordering.{Ordering}
use Rattle.std.specs.declared.cmp.Ordering.TheVariants.{Less, Equal, Greater}
use Rattle.std.proofs.lemmas.List.{length-append, length-map, drop_more, get_or-map, get_or_append_left}
use Rattle.std.proofs.lemmas.List.{get_or-append-add, take_rest}
use Rattle.std.proofs.lemmas.Option.{slice_get-get_or, slice_get_within, get_or_from_slice_get}
use Rattle.std.proofs.lemmas.Bool.{cases_lt}
use Rattle.std.proofs.lemmas.Cmp.{nat_list_cmp_total}
use Rattle.std.proofs.lemmas.Map.Keys.{sorted_head, sorted_tail}
use Rattle.definitions.specs.Items.{Item, Range, item_cmp, comes_before, same_item}
use Rattle.definitions.specs.Sets.{IsSet, has, add_item, items_in}
use Rattle.definitions.proofs.Lemmas.{item_cmp-eq, same_item-itself, or_parts, length-filter, count_by-le-length}
use Rattle.version_log.specs.declared.arrival.Arrival.{Arrival}
use Rattle.version_log.specs.Arrivals.{without, before, HaveCome, entries_of, history_of}

-- ---- a list without what stands at a place

length_without : (p : ℕ) (A : List Item) → p < length A → length (without p A) + 1 ≡ length A
length_without p [] low = absurd (omega arith)
length_without zero (x ∷ xs) low = omega arith
length_without (suc p) (x ∷ xs) low = omega (arith, length_without p xs (omega arith))

get_front : (p k : ℕ) (A : List Item) → k < p → get_or (without p A) k [] ≡ get_or A k []
get_front p k [] low = refl
get_front zero k (x ∷ xs) low = absurd (omega arith)
get_front (suc p) zero (x ∷ xs) low = refl
get_front (suc p) (suc k) (x ∷ xs) low = get_front p k xs (omega arith)

get_after : (p k : ℕ) (A : List Item) → p ≤ k → get_or (without p A) k [] ≡ get_or A (suc k) []
get_after p k [] low = refl
get_after zero k (x ∷ xs) low = refl
get_after (suc p) zero (x ∷ xs) low = absurd (omega arith)
get_after (suc p) (suc k) (x ∷ xs) low = get_after p k xs (omega arith)

-- ---- how many there are

pub length_before : (ls : List Arrival) (A : List Item) → HaveCome ls A → length (before ls A) + length ls ≡ length A
length_before [] A came = omega arith
length_before (l ∷ ls) A came =
    omega (arith, length_without l.place (before ls A) came.0, length_before ls A came.1)

length_entries : (ls : List Arrival) (A : List Item) → length (entries_of ls A) ≡ length ls
length_entries [] A = refl
length_entries (l ∷ ls) A = omega (arith, length_entries ls A)

-- as many entries as items
pub length_history : (ls : List Arrival) (A : List Item) → HaveCome ls A → length (history_of ls A) ≡ length A
length_history ls A came =
    omega (
      arith,
      length-append (map (λ (x : Item). (0, x)) (before ls A)) (entries_of ls A),
      length-map {B = ℕ × Item} (before ls A) (λ x. (0, x)),
      length_entries ls A,
      length_before ls A came,
    )

-- how many the log opened with
pub length_opening : (ls : List Arrival) (A : List Item) (n m : ℕ) → HaveCome ls A → n ≡ length A → m ≡ length ls →
    n - m ≡ length (before ls A)
length_opening ls A n m come all later = omega (arith, length_before ls A come)

-- ---- one entry more

module _ (l : Arrival) (A B : List Item) (back : without l.place B ≡ A) where
  before_push : (ls : List Arrival) → before (ls ++ l ∷ []) B ≡ before ls A
  before_push [] = back
  before_push (m ∷ ls) = ap (without m.place) (before_push ls)

  pub come_push : (ls : List Arrival) → l.place < length B → HaveCome ls A → HaveCome (ls ++ l ∷ []) B
  come_push [] low came = (low, tt)
  come_push (m ∷ ls) low came = (rw (before_push ls) came.0, come_push ls low came.1)

  entries_push : (ls : List Arrival) (x : Item) → get_or B l.place [] ≡ x →
      entries_of (ls ++ l ∷ []) B ≡ entries_of ls A ++ (l.writer, x) ∷ []
  entries_push [] x there = ap (λ y. (l.writer, y) ∷ []) there
  entries_push (m ∷ ls) x there =
      (λ i. (m.writer, get_or (before_push ls i) m.place []) ∷ entries_push ls x there i)

  pub history_push : (ls : List Arrival) (x : Item) → get_or B l.place [] ≡ x →
      history_of (ls ++ l ∷ []) B ≡ history_of ls A ++ (l.writer, x) ∷ []
  history_push ls x there =
      (λ i. map (λ (y : Item). (0, y)) (before_push ls i) ++ entries_push ls x there i)
      ∙ sym (append_assoc (map (λ (y : Item). (0, y)) (before ls A)) (entries_of ls A) ((l.writer, x) ∷ []))

-- ---- where an item of a set comes, and the set without it

abbrev pub first_of : List Item → Item → ℕ
first_of A x = length (filter (λ y. comes_before y x) A)

from_start : (y : Item) → comes_before y [] ≡ false
from_start [] = refl
from_start (b ∷ bs) = refl

filter_before : (A : List Item) (x : Item) →
    items_in A (record { lower = []; upper = Some x }) ≡ filter (λ y. comes_before y x) A
filter_before [] x = refl
filter_before (y ∷ ys) x = rw (from_start y, filter_before ys x) refl

pub few_first : (A : List Item) (x : Item) → first_of A x ≤ length A
few_first A x = omega (arith, length-filter (λ y. comes_before y x) A, count_by-le-length (λ y. comes_before y x) A)

-- how many are before x
pub before_alone : (A : List Item) (X : Range) (x : Item) → X ≡ record { lower = []; upper = Some x } →
    length (items_in A X) ≡ first_of A x
before_alone A X x is = rw is (ap length (filter_before A x))

pub none_before : (A : List Item) (x : Item) → comes_before [] x ≡ false → first_of A x ≡ 0
none_before A (b ∷ bs) none = absurd (cc)
none_before [] [] none = refl
none_before (y ∷ ys) [] none = rw (from_start y) (none_before ys [] none)

above : (x y : Item) → item_cmp x y ≡ Less → comes_before y x ≡ false
above x y e = rw (nat_list_cmp_total.antisymm y x, e) refl

below : (x y : Item) → item_cmp x y ≡ Greater → comes_before y x ≡ true
below x y e = rw (nat_list_cmp_total.antisymm y x, e) refl

none_first : (x : Item) (ys : List Item) → AllByRecursion (λ z. item_cmp x z ≡ Less) ys → first_of ys x ≡ 0
none_first x [] rise = refl
none_first x (y ∷ ys) rise = rw (above x y rise.0) (none_first x ys rise.1)

all_above : (x y : Item) (ys : List Item) → item_cmp x y ≡ Less → AllByRecursion (λ z. item_cmp y z ≡ Less) ys →
    AllByRecursion (λ z. item_cmp x z ≡ Less) ys
all_above x y [] less rise = tt
all_above x y (z ∷ zs) less rise = (nat_list_cmp_total.trans x y z less rise.0, all_above x y zs less rise.1)

-- what one more makes of a set, and where it stands
pub record CameTo (A B : List Item) (p : ℕ) (x : Item) : Type 0 where
  pub back : without p B ≡ A
  pub low : p < length B
  pub there : get_or B p [] ≡ x

came_later : (y x : Item) (ys B : List Item) (p : ℕ) → CameTo ys B p x → CameTo (y ∷ ys) (y ∷ B) (suc p) x
came_later y x ys B p came =
    record { back = ap (λ zs. y ∷ zs) came.back; low = omega (arith, came.low); there = came.there }

came_by : (x y : Item) (ys : List Item) (o : Ordering) → item_cmp x y ≡ o → IsSet (y ∷ ys) → has (y ∷ ys) x ≡ false →
    CameTo ys (add_item ys x) (first_of ys x) x →
    CameTo (y ∷ ys) (match_ordering o (x ∷ y ∷ ys) (y ∷ ys) (y ∷ add_item ys x)) (first_of (y ∷ ys) x) x
came_by x y ys Less e set new rest =
    let later = all_above x y ys e (sorted_head item_cmp y ys set) in
    let first : first_of (y ∷ ys) x ≡ 0 = none_first x (y ∷ ys) (e, later) in
    rw first (record { back = refl; low = omega arith; there = refl })
came_by x y ys Equal e set new rest = let same : x ≡ y = item_cmp-eq x y e in
    let there : has (y ∷ ys) x ≡ true = rw (same, same_item-itself y) refl in absurd (cc)
came_by x y ys Greater e set new rest = rw (below x y e) (came_later y x ys (add_item ys x) (first_of ys x) rest)

pub came : (A : List Item) (x : Item) → IsSet A → has A x ≡ false → CameTo A (add_item A x) (first_of A x) x
came [] x set new = record { back = refl; low = omega arith; there = refl }
came (y ∷ ys) x set new =
    came_by x y ys (item_cmp x y) refl set new
    (came ys x (sorted_tail item_cmp y ys set) (or_parts (same_item x y) (has ys x) new).1)

-- what one entry more makes of a history
pub adds : (ls more : List Arrival) (A B : List Item) (w p : ℕ) (x : Item) → IsSet A → has A x ≡ false →
    B ≡ add_item A x → p ≡ first_of A x → more ≡ ls ++ record { writer = w; place = p } ∷ [] → HaveCome ls A →
    HaveCome more B × (history_of more B ≡ history_of ls A ++ (w, x) ∷ [])
adds ls more A B w p x set new made at grown come =
    let here : CameTo A B p x = rw (made, at) (came A x set new) in
    let l : Arrival = record { writer = w; place = p } in
    rw grown (come_push l A B here.back ls here.low come, history_push l A B here.back ls x here.there)

-- ---- where each item is now

-- one that stood at a place before these came stands at another now
pub record StandsAt (A : List Item) (k : ℕ) (x : Item) : Type 0 where
  pub low : k < length A
  pub there : get_or A k [] ≡ x

moved_on : (p : ℕ) (A : List Item) (k q : ℕ) (x : Item) → p < length A → (p ≤ k → q ≡ k + 1) → (k < p → q ≡ k) →
    (k < p) ⊎ (p ≤ k) → StandsAt (without p A) k x → StandsAt A q x
moved_on p A k q x low moved stayed (inl front) at =
    rw (stayed front) (record {
      low = omega (arith, length_without p A low, at.low);
      there = sym (get_front p k A front) ∙ at.there;
    })
moved_on p A k q x low moved stayed (inr after) at =
    let on : q ≡ suc k = omega (arith, moved after) in
    rw on (record {
      low = omega (arith, length_without p A low, at.low);
      there = sym (get_after p k A after) ∙ at.there;
    })

pub come_drop : (k : ℕ) (ls : List Arrival) (A : List Item) → HaveCome ls A → HaveCome (drop k ls) A
come_drop zero ls A came = came
come_drop (suc k) [] A came = tt
come_drop (suc k) (l ∷ ls) A came = come_drop k ls A came.1

-- after one more of them
pub stands_on : (ls : List Arrival) (k : ℕ) (d : Arrival) (p q : ℕ) → k < length ls →
    ((get_or ls k d).place ≤ p → q ≡ p + 1) → (p < (get_or ls k d).place → q ≡ p) → (A : List Item) → HaveCome ls A →
    (x : Item) → StandsAt (before (drop k ls) A) p x → StandsAt (before (drop (k + 1) ls) A) q x
stands_on ls k d p q low moved stayed A come x at =
    let rest : drop k ls ≡ get_or ls k d ∷ drop (k + 1) ls = drop_more ls k d low in
    let place : HaveCome (get_or ls k d ∷ drop (k + 1) ls) A = subst (λ r. HaveCome r A) rest (come_drop k ls A come) in
    moved_on (get_or ls k d).place (before (drop (k + 1) ls) A) p q x place.0 moved stayed
    (cases_lt p (get_or ls k d).place) (subst (λ r. StandsAt (before r A) p x) rest at)

little_by : (a p q : ℕ) → (a ≤ p → q ≡ p + 1) → (p < a → q ≡ p) → (p < a) ⊎ (a ≤ p) → q ≤ p + 1
little_by a p q moved stayed (inl front) = omega (arith, stayed front)
little_by a p q moved stayed (inr after) = omega (arith, moved after)

pub moved_little : (a p q : ℕ) → (a ≤ p → q ≡ p + 1) → (p < a → q ≡ p) → q ≤ p + 1
moved_little a p q moved stayed = little_by a p q moved stayed (cases_lt p a)

-- ---- where each entry is

pub entry_of_first : (ls : List Arrival) (A : List Item) (k : ℕ) → k < length (before ls A) →
    slice_get (history_of ls A) k ≡ Some (0, get_or (before ls A) k [])
entry_of_first ls A k low =
    let front = map {B = ℕ × Item} (λ x. (0, x)) (before ls A) in
    let long : length front ≡ length (before ls A) = length-map {B = ℕ × Item} (before ls A) (λ x. (0, x)) in
    slice_get-get_or (history_of ls A) k (0, [])
    (omega (arith, length-append front (entries_of ls A), long))
    ∙ ap Some (get_or_append_left front (entries_of ls A) (0, []) k (omega (arith, long))
    ∙ get_or-map (λ (x : Item). (0, x)) (before ls A) k [] (0, []) low)

pub get_entry : (ls : List Arrival) (A : List Item) (k : ℕ) (d : Arrival) → k < length ls →
    slice_get (entries_of ls A) k
    ≡ Some ((get_or ls k d).writer, get_or (before (drop (suc k) ls) A) (get_or ls k d).place [])
get_entry [] A k d low = absurd (omega arith)
get_entry (l ∷ ls) A zero d low = refl
get_entry (l ∷ ls) A (suc k) d low = get_entry ls A k d (omega arith)

-- where it came
pub came_at : (ls : List Arrival) (A : List Item) (k : ℕ) (d : Arrival) → HaveCome ls A → k < length ls →
    (get_or ls k d).place < length (before (drop (suc k) ls) A)
came_at [] A k d come low = absurd (omega arith)
came_at (l ∷ ls) A zero d come low = come.0
came_at (l ∷ ls) A (suc k) d come low = came_at ls A k d come.1 (omega arith)

after : (ls : List Arrival) (k : ℕ) → take (length ls - (k + 1)) (drop (k + 1) ls) ≡ drop (suc k) ls
after ls k = let on : k + 1 ≡ suc k = omega arith in take_rest ls (k + 1) ∙ ap (λ n. drop n ls) on

-- where it stands now, by those that came after it
pub has_room : (ls : List Arrival) (A : List Item) (k : ℕ) (d : Arrival) → HaveCome ls A → k < length ls →
    length A ≤ 65536 →
    (get_or ls k d).place + length (take (length ls - (k + 1)) (drop (k + 1) ls)) < 4294967296
has_room ls A k d come low few =
    let long = ap length (after ls k) in
    let later = length_before (drop (suc k) ls) A (come_drop (suc k) ls A come) in
    omega (arith, long, later, came_at ls A k d come low)

pub stands_after : (ls : List Arrival) (A : List Item) (k q : ℕ) (d : Arrival) → HaveCome ls A → k < length ls →
    ((B : List Item) → HaveCome (take (length ls - (k + 1)) (drop (k + 1) ls)) B →
    (get_or ls k d).place < length (before (take (length ls - (k + 1)) (drop (k + 1) ls)) B) →
    (q < length B)
    × (get_or B q [] ≡ get_or (before (take (length ls - (k + 1)) (drop (k + 1) ls)) B) (get_or ls k d).place [])) →
    (q < length A) × (get_or A q [] ≡ get_or (before (drop (suc k) ls) A) (get_or ls k d).place [])
stands_after ls A k q d come low found =
    subst (λ rest. (B : List Item) → HaveCome rest B → (get_or ls k d).place < length (before rest B) →
    (q < length B) × (get_or B q [] ≡ get_or (before rest B) (get_or ls k d).place []))
    (after ls k) found A (come_drop (suc k) ls A come) (came_at ls A k d come low)

pub entry_of_later : (ls : List Arrival) (A : List Item) (n k : ℕ) (e : ℕ × Item) → n ≡ length (before ls A) + k →
    slice_get (entries_of ls A) k ≡ Some e → slice_get (history_of ls A) n ≡ Some e
entry_of_later ls A n k e at is =
    let front = map {B = ℕ × Item} (λ x. (0, x)) (before ls A) in
    let long = length-map {B = ℕ × Item} (before ls A) (λ x. (0, x)) in
    let within = slice_get_within (entries_of ls A) k e is in
    let here : n ≡ length front + k = omega (arith, long) in
    slice_get-get_or (history_of ls A) n e (omega (arith, length-append front (entries_of ls A), long))
    ∙ ap Some (ap (λ m. get_or (history_of ls A) m e) here ∙ get_or-append-add front (entries_of ls A) k e
    ∙ get_or_from_slice_get (entries_of ls A) k e e is)
