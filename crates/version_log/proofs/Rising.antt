-- Items that rise: what a log opens with is an entry each, in their order.
use Rattle.std.proofs.Common.{◌≡◌, ℕ, ◌+◌, ◌-◌, ◌<◌, ◌≤◌, false, List, [], ◌∷◌, ◌++◌, length, map, fold, take}
use Rattle.std.proofs.Common.{get_or, append_assoc, refl, sym, ap, subst, ◌∙◌, arith}
use Rattle.std.proofs.lemmas.List.{take_more}
use Rattle.std.specs.List.{AllByRecursion, IsDistinct}
use Rattle.std.specs.List.Sorted.{IsStrictlySortedBy}
use Rattle.std.specs.Ordering.{eq_by_cmp, is_ge}
use Rattle.std.specs.declared.cmp.Ordering.{Ordering}
use Rattle.std.specs.declared.cmp.Ordering.TheVariants.{Less, Equal, Greater}
use Rattle.std.proofs.lemmas.Cmp.{nat_list_cmp_total}
use Rattle.std.proofs.lemmas.Map.Keys.{IsDistinct-from_sorted}
use Rattle.std.proofs.lemmas.Map.Text.{is_eq-slice_cmp}
use Rattle.definitions.specs.Items.{Item, item_cmp, same_item}
use Rattle.definitions.specs.Sets.{IsSet, has, set_of}
use Rattle.definitions.specs.Histories.{History, content, items_of, opening_history, with_item}
use Rattle.definitions.proofs.Lemmas.{All-append, All-both, All-every, append-nil, length-map, or_from, or_parts}
use Rattle.store_core.proofs.Made.{same_set, set_of_is_set, has_set_of}
use Rattle.version_log.specs.declared.arrival.Arrival.{Arrival}
use Rattle.version_log.specs.Arrivals.{HaveCome, history_of}
use Rattle.version_log.specs.Logs.{IsLog, IsCap, IsNextWriter, log}
use Rattle.version_log.proofs.Once.{differs_back, items_push, once_opened, writers_opened}

-- an entry for each item, in their order
abbrev entries_by_0 : List Item → History
entries_by_0 xs = map (λ (x : Item). (0, x)) xs

-- ---- each item of a set stands once

differ : (x : Item) (ys : List Item) → AllByRecursion (λ y. eq_by_cmp item_cmp x y ≡ false) ys →
    AllByRecursion (λ y. same_item x y ≡ false) ys
differ x [] others = tt
differ x (y ∷ ys) others = (sym (is_eq-slice_cmp x y) ∙ others.0, differ x ys others.1)

once_by_order : (xs : List Item) → IsDistinct (eq_by_cmp item_cmp) xs → IsDistinct same_item xs
unfolding IsDistinct
once_by_order [] once = tt
once_by_order (x ∷ xs) once = (differ x xs once.0, once_by_order xs once.1)

once_in_set : (A : List Item) → IsSet A → IsDistinct same_item A
once_in_set A set = once_by_order A (IsDistinct-from_sorted item_cmp A set)

-- ---- so each one is new

lacks_push : (xs : List Item) (x y : Item) → has xs y ≡ false → same_item y x ≡ false → has (xs ++ x ∷ []) y ≡ false
lacks_push [] x y lacks other = or_from (same_item y x) false other refl
lacks_push (z ∷ zs) x y lacks other =
    let parts = or_parts (same_item y z) (has zs y) lacks in
    or_from (same_item y z) (has (zs ++ x ∷ []) y) parts.0 (lacks_push zs x y parts.1 other)

still_lacks : (h : History) (x y : Item) → has (items_of h) y ≡ false → same_item x y ≡ false →
    has (items_of (h ++ (0, x) ∷ [])) y ≡ false
still_lacks h x y lacks other =
    ap (λ xs. has xs y) (items_push h 0 x) ∙ lacks_push (items_of h) x y lacks (differs_back x y other)

opened_after : (h : History) (xs : List Item) → AllByRecursion (λ y. has (items_of h) y ≡ false) xs →
    IsDistinct same_item xs → fold with_item h xs ≡ h ++ entries_by_0 xs
unfolding IsDistinct
opened_after h [] new once = sym (append-nil h)
opened_after h (x ∷ xs) new once =
    let grown : History = h ++ (0, x) ∷ [] in
    let with : with_item h x ≡ grown = rw new.0 refl in
    let later : AllByRecursion (λ y. has (items_of grown) y ≡ false) xs =
    All-both (λ y. has (items_of h) y ≡ false) (λ y. same_item x y ≡ false) (λ y. has (items_of grown) y ≡ false)
    (λ y a b. still_lacks h x y a b) xs new.1 once.0 in
    ap (λ g. fold with_item g xs) with ∙ opened_after grown xs later once.1
    ∙ append_assoc h ((0, x) ∷ []) (entries_by_0 xs)

opened_with : (A : List Item) → IsSet A → opening_history A ≡ entries_by_0 A
opened_with A set = opened_after [] A (All-every (λ y. has [] y ≡ false) (λ y. refl) A) (once_in_set A set)

items_of_entries : (xs : List Item) → items_of (entries_by_0 xs) ≡ xs
items_of_entries [] = refl
items_of_entries (x ∷ xs) = ap (λ ys. x ∷ ys) (items_of_entries xs)

set_again : (A : List Item) → IsSet A → set_of A ≡ A
set_again A set = same_set (set_of A) A (set_of_is_set A) set (has_set_of A)

content_with_all : (A : List Item) → IsSet A → content (entries_by_0 A) ≡ A
content_with_all A set = ap set_of (items_of_entries A) ∙ set_again A set

length_with_all : (A : List Item) → length (entries_by_0 A) ≡ length A
length_with_all A = length-map A (λ (x : Item). (0, x))

pub content_opened : (A : List Item) → IsSet A → content (opening_history A) ≡ A
content_opened A set = ap content (opened_with A set) ∙ content_with_all A set

-- a log that no entry has come to
pub rests : (cap next : ℕ) (ls : List Arrival) (A : List Item) → ls ≡ [] → IsSet A → IsCap cap → IsNextWriter next →
    length A ≤ cap →
    HaveCome ls A × (A ≡ content (history_of ls A)) × IsLog (log cap (history_of ls A) next)
rests cap next ls A none set is_cap is_next fits =
    let with = opened_with A set in
    let all : history_of [] A ≡ opening_history A = append-nil (entries_by_0 A) ∙ sym with in
    rw (none, all) (
      tt,
      sym (content_opened A set),
      record {
        once = once_opened A;
        fits = omega (arith, ap length with, length_with_all A);
        cap = is_cap;
        writers = writers_opened next A is_next.0;
        next_writer = is_next;
      },
    )

pub history_at_rest : (ls : List Arrival) (A : List Item) → ls ≡ [] → IsSet A → history_of ls A ≡ opening_history A
history_at_rest ls A none set =
    ap (λ l. history_of l A) none ∙ append-nil (entries_by_0 A) ∙ sym (opened_with A set)

-- ---- items that rise

pub first_rises : (xs : List Item) → IsSet (take 1 xs)
unfolding IsStrictlySortedBy
first_rises [] = tt
first_rises (x ∷ xs) = (tt, tt)

last_is : (P : Item → Type 0) (xs : List Item) (y : Item) → AllByRecursion P (xs ++ y ∷ []) → P y
last_is P [] y all = all.0
last_is P (x ∷ xs) y all = last_is P xs y all.1

one_more : (xs : List Item) (y z : Item) → item_cmp y z ≡ Less → IsSet (xs ++ y ∷ []) → IsSet ((xs ++ y ∷ []) ++ z ∷ [])
unfolding IsStrictlySortedBy
one_more [] y z less set = ((less, tt), (tt, tt))
one_more (x ∷ xs) y z less set =
    let before = last_is (λ q. item_cmp x q ≡ Less) xs y set.0 in (
      All-append (λ q. item_cmp x q ≡ Less) (xs ++ y ∷ []) (z ∷ []) set.0
          (nat_list_cmp_total.trans x y z before less, tt),
      one_more xs y z less set.1,
    )

pub rises_on : (xs : List Item) (k : ℕ) (y z : Item) → 1 ≤ k → k < length xs → y ≡ get_or xs (k - 1) y →
    z ≡ get_or xs k z → item_cmp y z ≡ Less → IsSet (take k xs) → IsSet (take (k + 1) xs)
rises_on xs k y z some low is_y is_z less set =
    let at : k - 1 + 1 ≡ k = omega arith in
    let so_far : take k xs ≡ take (k - 1) xs ++ y ∷ [] = ap (λ n. take n xs) (sym at)
    ∙ take_more xs (k - 1) y (omega arith) ∙ ap (λ w. take (k - 1) xs ++ w ∷ []) (sym is_y) in
    let next : take (k + 1) xs ≡ (take (k - 1) xs ++ y ∷ []) ++ z ∷ [] =
    take_more xs k z low ∙ (λ i. so_far i ++ sym is_z i ∷ []) in
    subst IsSet (sym next) (one_more (take (k - 1) xs) y z less (subst IsSet so_far set))

pub none_rises : (n : ℕ) (xs : List Item) → n ≡ 0 → IsSet (take n xs)
unfolding IsStrictlySortedBy
none_rises n xs none = rw none tt

less_from : (x y : Item) (o : Ordering) → item_cmp x y ≡ o → false ≡ is_ge o → item_cmp x y ≡ Less
less_from x y Less e before = e
less_from x y Equal e before = absurd (cc)
less_from x y Greater e before = absurd (cc)

pub less_by : (x y : Item) → false ≡ is_ge (item_cmp x y) → item_cmp x y ≡ Less
less_by x y before = less_from x y (item_cmp x y) refl before
