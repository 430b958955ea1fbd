-- How often an item occurs in a list, and sets that are compared by it.
-- Two lists have the same items, each once, if each item occurs equally often in both and at most once in one of them.
-- So a claim about lists becomes, for one item x at a time, a claim about numbers: `times x (xs ++ ys)` is the sum, a
-- filter keeps `times x xs` or makes it 0, and in a set `times x` is at most 1. The difference of two sets inside a
-- range is the whole difference, or nothing, as the range has x or not. Last come the set of a list and the union of
-- two: they are sets, and have what the lists have.
-- docs/LAWS.md: no law of its own. Knowledge is exact, Nothing wrong is learned, Nothing is learned twice and Parts
-- are few count in this way.
use Rattle.std.proofs.Common.{rules, ◌≡◌, ℕ, ◌+◌, ◌≤◌, Bool, true, false, not, ◌&&◌, ◌||◌, map, zero-add, List, [], ◌∷◌}
use Rattle.std.proofs.Common.{◌++◌, cond, ltb, Less, Equal, refl, sym, ap, subst, ◌∙◌, arith, Greater}
use Rattle.std.specs.List.{IsDistinct, filter}
use Rattle.std.specs.List.Sorted.{IsStrictlySortedBy}
use Rattle.std.specs.declared.cmp.Ordering.{Ordering}
use Rattle.definitions.proofs.Words.{AllByRecursion, items_where_true, match_ordering, ordering_reverse, Item, item_cmp}
use Rattle.definitions.proofs.Words.{same_item, Range, contains, IsSet, has, items_in, difference, add_item, union}
use Rattle.definitions.proofs.Words.{set_of, ListsOnce}
use Rattle.definitions.proofs.Lemmas.{lt-ltb, ltb-false, nat_list_cmp_total, tied_itself, any-filter_same}
use Rattle.definitions.proofs.Lemmas.{IsStrictlySortedBy-filter, same_item-eq, same_item-itself, item_cmp-eq}

-- ==== How often an item occurs in a list: it adds up over lists joined end to end, and shows which items a list has

-- n where b is true, and else 0
abbrev pub when : Bool → ℕ → ℕ
when true n = n
when false n = 0

-- how often x stands in the list
abbrev pub times : Item → List Item → ℕ
times x [] = 0
times x (y ∷ ys) = when (same_item x y) 1 + times x ys

pub times-append : (x : Item) (xs ys : List Item) → times x (xs ++ ys) ≡ times x xs + times x ys
times-append x [] ys = omega arith
times-append x (y ∷ xs) ys = omega (arith, times-append x xs ys)

-- one item more that a filter keeps or loses
times_keep : (x y : Item) (ys : List Item) (b : Bool) →
    times x (cond b (y ∷ ys) ys) ≡ when b (when (same_item x y) 1) + times x ys
times_keep x y ys b = elim b as (λ v. times x (cond v (y ∷ ys) ys) ≡ when v (when (same_item x y) 1) + times x ys) [
  | true ↦ refl
  | false ↦ omega arith
]

when_same : (p : Item → Bool) (x y : Item) → when (p y) (when (same_item x y) 1) ≡ when (p x) (when (same_item x y) 1)
when_same p x y = search rules

when-add : (b : Bool) (m n : ℕ) → when b (m + n) ≡ when b m + when b n
when-add b m n = grind arith

pub times-filter : (p : Item → Bool) (x : Item) (xs : List Item) → times x (filter p xs) ≡ when (p x) (times x xs)
times-filter p x [] = grind arith
times-filter p x (y ∷ ys) = omega (
  arith,
  times_keep x y (filter p ys) (p y),
  when_same p x y,
  when-add (p x) (when (same_item x y) 1) (times x ys),
  times-filter p x ys,
)

-- an item stands somewhere in a list that has it
pub has-times : (x : Item) (xs : List Item) → has xs x ≡ ltb 0 (times x xs)
has-times x [] = refl
has-times x (y ∷ ys) = grind (arith, has-times x ys, lt-ltb, zero-add)

times-not_has : (x : Item) (xs : List Item) → has xs x ≡ false → times x xs ≡ 0
times-not_has x xs h = omega (arith, ltb-false 0 (times x xs) (sym (has-times x xs) ∙ h))

-- a list has the items of another where each stands in both equally often
pub same_has : (xs ys : List Item) → ((x : Item) → times x xs ≡ times x ys) → (x : Item) → has xs x ≡ has ys x
same_has xs ys same x = has-times x xs ∙ ap (λ n. ltb 0 n) (same x) ∙ sym (has-times x ys)

apart_from_times : (x : Item) (ys : List Item) → times x ys ≡ 0 → AllByRecursion (λ y. same_item x y ≡ false) ys
apart_from_times x [] h = tt
apart_from_times x (y ∷ ys) h = grind (arith, apart_from_times x ys (omega arith))

-- each item stands at most once in a list of distinct ones
pub IsDistinct-from_times : (xs : List Item) → ((x : Item) → times x xs ≤ 1) → IsDistinct same_item xs
unfolding IsDistinct
IsDistinct-from_times [] h = tt
IsDistinct-from_times (x ∷ xs) h =
    let once : when (same_item x x) 1 + times x xs ≤ 1 = h x in
    let once_more : 1 + times x xs ≤ 1 = subst (λ b. when b 1 + times x xs ≤ 1) (same_item-itself x) once in
    (apart_from_times x xs (omega arith), IsDistinct-from_times xs (λ z. omega (arith, h z)))

-- an item that is below all others is none of them
pub times_below : (x : Item) (ys : List Item) → AllByRecursion (λ y. item_cmp x y ≡ Less) ys → times x ys ≡ 0
times_below x [] h = refl
times_below x (y ∷ ys) (here, rest) =
    search (rules, times_below x ys rest, here, same_item-eq, tied_itself, nat_list_cmp_total)

-- an item stands at most once in a set
pub times_le_one : (x : Item) (xs : List Item) → IsSet xs → times x xs ≤ 1
unfolding IsStrictlySortedBy
times_le_one x [] h = omega arith
times_le_one x (y ∷ ys) h =
    let either : (b : Bool) → same_item x y ≡ b → when b 1 + times x ys ≤ 1 =
    elim [
      | true ↦ λ e. omega (
        arith,
        times_below x ys (subst (λ z. AllByRecursion (λ y. item_cmp z y ≡ Less) ys) (sym (same_item-eq x y e)) h.0),
      )
      | false ↦ λ e. omega (arith, times_le_one x ys h.1)
    ] in
    either (same_item x y) refl

pub ListsOnce-from_times : (items A : List Item) → IsSet A → ((x : Item) → times x items ≡ times x A) →
    ListsOnce items A
ListsOnce-from_times items A set same = record {
  once = IsDistinct-from_times items (λ x. omega (arith, same x, times_le_one x A set));
  same = same_has items A same;
}

-- ---- differences

pub difference-IsSet : (A B : List Item) → IsSet A → IsSet (difference A B)
difference-IsSet A B set = IsStrictlySortedBy-filter item_cmp (λ x. not (has B x)) A set

-- an item that two lists have equally often is in neither's difference
pub times-difference_same : (x : Item) (A : List Item) → times x (difference A A) ≡ 0
times-difference_same x A = grind (arith, times-not_has, times-filter)

pub has-filter : (p : Item → Bool) (x : Item) (xs : List Item) → has (filter p xs) x ≡ (p x && has xs x)
has-filter p x xs = any-filter_same (same_item x) p (p x) (λ y h. ap p (sym (same_item-eq x y h))) xs

-- differences within a range
pub times-difference_in : (x : Item) (X : Range) (A B : List Item) →
    times x (difference (items_in A X) (items_in B X)) ≡ when (contains X x) (times x (difference A B))
times-difference_in x X A B =
    let outer = times-filter (λ y. not (has (items_in B X) y)) x (items_in A X) in
    let whole = times-filter (λ y. not (has B y)) x A in
    let within : (b c : Bool) → when (not (b && c)) (when b (times x A)) ≡ when b (when (not c) (times x A)) =
    grind arith in
    outer
    ∙ ap (λ n. when (not (has (items_in B X) x)) n) (times-filter (contains X) x A)
    ∙ ap (λ b. when (not b) (when (contains X x) (times x A))) (has-filter (contains X) x B)
    ∙ within (contains X x) (has B x)
    ∙ ap (λ n. when (contains X x) n) (sym whole)

-- what a range of A has and B lacks
pub times-difference_of : (x : Item) (X : Range) (A B : List Item) →
    times x (difference (items_in A X) B) ≡ when (contains X x) (times x (difference A B))
times-difference_of x X A B =
    let turned : (b c : Bool) → when b (when c (times x A)) ≡ when c (when b (times x A)) = grind arith in
    times-filter (λ y. not (has B y)) x (items_in A X)
    ∙ ap (λ n. when (not (has B x)) n) (times-filter (contains X) x A)
    ∙ turned (not (has B x)) (contains X x)
    ∙ ap (λ n. when (contains X x) n) (sym (times-filter (λ y. not (has B y)) x A))

-- what marks made by a test keep
pub items_where_true-map : (p : Item → Bool) (xs : List Item) → items_where_true (map p xs) xs ≡ filter p xs
items_where_true-map p [] = refl
items_where_true-map p (x ∷ xs) = grind (arith, items_where_true-map p xs)

-- ==== The set of a list's items: it is a set, and has what the list has

pub has-add_item : (A : List Item) (x z : Item) → has (add_item A x) z ≡ (same_item z x || has A z)
has-add_item [] x z = refl
has-add_item (y ∷ ys) x z = grind (arith, has-add_item ys x z, item_cmp-eq)

all_add_item : (P : Item → Type 0) (A : List Item) (x : Item) → AllByRecursion P A → P x →
    AllByRecursion P (add_item A x)
all_add_item P [] x h p = (p, tt)
all_add_item P (y ∷ ys) x h p = grind (arith, all_add_item P ys x h.1 p)

pub all_above : (x y : Item) (ys : List Item) → item_cmp x y ≡ Less → AllByRecursion (λ z. item_cmp y z ≡ Less) ys →
    AllByRecursion (λ z. item_cmp x z ≡ Less) ys
all_above x y [] less h = tt
all_above x y (z ∷ zs) less h = (nat_list_cmp_total.trans x y z less h.0, all_above x y zs less h.1)

pub add_item-IsSet : (A : List Item) (x : Item) → IsSet A → IsSet (add_item A x)
unfolding IsStrictlySortedBy
add_item-IsSet [] x set = (tt, tt)
add_item-IsSet (y ∷ ys) x set =
    let either : (o : Ordering) → item_cmp x y ≡ o →
    IsSet (match_ordering o (x ∷ y ∷ ys) (y ∷ ys) (y ∷ add_item ys x)) =
    elim [
      | Less ↦ λ e. ((e, all_above x y ys e set.0), set)
      | Equal ↦ λ e. set
      | Greater ↦ λ e. (
        all_add_item (λ z. item_cmp y z ≡ Less) ys x set.0 (nat_list_cmp_total.antisymm y x ∙ ap ordering_reverse e),
        add_item-IsSet ys x set.1,
      )
    ] in
    either (item_cmp x y) refl

pub union-IsSet : (A xs : List Item) → IsSet A → IsSet (union A xs)
union-IsSet A [] set = set
union-IsSet A (x ∷ xs) set = union-IsSet (add_item A x) xs (add_item-IsSet A x set)

pub has-union : (A xs : List Item) (z : Item) → has (union A xs) z ≡ (has xs z || has A z)
has-union A [] z = refl
has-union A (x ∷ xs) z = grind (arith, has-union (add_item A x) xs z, has-add_item)

pub set_of-IsSet : (xs : List Item) → IsSet (set_of xs)
unfolding IsStrictlySortedBy
set_of-IsSet xs = let none : IsSet [] = tt in union-IsSet [] xs none

or_false : (a : Bool) → (a || false) ≡ a
or_false a = grind arith

pub has-set_of : (xs : List Item) (z : Item) → has (set_of xs) z ≡ has xs z
has-set_of xs z = has-union [] xs z ∙ or_false (has xs z)
