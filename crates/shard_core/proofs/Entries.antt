-- Entries of a directory rise by their numbers.
use Rattle.std.proofs.Common.{◌≡◌, ℕ, zero, suc, ◌+◌, ◌*◌, ◌/◌, ◌%◌, ◌<◌, ◌≤◌, ◌^◌, List, [], ◌∷◌, ◌++◌, length, map}
use Rattle.std.proofs.Common.{get_or}
use Rattle.std.proofs.Common.{cond, true, take, refl, sym, ap, ◌∙◌, arith, inl, inr, Less, Equal}
use Rattle.std.specs.Ordering.{nat_cmp, ordering_then}
use Rattle.std.specs.declared.cmp.Ordering.{Ordering}
use Rattle.std.specs.Cmp.{nat_cmp_is}
use Rattle.std.specs.Int.{w16, w32, to_be_bytes}
use Rattle.std.specs.List.{AllByRecursion, range_with_len}
use Rattle.std.specs.List.Sorted.{IsStrictlySortedBy}
use Rattle.std.proofs.lemmas.Bool.{cases_order}
use Rattle.std.proofs.lemmas.List.{take_more, length-take}
use Rattle.std.proofs.lemmas.Nat.{from_be_bytes-to_be_bytes_2}
use Rattle.definitions.specs.Fingerprints.{Lanes}
use Rattle.definitions.specs.Items.{Item, item_cmp, contains, whole}
use Rattle.definitions.specs.Sets.{IsSet, items_in}
use Rattle.definitions.specs.Wire.{lanes_text}
use Rattle.shard_core.specs.declared.shard_sum.ShardSum.{ShardSum}
use Rattle.shard_core.specs.Shards.{entry, entry_for, shard, directory}
use Rattle.shard_core.specs.Directories.{number_in, sum_of, sums_of, entries_from}

pub number_of_entry : (s : ℕ) (X : List Item) → s < 2 ^ 16 → number_in (entry_for s X) ≡ s
unfolding entry_for
number_of_entry s X low = from_be_bytes-to_be_bytes_2 s low

-- ---- the order

less : (a b : ℕ) → a < b → nat_cmp a b ≡ Less
less a b low = sym (nat_cmp_is a b Less low)

equal : (a b : ℕ) → a ≡ b → nat_cmp a b ≡ Equal
equal a b same = sym (nat_cmp_is a b Equal same)

pair_less : (a b c d : ℕ) (rest : Ordering) → a * 256 + b < c * 256 + d → b < 256 → d < 256 →
    ordering_then (nat_cmp a c) (ordering_then (nat_cmp b d) rest) ≡ Less
pair_less a b c d rest low small little = elim (cases_order a c) [
  | inl same ↦ rw (equal a c same, less b d (omega arith)) refl
  | inr (inl below) ↦ rw (less a c below) refl
  | inr (inr above) ↦ absurd (omega arith)
]

-- what begins with a smaller number is before
number_less : (s t : ℕ) (xs ys : List ℕ) → s < t → t < 2 ^ 16 →
    item_cmp (to_be_bytes w16 s ++ xs) (to_be_bytes w16 t ++ ys) ≡ Less
number_less s t xs ys low fits =
    pair_less (s / 256 % 256) (s % 256) (t / 256 % 256) (t % 256) (item_cmp xs ys) (omega arith) (omega arith)
    (omega arith)

all_after : (s t : ℕ) (w : ShardSum) (ws : List ShardSum) → s < t → t + length ws ≤ 2 ^ 16 →
    AllByRecursion (λ y. item_cmp (entry s w.count w.fingerprint) y ≡ Less) (entries_from t ws)
all_after s t w [] low fits = tt
all_after s t w (v ∷ vs) low fits = (
  number_less s t (to_be_bytes w32 w.count ++ lanes_text w.fingerprint)
      (to_be_bytes w32 v.count ++ lanes_text v.fingerprint) low (omega arith),
  all_after s (t + 1) w vs (omega arith) (omega arith),
)

pub set_from : (s : ℕ) (ws : List ShardSum) → s + length ws ≤ 2 ^ 16 → IsSet (entries_from s ws)
unfolding IsStrictlySortedBy
set_from s [] fits = tt
set_from s (w ∷ ws) fits = (all_after s (s + 1) w ws (omega arith) (omega arith), set_from (s + 1) ws (omega arith))

-- ---- one entry after another

entries_push : (s : ℕ) (ws : List ShardSum) (w : ShardSum) →
    entries_from s (ws ++ w ∷ []) ≡ entries_from s ws ++ entry (s + length ws) w.count w.fingerprint ∷ []
entries_push s [] w = let here : s ≡ s + 0 = omega arith in ap (λ k. entry k w.count w.fingerprint ∷ []) here
entries_push s (v ∷ vs) w =
    let there : (s + 1) + length vs ≡ s + length (v ∷ vs) = omega arith in
    ap (λ xs. entry s v.count v.fingerprint ∷ xs) (entries_push (s + 1) vs w
    ∙ ap (λ k. entries_from (s + 1) vs ++ entry k w.count w.fingerprint ∷ []) there)

pub entries_more : (s : ℕ) (ws : List ShardSum) (i : ℕ) (w : ShardSum) → i < length ws → w ≡ get_or ws i w →
    entries_from s (take (i + 1) ws) ≡ entries_from s (take i ws) ++ entry (s + i) w.count w.fingerprint ∷ []
entries_more s ws i w low at =
    let front : List ShardSum = take i ws in
    let long : length front ≡ i = simp length-take (omega arith) in
    let count : s + length front ≡ s + i = omega (arith, long) in
    ap (λ us. entries_from s us) (take_more ws i w low ∙ ap (λ v. front ++ v ∷ []) (sym at))
    ∙ entries_push s front w ∙ ap (λ k. entries_from s front ++ entry k w.count w.fingerprint ∷ []) count

-- ---- the range of all items

contains_whole : (x : Item) → contains whole x ≡ true
contains_whole [] = refl
contains_whole (b ∷ x) = refl

pub items_in_whole : (A : List Item) → items_in A whole ≡ A
items_in_whole [] = refl
items_in_whole (x ∷ xs) = ap (λ c. cond c (x ∷ items_in xs whole) (items_in xs whole)) (contains_whole x)
    ∙ ap (λ ys. x ∷ ys) (items_in_whole xs)

-- ---- the directory

abbrev pub sum_with : ℕ → Lanes → ShardSum
sum_with n f = record { count = n; fingerprint = f }

pub entries_are : (f : ℕ → List Item) (a n : ℕ) →
    entries_from a (map (λ s. sum_of (f s)) (range_with_len a n)) ≡ map (λ s. entry_for s (f s)) (range_with_len a n)
unfolding entry_for
entries_are f a zero = refl
entries_are f a (suc n) =
    ap (λ xs. entry a (sum_of (f a)).count (sum_of (f a)).fingerprint ∷ xs) (entries_are f (a + 1) n)

pub directory_is : (b : ℕ) (A : List Item) → entries_from 0 (sums_of b A) ≡ directory b A
directory_is b A = entries_are (shard b A) 0 (2 ^ b)
