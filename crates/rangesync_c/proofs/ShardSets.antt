-- A set as the lists of its shards, of which one is given an item more. The shards of a set make it again, and an item
-- more is in one of them alone.
use Rattle.std.proofs.Common.{◌≡◌, ℕ, ◌+◌, ◌<◌, ◌≤◌, ◌^◌, zero, suc, Bool, true, false, ◌&&◌, ◌||◌, ◌==◌, ◌⊎◌}
use Rattle.std.proofs.Common.{List, [], ◌∷◌, length, map, get_or, set, replicate, cond, refl, sym, ap, subst, ◌∙◌}
use Rattle.std.proofs.Common.{arith}
use Rattle.std.proofs.Common.{inl, inr}
use Rattle.std.specs.Prelude.{filter, flat_map}
use Rattle.std.specs.List.{range_with_len}
use Rattle.std.proofs.lemmas.Bool.{cases_eq, eq-eqb}
use Rattle.std.proofs.lemmas.List.FromFn.{get_or-map-range_with_len, length-map-range_with_len}
use Rattle.definitions.specs.Items.{Item, Range, contains, same_item}
use Rattle.definitions.specs.Sets.{IsSet, has, add_item, set_of, items_in}
use Rattle.definitions.proofs.Additions.{set_add}
use Rattle.definitions.proofs.Counts.{union_few}
use Rattle.definitions.proofs.Equality.{same_item-eq}
use Rattle.store_core.proofs.Made.{same_set, set_of_is_set, has_set_of, has_add, add_again}
use Rattle.strategy_check.specs.Checked.{Checked}
use Rattle.shard_core.specs.Shards.{shard_number, lies_in, shard, shards, numbers, directory, entry_for}
use Rattle.shard_core.specs.Splits.{HasRoom}
use Rattle.shard_core.specs.Directories.{sum_of, sums_of}
use Rattle.shard_core.specs.declared.shard_sum.ShardSum.{ShardSum}
use Rattle.shard_core.proofs.Cut.{in_own, has_shard, set_shard, union_of_shards}
use Rattle.shard_core.proofs.Dealt.{none_dealt}
use Rattle.shard_core.proofs.Lists.{map_set, map-every, map-map}
use Rattle.shard_core.proofs.Numbers.{number_below}
use Rattle.shard_core.proofs.Told.{not_equal}
use Rattle.rangesync_c.specs.Trees.{sizes}
use Rattle.rangesync_c.specs.SetStates.{VersionState}
use Rattle.rangesync_c.specs.ShardStates.{ShardsState, IsSharded, all_of}

-- ---- the set that the shards make

pub whole : (b : ℕ) (A : List Item) (Xs : List (List Item)) → b ≤ 12 → IsSet A → Xs ≡ shards b A → all_of Xs ≡ A
whole b A Xs low rises is = ap all_of is ∙ union_of_shards b A low rises

pub dealt_again : (b : ℕ) (A : List Item) (Xs : List (List Item)) → b ≤ 12 → IsSet A → Xs ≡ shards b A →
    Xs ≡ shards b (all_of Xs)
dealt_again b A Xs low rises is = is ∙ ap (shards b) (sym (whole b A Xs low rises is))

pub are_set : (Xs : List (List Item)) → IsSet (all_of Xs)
are_set Xs = set_of_is_set (flat_map (λ X. X) Xs)

pub at_number : (b n : ℕ) (A : List Item) (Xs : List (List Item)) → Xs ≡ shards b A → n < 2 ^ b →
    get_or Xs n [] ≡ shard b A n
at_number b n A Xs is low =
    ap (λ (Z : List (List Item)). get_or Z n []) is
    ∙ get_or-map-range_with_len (shard b A) 0 (2 ^ b) n n [] low (omega arith)

pub so_many : (b : ℕ) (A : List Item) (Xs : List (List Item)) → Xs ≡ shards b A → length Xs ≡ 2 ^ b
so_many b A Xs is = ap length is ∙ length-map-range_with_len (shard b A) 0 (2 ^ b)

-- ---- one item more

or_own : (p q r : Bool) → (q ≡ true → p ≡ true) → (p && (q || r)) ≡ (q || (p && r))
or_own true q r own = refl
or_own false true r own = own refl
or_own false false r own = refl

or_other : (p q r : Bool) → (q ≡ true → p ≡ false) → (p && (q || r)) ≡ (p && r)
or_other false q r other = refl
or_other true true r other = grind (arith, other refl)
or_other true false r other = refl

number_of_same : (b : ℕ) (x y : Item) → same_item y x ≡ true → shard_number b y ≡ shard_number b x
number_of_same b x y same = ap (shard_number b) (same_item-eq y x same)

pub own_shard : (b : ℕ) (A : List Item) (x : Item) → IsSet A →
    shard b (add_item A x) (shard_number b x) ≡ add_item (shard b A (shard_number b x)) x
own_shard b A x rises =
    let n : ℕ = shard_number b x in
    same_set (shard b (add_item A x) n) (add_item (shard b A n) x)
    (set_shard b n (add_item A x) (set_add A x rises)) (set_add (shard b A n) x (set_shard b n A rises))
    (λ y. has_shard b n (add_item A x) y ∙ ap (λ c. (shard_number b y == n) && c) (has_add A x y)
    ∙ or_own (shard_number b y == n) (same_item y x) (has A y)
    (λ same. eq-eqb (shard_number b y) n (number_of_same b x y same))
    ∙ ap (λ c. same_item y x || c) (sym (has_shard b n A y)) ∙ sym (has_add (shard b A n) x y))

pub other_shard : (b k : ℕ) (A : List Item) (x : Item) → IsSet A → (shard_number b x ≡ k → ⊥) →
    shard b (add_item A x) k ≡ shard b A k
other_shard b k A x rises apart =
    same_set (shard b (add_item A x) k) (shard b A k)
    (set_shard b k (add_item A x) (set_add A x rises)) (set_shard b k A rises)
    (λ y. has_shard b k (add_item A x) y ∙ ap (λ c. (shard_number b y == k) && c) (has_add A x y)
    ∙ or_other (shard_number b y == k) (same_item y x) (has A y)
    (λ same. not_equal (shard_number b y) k (λ here. apart (sym (number_of_same b x y same) ∙ here)))
    ∙ sym (has_shard b k A y))

pub with_more : (b : ℕ) (A : List Item) (Xs Ys : List (List Item)) (x : Item) (Y : List Item) → b ≤ 12 → IsSet A →
    Xs ≡ shards b A → Y ≡ add_item (get_or Xs (shard_number b x) []) x → Ys ≡ set Xs (shard_number b x) Y →
    Ys ≡ shards b (add_item A x)
with_more b A Xs Ys x Y low rises is grown put =
    let n : ℕ = shard_number b x in
    let below : n < 2 ^ b = number_below b x low in
    put ∙ ap (λ (Z : List (List Item)). set Z n Y) is
    ∙ map_set (shard b A) (shard b (add_item A x)) (2 ^ b) n Y [] below
    (own_shard b A x rises ∙ ap (λ Z. add_item Z x) (sym (at_number b n A Xs is below)) ∙ sym grown)
    (λ k apart. other_shard b k A x rises (λ here. apart (sym here)))

-- ---- room

pub room_at : (most n : ℕ) (Xs : List (List Item)) → HasRoom most Xs → n < length Xs → length (get_or Xs n []) ≤ most
room_at most zero (X ∷ Xs) room inside = room.0
room_at most (suc n) (X ∷ Xs) room inside = room_at most n Xs room.1 (omega (arith, inside))
room_at most n [] room inside = omega (arith, inside)

room_set : (most n : ℕ) (Xs : List (List Item)) (Y : List Item) → length Y ≤ most → HasRoom most Xs →
    HasRoom most (set Xs n Y)
room_set most n [] Y few room = room
room_set most zero (X ∷ Xs) Y few room = (few, room.1)
room_set most (suc n) (X ∷ Xs) Y few room = (room.0, room_set most n Xs Y few room.1)

pub room_more : (most more : ℕ) (Xs : List (List Item)) → most ≤ more → HasRoom most Xs → HasRoom more Xs
room_more most more [] wide room = room
room_more most more (X ∷ Xs) wide room = (omega (arith, room.0, wide), room_more most more Xs wide room.1)

pub room_is : (most cap : ℕ) (Xs : List (List Item)) → HasRoom most Xs → most ≡ cap → HasRoom cap Xs
room_is most cap Xs room is = subst (λ n. HasRoom n Xs) is room

room_none : (most n : ℕ) → HasRoom most (replicate n [])
room_none most zero = tt
room_none most (suc n) = (omega arith, room_none most n)

few_more : (A : List Item) (x : Item) → length (add_item A x) ≤ length A + 1
few_more A x = union_few A (x ∷ [])

-- ---- a set in shards

abbrev pub state_of : Checked → List ℕ → ℕ → List Item → ShardsState
state_of a name b items = record { accepted = a; name = name; bits = b; items = items }

pub state_is : (a : Checked) (n m : List ℕ) (b : ℕ) (A B : List Item) → n ≡ m → A ≡ B →
    state_of a n b A ≡ state_of a m b B
state_is a n m b A B named same = λ i. state_of a (named i) b (same i)

abbrev pub version_of : Checked → List Item → VersionState
version_of a A = record { accepted = a; items = A }

pub version_is : (a c : Checked) (A B : List Item) → a ≡ c → A ≡ B → version_of a A ≡ version_of c B
version_is a c A B under same = λ i. version_of (under i) (same i)

pub set_again : (A : List Item) → IsSet A → set_of A ≡ A
set_again A rises = same_set (set_of A) A (set_of_is_set A) rises (has_set_of A)

pub set_once : (X A xs : List Item) → X ≡ A → A ≡ set_of xs → set_of X ≡ set_of xs
set_once X A xs is made = ap set_of (is ∙ made) ∙ set_again (set_of xs) (set_of_is_set xs)

pub of_dealt : (a : Checked) (name : List ℕ) (b : ℕ) (A : List Item) (Xs : List (List Item)) → length name ≤ 64 →
    b ≤ 12 → 2 ^ b ≤ a.table.cap → HasRoom a.table.cap Xs → Xs ≡ shards b (set_of A) →
    IsSharded a name b Xs × (all_of Xs ≡ set_of A)
of_dealt a name b A Xs short low wide room is = (
  record {
    short = short;
    low = low;
    wide = wide;
    room = room;
    dealt = dealt_again b (set_of A) Xs low (set_of_is_set A) is;
  },
  whole b (set_of A) Xs low (set_of_is_set A) is,
)

pub of_none : (a : Checked) (name : List ℕ) (b : ℕ) (Xs : List (List Item)) → length name ≤ 64 → b ≤ 12 →
    2 ^ b ≤ a.table.cap → Xs ≡ replicate (2 ^ b) [] → IsSharded a name b Xs × (all_of Xs ≡ [])
of_none a name b Xs short low wide is =
    of_dealt a name b [] Xs short low wide (subst (HasRoom a.table.cap) (sym is) (room_none a.table.cap (2 ^ b)))
    (is ∙ none_dealt b (2 ^ b) refl)

module _ (a : Checked) (name : List ℕ) (b : ℕ) (Xs : List (List Item)) (x : Item) (ok : IsSharded a name b Xs) where
  pub below : shard_number b x < 2 ^ b
  below = number_below b x ok.low

  pub inside : shard_number b x < length Xs
  inside = subst (λ k. shard_number b x < k) (sym (so_many b (all_of Xs) Xs ok.dealt)) below

  own : get_or Xs (shard_number b x) [] ≡ shard b (all_of Xs) (shard_number b x)
  own = at_number b (shard_number b x) (all_of Xs) Xs ok.dealt below

  pub there : has (get_or Xs (shard_number b x) []) x ≡ has (all_of Xs) x
  there = ap (λ Z. has Z x) own ∙ in_own b (all_of Xs) x

  pub count : length (get_or Xs (shard_number b x) []) ≡ length (shard b (all_of Xs) (shard_number b x))
  count = ap length own

  pub grown : (Y : List Item) (Ys : List (List Item)) → Y ≡ add_item (get_or Xs (shard_number b x) []) x →
      length (get_or Xs (shard_number b x) []) < a.table.cap → Ys ≡ set Xs (shard_number b x) Y →
      IsSharded a name b Ys × (all_of Ys ≡ add_item (all_of Xs) x)
  grown Y Ys is room put =
      let made : Ys ≡ shards b (add_item (all_of Xs) x) =
      with_more b (all_of Xs) Xs Ys x Y ok.low (are_set Xs) ok.dealt is put in
      let rises : IsSet (add_item (all_of Xs) x) = set_add (all_of Xs) x (are_set Xs) in
      let small : length Y ≤ a.table.cap =
      subst (λ Z. length Z ≤ a.table.cap) (sym is)
      (omega (arith, few_more (get_or Xs (shard_number b x) []) x, room)) in (
        record {
          short = ok.short;
          low = ok.low;
          wide = ok.wide;
          room = subst (HasRoom a.table.cap) (sym put) (room_set a.table.cap (shard_number b x) Xs Y small ok.room);
          dealt = dealt_again b (add_item (all_of Xs) x) Ys ok.low rises made;
        },
        whole b (add_item (all_of Xs) x) Ys ok.low rises made,
      )

  pub again : has (get_or Xs (shard_number b x) []) x ≡ true → add_item (all_of Xs) x ≡ all_of Xs
  again here = add_again (all_of Xs) x (are_set Xs) (sym there ∙ here)

-- ---- how many items there are

abbrev one_bit : Bool → ℕ
one_bit true = 1
one_bit false = 0

length_cond : (c : Bool) (x : Item) (A : List Item) → length (cond c (x ∷ A) A) ≡ one_bit c + length A
length_cond true x A = omega arith
length_cond false x A = omega arith

length_shard : (b s : ℕ) (x : Item) (A : List Item) →
    length (shard b (x ∷ A) s) ≡ one_bit (shard_number b x == s) + length (shard b A s)
length_shard b s x A = length_cond (shard_number b x == s) x (shard b A s)

-- the sum of f over these numbers
abbrev over : (ℕ → ℕ) → List ℕ → ℕ
over f [] = 0
over f (s ∷ ss) = f s + over f ss

zeros : (b : ℕ) (ss : List ℕ) → over (λ s. length (shard b [] s)) ss ≡ 0
zeros b [] = refl
zeros b (s ∷ ss) = omega (arith, zeros b ss)

four : (l p q r t u : ℕ) → l ≡ p + q → r ≡ t + u → l + r ≡ (p + t) + (q + u)
four l p q r t u first is = omega (arith, first, is)

more_in_each : (b : ℕ) (x : Item) (A : List Item) (ss : List ℕ) → over (λ s. length (shard b (x ∷ A) s)) ss
    ≡ over (λ s. one_bit (shard_number b x == s)) ss + over (λ s. length (shard b A s)) ss
more_in_each b x A [] = refl
more_in_each b x A (s ∷ ss) =
    four (length (shard b (x ∷ A) s)) (one_bit (shard_number b x == s)) (length (shard b A s))
    (over (λ t. length (shard b (x ∷ A) t)) ss) (over (λ t. one_bit (shard_number b x == t)) ss)
    (over (λ t. length (shard b A t)) ss) (length_shard b s x A) (more_in_each b x A ss)

none_more : (c : Bool) (r t : ℕ) → c ≡ false → r ≡ t → one_bit c + r ≡ t
none_more true r t is same = grind (arith, is)
none_more false r t is same = omega (arith, same)

one_more : (c : Bool) (r : ℕ) → c ≡ true → r ≡ 0 → one_bit c + r ≡ 1
one_more true r is same = omega (arith, same)
one_more false r is same = grind (arith, is)

by_place : (n k r : ℕ) → (n ≡ k) ⊎ (n ≡ k → ⊥) → (n ≡ k → r ≡ 0) → ((n ≡ k → ⊥) → r ≡ 1) → one_bit (n == k) + r ≡ 1
by_place n k r (inl same) first later = one_more (n == k) r (eq-eqb n k same) (first same)
by_place n k r (inr apart) first later = none_more (n == k) r 1 (not_equal n k apart) (later apart)

bits_past : (n k m : ℕ) → n < k → over (λ s. one_bit (n == s)) (range_with_len k m) ≡ 0
bits_past n k zero past = refl
bits_past n k (suc m) past =
    let apart : (n == k) ≡ false = not_equal n k (λ same. omega (arith, past, same)) in
    none_more (n == k) (over (λ s. one_bit (n == s)) (range_with_len (k + 1) m)) 0 apart
    (bits_past n (k + 1) m (omega (arith, past)))

after : (n k : ℕ) → k ≤ n → (n ≡ k → ⊥) → k + 1 ≤ n
after n k low apart = grind (arith, low, apart)

one_in_all : (n k m : ℕ) → k ≤ n → n < k + m → over (λ s. one_bit (n == s)) (range_with_len k m) ≡ 1
one_in_all n k zero low high = omega (arith, low, high)
one_in_all n k (suc m) low high =
    by_place n k (over (λ s. one_bit (n == s)) (range_with_len (k + 1) m)) (cases_eq n k)
    (λ same. bits_past n (k + 1) m (omega (arith, same)))
    (λ apart. one_in_all n (k + 1) m (after n k low apart) (omega (arith, high)))

count_shards : (b : ℕ) (A : List Item) → b ≤ 12 → over (λ s. length (shard b A s)) (numbers b) ≡ length A
count_shards b [] low = zeros b (numbers b)
count_shards b (x ∷ A) low =
    let one = one_in_all (shard_number b x) 0 (2 ^ b) (omega arith) (omega (arith, number_below b x low)) in
    more_in_each b x A (numbers b) ∙ omega (arith, one, count_shards b A low)

sizes_over : (f : ℕ → List Item) (ss : List ℕ) → sizes (map f ss) ≡ over (λ s. length (f s)) ss
sizes_over f [] = refl
sizes_over f (s ∷ ss) = ap (λ n. length (f s) + n) (sizes_over f ss)

pub counted : (b : ℕ) (Xs : List (List Item)) → b ≤ 12 → Xs ≡ shards b (all_of Xs) → sizes Xs ≡ length (all_of Xs)
counted b Xs low is =
    ap sizes is ∙ sizes_over (shard b (all_of Xs)) (numbers b) ∙ count_shards b (all_of Xs) low

-- ---- the directory

filters_change : {X : Type 0} (p q : X → Bool) (xs : List X) → filter p (filter q xs) ≡ filter q (filter p xs)
filters_change p q [] = refl
filters_change p q (x ∷ xs) = grind (arith, filters_change p q xs)

pub summed : (b : ℕ) (R : Range) (Xs : List (List Item)) → Xs ≡ shards b (all_of Xs) →
    map (λ X. sum_of (items_in X R)) Xs ≡ sums_of b (items_in (all_of Xs) R)
summed b R Xs is =
    let f : List Item → ShardSum = λ X. sum_of (items_in X R) in
    let A : List Item = all_of Xs in
    ap (map f) is ∙ map-map f (shard b A) (numbers b)
    ∙ map-every (λ s. f (shard b A s)) (λ s. sum_of (shard b (items_in A R) s))
    (λ s. ap sum_of (filters_change (contains R) (lies_in b s) A)) (numbers b)

pub wide_enough : (b : ℕ) (A : List Item) (most : ℕ) → 2 ^ b ≤ most → length (directory b A) ≤ most
wide_enough b A most wide =
    let long : length (directory b A) ≡ 2 ^ b = length-map-range_with_len (λ s. entry_for s (shard b A s)) 0 (2 ^ b) in
    omega (arith, long, wide)
