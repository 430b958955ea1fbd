-- The shards of a span are those of the whole set.
use Rattle.std.proofs.Common.{◌≡◌, ℕ, zero, suc, ◌+◌, ◌-◌, ◌<◌, ◌≤◌, ◌^◌, Bool, true, false, not, ◌&&◌, List, [], ◌∷◌}
use Rattle.std.proofs.Common.{length, map, take, drop, cond, refl, sym, ap, ◌∙◌, arith, rules, true≢false}
use Rattle.std.proofs.Common.{◌||◌, ◌++◌, get_or, set}
use Rattle.std.specs.Prelude.{filter, nat_lt, Vec}
use Rattle.std.specs.declared.alloc.Global.{Global}
use Rattle.std.specs.List.{AllByRecursion, range_with_len}
use Rattle.std.proofs.lemmas.Bool.{eqb-true}
use Rattle.std.proofs.lemmas.List.{take-map}
use Rattle.std.proofs.lemmas.List.FromFn.{take-map-range_with_len}
use Rattle.std.proofs.lemmas.List.Folds.{list_any-append}
use Rattle.std.proofs.lemmas.List.Kept.{IsStrictlySortedBy-filter}
use Rattle.definitions.specs.Items.{Item, item_cmp, same_item}
use Rattle.definitions.specs.Sets.{IsSet, has, set_of}
use Rattle.store_core.proofs.Made.{same_set, set_of_is_set, has_set_of}
use Rattle.shard_core.proofs.Cut.{has_filter}
use Rattle.shard_core.proofs.Dealt.{dealt_step, dealt_none}
use Rattle.shard_core.specs.Shards.{shard_number, lies_in, shard, shards}
use Rattle.shard_core.specs.Splits.{held, HasRoom}
use Rattle.shard_core.specs.Spans.{in_span, kept, span, span_shards, AreKept}

-- ---- a filter after another that passes more

one : {X : Type 0} (p : X → Bool) (b c : Bool) (x : X) (us vs : List X) → p x ≡ b → (b ≡ true → c ≡ true) →
    filter p us ≡ vs → filter p (cond c (x ∷ us) us) ≡ cond b (x ∷ vs) vs
one p true true x us vs is passes same = ap (λ d. cond d (x ∷ filter p us) (filter p us)) is ∙ ap (λ l. x ∷ l) same
one p true false x us vs is passes same = absurd (true≢false (sym (passes refl)))
one p false true x us vs is passes same = ap (λ d. cond d (x ∷ filter p us) (filter p us)) is ∙ same
one p false false x us vs is passes same = same

pub filter_twice : {X : Type 0} (p q : X → Bool) → ((x : X) → p x ≡ true → q x ≡ true) → (xs : List X) →
    filter p (filter q xs) ≡ filter p xs
filter_twice p q passes [] = refl
filter_twice p q passes (x ∷ xs) =
    one p (p x) (q x) x (filter q xs) (filter p xs) refl (passes x) (filter_twice p q passes xs)

lies : (b first last s : ℕ) (x : Item) → first ≤ s → s ≤ last → lies_in b s x ≡ true → in_span b first last x ≡ true
lies b first last s x low high is =
    let own : shard_number b x ≡ s = eqb-true (shard_number b x) s is in
    let above : nat_lt (shard_number b x) first ≡ false = search (rules, own, low) in
    let below : nat_lt last (shard_number b x) ≡ false = search (rules, own, high) in
    λ i. not (above i) && not (below i)

pub shard_of_kept : (b first last s : ℕ) (A : List Item) → first ≤ s → s ≤ last →
    shard b (kept b first last A) s ≡ shard b A s
shard_of_kept b first last s A low high =
    filter_twice (lies_in b s) (in_span b first last) (λ x is. lies b first last s x low high is) A

map_from : {X : Type 0} (f g : ℕ → X) (a n : ℕ) → ((k : ℕ) → a ≤ k → k < a + n → f k ≡ g k) →
    map f (range_with_len a n) ≡ map g (range_with_len a n)
map_from f g a zero same = refl
map_from f g a (suc n) same = λ i. same a (omega arith) (omega arith) i
    ∷ map_from f g (a + 1) n (λ k low high. same k (omega arith) (omega arith)) i

pub span_of_kept : (b first last : ℕ) (A : List Item) → first ≤ last →
    span_shards b first last (kept b first last A) ≡ span_shards b first last A
span_of_kept b first last A rises = map_from (shard b (kept b first last A)) (shard b A) first (last + 1 - first)
    (λ s low high. shard_of_kept b first last s A low (omega arith))

-- ---- a part of all

pub map_drop : {X Y : Type 0} (f : X → Y) (n : ℕ) (xs : List X) → drop n (map f xs) ≡ map f (drop n xs)
map_drop f zero xs = refl
map_drop f (suc n) [] = refl
map_drop f (suc n) (x ∷ xs) = map_drop f n xs

drop_range : (a m n : ℕ) → drop n (range_with_len a m) ≡ range_with_len (a + n) (m - n)
drop_range a m zero =
    let from : a ≡ a + 0 = omega arith in
    let many : m ≡ m - 0 = omega arith in
    λ i. range_with_len (from i) (many i)
drop_range a zero (suc n) =
    let none : 0 ≡ 0 - suc n = omega arith in
    ap (λ k. range_with_len (a + suc n) k) none
drop_range a (suc m) (suc n) =
    let from : (a + 1) + n ≡ a + suc n = omega arith in
    let many : m - n ≡ suc m - suc n = omega arith in
    drop_range (a + 1) m n ∙ (λ i. range_with_len (from i) (many i))

pub part_of_all : {X : Type 0} (f : ℕ → X) (m first last : ℕ) → first ≤ last → last < m →
    drop first (take (last + 1) (map f (range_with_len 0 m))) ≡ map f (span first last)
part_of_all f m first last rises within =
    let from : 0 + first ≡ first = omega arith in
    ap (drop first) (take-map-range_with_len f 0 m (last + 1) (omega arith))
    ∙ map_drop f first (range_with_len 0 (last + 1))
    ∙ ap (map f) (drop_range 0 (last + 1) first ∙ ap (λ k. range_with_len k (last + 1 - first)) from)

All-take : {X : Type 0} (P : X → Type 0) (n : ℕ) (xs : List X) → AllByRecursion P xs → AllByRecursion P (take n xs)
All-take P zero xs all = tt
All-take P (suc n) [] all = tt
All-take P (suc n) (x ∷ xs) (here, others) = (here, All-take P n xs others)

All-drop : {X : Type 0} (P : X → Type 0) (n : ℕ) (xs : List X) → AllByRecursion P xs → AllByRecursion P (drop n xs)
All-drop P zero xs all = all
All-drop P (suc n) [] all = tt
All-drop P (suc n) (x ∷ xs) (here, others) = All-drop P n xs others

pub part_has_room : (cap first last : ℕ) (Xs : List (List Item)) → HasRoom cap Xs →
    HasRoom cap (drop first (take (last + 1) Xs))
part_has_room cap first last Xs room =
    All-drop (λ X. length X ≤ cap) first (take (last + 1) Xs) (All-take (λ X. length X ≤ cap) (last + 1) Xs room)

-- ---- items more

or_and : (p q r : Bool) → ((p && q) || (p && r)) ≡ (p && (q || r))
or_and false q r = refl
or_and true q r = refl

module _ (b first last : ℕ) where
  abbrev is_kept : Item → Bool
  is_kept x = in_span b first last x

  has_kept : (A : List Item) (x : Item) → has (kept b first last (set_of A)) x ≡ (is_kept x && has A x)
  has_kept A x = has_filter is_kept (set_of A) x ∙ ap (λ c. is_kept x && c) (has_set_of A x)

  pub set_kept : (A : List Item) → IsSet A → IsSet (kept b first last A)
  set_kept A set = IsStrictlySortedBy-filter item_cmp is_kept A set

  pub kept_more : (ds xs ys : List Item) → set_of ds ≡ kept b first last (set_of xs) →
      set_of (ds ++ kept b first last ys) ≡ kept b first last (set_of (xs ++ ys))
  kept_more ds xs ys same =
      same_set (set_of (ds ++ kept b first last ys)) (kept b first last (set_of (xs ++ ys)))
      (set_of_is_set (ds ++ kept b first last ys)) (set_kept (set_of (xs ++ ys)) (set_of_is_set (xs ++ ys)))
      (λ x. has_set_of (ds ++ kept b first last ys) x
      ∙ list_any-append (same_item x) ds (kept b first last ys)
      ∙ (λ i. both x i || has_filter is_kept ys x i) ∙ or_and (is_kept x) (has xs x) (has ys x)
      ∙ ap (λ c. is_kept x && c) (sym (list_any-append (same_item x) xs ys)) ∙ sym (has_kept (xs ++ ys) x))
    where
      both : (x : Item) → has ds x ≡ (is_kept x && has xs x)
      both x = sym (has_set_of ds x) ∙ ap (λ A. has A x) same ∙ has_kept xs x

-- ---- one item more, whose shard is in the span

pub within_one : (b first last n : ℕ) (x : Item) → n ≡ shard_number b x → first ≤ n → n ≤ last →
    kept b first last (x ∷ []) ≡ x ∷ []
within_one b first last n x own low high =
    let above : nat_lt (shard_number b x) first ≡ false = search (rules, own, low) in
    let below : nat_lt last (shard_number b x) ≡ false = search (rules, own, high) in
    λ i. cond (not (above i) && not (below i)) (x ∷ []) []

pub deals_one : (b n : ℕ) (x : Item) (dealt K : List Item) (old new : List (List Item)) → b ≤ 12 →
    n ≡ shard_number b x → K ≡ x ∷ [] → old ≡ shards b dealt → new ≡ set old n (get_or old n [] ++ x ∷ []) →
    new ≡ shards b (dealt ++ K)
deals_one b n x dealt K old new low own one was is =
    dealt_step b dealt (x ∷ []) 0 x n old new low (omega arith) refl own (was ∙ dealt_none b dealt) is
    ∙ ap (λ k. shards b (dealt ++ k)) (sym one)

pub set_again : (xs : List Item) → set_of (set_of xs) ≡ set_of xs
set_again xs = same_set (set_of (set_of xs)) (set_of xs) (set_of_is_set (set_of xs)) (set_of_is_set xs)
    (λ x. has_set_of (set_of xs) x)

-- ---- lists as vectors

abbrev listed : Vec Item Global → List Item
listed v = v.items

-- each list becomes a set in its place
pub each_is_set : (vs ws : List (Vec Item Global)) → length ws ≡ length vs →
    ((k : ℕ) (d : Vec Item Global) → k < length vs → (get_or ws k d).items ≡ set_of (get_or vs k d).items) →
    held ws ≡ map set_of (held vs)
each_is_set [] [] long each = refl
each_is_set [] (w ∷ ws) long each = absurd (omega (arith, long))
each_is_set (v ∷ vs) [] long each = absurd (omega (arith, long))
each_is_set (v ∷ vs) (w ∷ ws) long each =
    let less : length ws ≡ length vs = omega (arith, long) in
    λ i. each 0 v (omega arith) i
    ∷ each_is_set vs ws less (λ k d inside. each (suc k) d (omega (arith, inside))) i

pub part_held : (vs ws : List (Vec Item Global)) (first n : ℕ) → ws ≡ take n vs →
    held (drop first ws) ≡ drop first (take n (held vs))
part_held vs ws first n is =
    ap (λ Z. held (drop first Z)) is ∙ sym (map_drop listed first (take n vs))
    ∙ ap (drop first) (sym (take-map listed n vs))

pub part_shards : (b first last : ℕ) (A : List Item) (Xs Ys : List (List Item)) → first ≤ last → last < 2 ^ b →
    Xs ≡ shards b (kept b first last A) → Ys ≡ drop first (take (last + 1) Xs) → Ys ≡ span_shards b first last A
part_shards b first last A Xs Ys rises within all part =
    part ∙ ap (λ Z. drop first (take (last + 1) Z)) all
    ∙ part_of_all (shard b (kept b first last A)) (2 ^ b) first last rises within
    ∙ span_of_kept b first last A rises

pub into_kept : (b first last cap : ℕ) (Xs : List (List Item)) (xs : List Item) → HasRoom cap Xs →
    Xs ≡ span_shards b first last (set_of xs) → AreKept b first last cap Xs
into_kept b first last cap Xs xs room is = (room, (set_of xs, set_of_is_set xs, is))
