-- The lists of two spans, one after the other.
use Rattle.std.proofs.Common.{◌^◌, ◌≡◌, ℕ, zero, suc, ◌+◌, ◌-◌, ◌<◌, ◌≤◌, List, [], ◌∷◌, ◌++◌, length, map, get_or, set}
use Rattle.std.proofs.Common.{refl, sym, ap, subst, ◌∙◌, arith}
use Rattle.std.specs.Prelude.{Vec}
use Rattle.std.specs.declared.alloc.Global.{Global}
use Rattle.std.specs.List.{range_with_len}
use Rattle.std.proofs.lemmas.List.{get_or-map, map-set, length-map}
use Rattle.std.proofs.lemmas.List.Elements.{filter-append}
use Rattle.std.proofs.lemmas.List.FromFn.{length-map-range_with_len}
use Rattle.store_core.proofs.Made.{set_of_is_set}
use Rattle.definitions.specs.Items.{Item}
use Rattle.definitions.specs.Sets.{set_of}
use Rattle.shard_core.specs.Shards.{lies_in, shard}
use Rattle.shard_core.specs.Splits.{held, HasRoom, IsFull}
use Rattle.shard_core.specs.Spans.{span, span_shards, joined_to, AreKept, IsFullFrom}
use Rattle.shard_core.specs.declared.fault.SplitFault.{SplitFault}
use Rattle.shard_core.proofs.Lists.{map-every, map-map}
use Rattle.shard_core.proofs.Cut.{set_of_shard}
use Rattle.shard_core.proofs.Numbers.{few}

-- ---- one list after another

read_at : (n : ℕ) (Xs Ys : List (List Item)) (d : List Item) → get_or (joined_to n Xs Ys) n d ≡ get_or Xs n d
read_at zero Xs Ys d = refl
read_at (suc n) [] Ys d = refl
read_at (suc n) (X ∷ Xs) [] d = refl
read_at (suc n) (X ∷ Xs) (Y ∷ Ys) d = read_at n Xs Ys d

set_at : (n : ℕ) (Xs Ys : List (List Item)) → n < length Xs → n < length Ys →
    set (joined_to n Xs Ys) n (get_or Xs n [] ++ get_or Ys n []) ≡ joined_to (suc n) Xs Ys
set_at n [] Ys low there = absurd (omega arith)
set_at n (X ∷ Xs) [] low there = absurd (omega arith)
set_at zero (X ∷ Xs) (Y ∷ Ys) low there = refl
set_at (suc n) (X ∷ Xs) (Y ∷ Ys) low there = ap (λ Z. (X ++ Y) ∷ Z) (set_at n Xs Ys (omega arith) (omega arith))

joined_length : (n : ℕ) (Xs Ys : List (List Item)) → length (joined_to n Xs Ys) ≡ length Xs
joined_length zero Xs Ys = refl
joined_length (suc n) [] Ys = refl
joined_length (suc n) (X ∷ Xs) [] = refl
joined_length (suc n) (X ∷ Xs) (Y ∷ Ys) = ap suc (joined_length n Xs Ys)

abbrev pub listed : Vec Item Global → List Item
listed v = v.items

pub read_list : (vs : List (Vec Item Global)) (i : ℕ) (v : Vec Item Global) → i < length vs → v ≡ get_or vs i v →
    v.items ≡ get_or (held vs) i []
read_list vs i v inside at = ap listed at ∙ sym (get_or-map listed vs i v [] inside)

pub join_more : (H M : List (List Item)) (vs : List (Vec Item Global)) (i : ℕ) (v w : Vec Item Global) (m : List Item) →
    i < length H → i < length M → held vs ≡ joined_to i H M → w.items ≡ (get_or vs i v).items ++ m →
    m ≡ get_or M i [] → held (set vs i w) ≡ joined_to (i + 1) H M
join_more H M vs i v w m inside there so_far grown more =
    let many : length vs ≡ length H =
    sym (length-map vs listed) ∙ ap length so_far ∙ joined_length i H M in
    let own : (get_or vs i v).items ≡ get_or H i [] =
    sym (get_or-map listed vs i v [] (omega (arith, many))) ∙ ap (λ Z. get_or Z i []) so_far
    ∙ read_at i H M [] in
    let made : w.items ≡ get_or H i [] ++ get_or M i [] = grown ∙ (λ j. own j ++ more j) in
    let next : suc i ≡ i + 1 = omega arith in
    map-set listed vs i w ∙ (λ j. set (so_far j) i (made j)) ∙ set_at i H M inside there
    ∙ ap (λ n. joined_to n H M) next

-- ---- all of them

joined_maps : (f g : ℕ → List Item) (a n : ℕ) →
    joined_to n (map f (range_with_len a n)) (map g (range_with_len a n))
    ≡ map (λ s. f s ++ g s) (range_with_len a n)
joined_maps f g a zero = refl
joined_maps f g a (suc n) = ap (λ Z. (f a ++ g a) ∷ Z) (joined_maps f g (a + 1) n)

pub joined_shards : (b first last n : ℕ) (A B : List Item) → n ≡ last + 1 - first →
    joined_to n (span_shards b first last A) (span_shards b first last B) ≡ span_shards b first last (A ++ B)
joined_shards b first last n A B many =
    ap (λ k. joined_to k (span_shards b first last A) (span_shards b first last B)) many
    ∙ joined_maps (shard b A) (shard b B) first (last + 1 - first)
    ∙ map-every (λ s. shard b A s ++ shard b B s) (shard b (A ++ B)) (λ s. sym (filter-append (lies_in b s) A B))
    (span first last)

pub span_sets : (b first last : ℕ) (xs : List Item) →
    map set_of (span_shards b first last xs) ≡ span_shards b first last (set_of xs)
span_sets b first last xs = map-map set_of (shard b xs) (span first last)
    ∙ map-every (λ s. set_of (shard b xs s)) (shard b (set_of xs)) (λ s. set_of_shard b s xs) (span first last)

-- ---- the lists of two spans

module _ (b first last : ℕ) (A B : List Item) (lists more all : List (Vec Item Global))
    (joined : held all ≡ joined_to (length lists) (held lists) (held more))
    (ours : held lists ≡ span_shards b first last A) (theirs : held more ≡ span_shards b first last B) where
  count : length lists ≡ last + 1 - first
  count = sym (length-map lists listed) ∙ ap length ours
      ∙ length-map-range_with_len (shard b A) first (last + 1 - first)

  pub joined_sets : map set_of (held all) ≡ span_shards b first last (set_of (A ++ B))
  joined_sets =
      ap (map set_of) (joined ∙ (λ j. joined_to (length lists) (ours j) (theirs j))
      ∙ joined_shards b first last (length lists) A B count)
      ∙ span_sets b first last (A ++ B)

pub joined_kept : (b first last cap : ℕ) (lists more all sets : List (Vec Item Global)) →
    held all ≡ joined_to (length lists) (held lists) (held more) → held sets ≡ map set_of (held all) →
    HasRoom cap (held sets) → AreKept b first last cap (held lists) → AreKept b first last cap (held more) →
    AreKept b first last cap (held sets)
joined_kept b first last cap lists more all sets joined made room (own, (A, setA, ours)) (other, (B, setB, theirs)) = (
  room,
  (
    set_of (A ++ B),
    set_of_is_set (A ++ B),
    made ∙ joined_sets b first last A B lists more all joined ours theirs,
  ),
)

pub joined_many : (b first last cap : ℕ) (A B : List Item) (lists more all : List (Vec Item Global))
    (fault told : SplitFault) → held all ≡ joined_to (length lists) (held lists) (held more) →
    held lists ≡ span_shards b first last A → held more ≡ span_shards b first last B → first + length lists ≤ 4096 →
    IsFull cap (map set_of (held all)) fault →
    ((most : ℕ) (Xs : List (List Item)) → first + length Xs ≤ 4096 → IsFull most Xs fault →
    IsFullFrom first most Xs told) →
    IsFullFrom first cap (span_shards b first last (set_of (A ++ B))) told
joined_many b first last cap A B lists more all fault told joined ours theirs few full counted =
    let is : map set_of (held all) ≡ span_shards b first last (set_of (A ++ B)) =
    joined_sets b first last A B lists more all joined ours theirs in
    let many : length (span_shards b first last (set_of (A ++ B))) ≡ length lists =
    length-map-range_with_len (shard b (set_of (A ++ B))) first (last + 1 - first)
    ∙ sym (count b first last A B lists more all joined ours theirs) in
    counted cap (span_shards b first last (set_of (A ++ B))) (omega (arith, many))
    (subst (λ Z. IsFull cap Z fault) is full)

-- two lists of the same shards
kept_many : (b first last cap : ℕ) (vs : List (Vec Item Global)) → AreKept b first last cap (held vs) →
    length vs ≡ last + 1 - first
kept_many b first last cap vs (room, (A, set, is)) =
    sym (length-map vs listed) ∙ ap length is ∙ length-map-range_with_len (shard b A) first (last + 1 - first)

pub spans_same : (b first last cap : ℕ) (vs ws : List (Vec Item Global)) → AreKept b first last cap (held vs) →
    AreKept b first last cap (held ws) → length vs ≡ length ws
spans_same b first last cap vs ws ours theirs =
    kept_many b first last cap vs ours ∙ sym (kept_many b first last cap ws theirs)

pub spans_few : (b first last cap : ℕ) (vs : List (Vec Item Global)) → b ≤ 12 → first ≤ last → last < 2 ^ b →
    AreKept b first last cap (held vs) → first + length vs ≤ 4096
spans_few b first last cap vs low rises within ours =
    omega (arith, kept_many b first last cap vs ours, few b low)
