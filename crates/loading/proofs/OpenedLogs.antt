-- The logs of shards that follow one another.
use Rattle.std.proofs.Common.{◌≡◌, ℕ, zero, suc, ◌+◌, ◌-◌, ◌≤◌, Bool, true, false, List, [], ◌∷◌, ◌++◌, length, map}
use Rattle.std.proofs.Common.{take, drop, fold, refl, sym, ap, subst, ◌∙◌}
use Rattle.std.specs.Prelude.{if◌then◌else◌, Vec}
use Rattle.std.specs.List.{range_with_len}
use Rattle.std.specs.declared.alloc.Global.{Global}
use Rattle.std.proofs.lemmas.List.{length-map, take-map}
use Rattle.std.proofs.lemmas.List.FromFn.{length-map-range_with_len}
use Rattle.definitions.specs.Items.{Item}
use Rattle.definitions.specs.Sets.{IsSet, has, add_item, union, set_of}
use Rattle.definitions.specs.Histories.{History, content, items_of, opening_history, with_item}
use Rattle.definitions.proofs.Lemmas.{fold-append, map-append}
use Rattle.store_core.proofs.Made.{add_again, has_set_of, same_set, set_of_is_set}
use Rattle.shard_core.specs.Shards.{shard}
use Rattle.shard_core.specs.declared.shard_sum.ShardSum.{ShardSum}
use Rattle.shard_core.specs.Directories.{sum_of, entries_from}
use Rattle.shard_core.specs.Splits.{held, HasRoom}
use Rattle.shard_core.specs.Spans.{span_shards, AreKept}
use Rattle.version_log.specs.Logs.{opened}
use Rattle.loading.specs.Sharded.{AreSets, opened_all, HaveCap, contents}

abbrev Sets : Type 0
Sets = List (List Item)

-- ---- two parts

sets_front : (cap n : ℕ) (Xs : Sets) → AreSets cap Xs → AreSets cap (take n Xs)
sets_front cap zero Xs all = tt
sets_front cap (suc n) [] all = tt
sets_front cap (suc n) (X ∷ Xs) (set, few, others) = (set, few, sets_front cap n Xs others)

sets_back : (cap n : ℕ) (Xs : Sets) → AreSets cap Xs → AreSets cap (drop n Xs)
sets_back cap zero Xs all = all
sets_back cap (suc n) [] all = tt
sets_back cap (suc n) (X ∷ Xs) (set, few, others) = sets_back cap n Xs others

abbrev pub listed : Vec Item Global → List Item
listed v = v.items

map_drop : {X Y : Type 0} (f : X → Y) (n : ℕ) (xs : List X) → map f (drop n xs) ≡ drop n (map f xs)
map_drop f zero xs = refl
map_drop f (suc n) [] = refl
map_drop f (suc n) (x ∷ xs) = map_drop f n xs

opened_parts : (cap n : ℕ) (Xs : Sets) → opened_all cap (take n Xs) ++ opened_all cap (drop n Xs) ≡ opened_all cap Xs
opened_parts cap zero Xs = refl
opened_parts cap (suc n) [] = refl
opened_parts cap (suc n) (X ∷ Xs) = ap (λ ls. opened cap X 1 ∷ ls) (opened_parts cap n Xs)

module _ (lists front back : List (Vec Item Global)) (n : ℕ) (first_is : front ≡ take n lists)
    (others : back ≡ drop n lists) where
  held_front : held front ≡ take n (held lists)
  held_front = ap held first_is ∙ sym (take-map listed n lists)

  held_back : held back ≡ drop n (held lists)
  held_back = ap held others ∙ map_drop listed n lists

  pub cut_sets : (cap : ℕ) → AreSets cap (held lists) → AreSets cap (held front) × AreSets cap (held back)
  cut_sets cap all = (
    subst (λ Z. AreSets cap Z) (sym held_front) (sets_front cap n (held lists) all),
    subst (λ Z. AreSets cap Z) (sym held_back) (sets_back cap n (held lists) all),
  )

  pub cut_opened : (cap : ℕ) → opened_all cap (held front) ++ opened_all cap (held back) ≡ opened_all cap (held lists)
  cut_opened cap = (λ i. opened_all cap (held_front i) ++ opened_all cap (held_back i))
      ∙ opened_parts cap n (held lists)

-- ---- the shards of a set

module _ (sets : (b s : ℕ) (A : List Item) → IsSet A → IsSet (shard b A s)) where
  sets_from : (b cap : ℕ) (A : List Item) → IsSet A → (s n : ℕ) → HasRoom cap (map (shard b A) (range_with_len s n)) →
      AreSets cap (map (shard b A) (range_with_len s n))
  sets_from b cap A set s zero room = tt
  sets_from b cap A set s (suc n) (few, others) = (sets b s A set, few, sets_from b cap A set (s + 1) n others)

  pub are_sets : (b first last cap : ℕ) (Xs : Sets) → AreKept b first last cap Xs → AreSets cap Xs
  are_sets b first last cap Xs (room, (A, set, is)) =
      subst (λ Z. AreSets cap Z) (sym is)
      (sets_from b cap A set first (last + 1 - first) (subst (λ Z. HasRoom cap Z) is room))

pub how_many : (b first last cap : ℕ) (Xs : Sets) → AreKept b first last cap Xs → length Xs ≡ last + 1 - first
how_many b first last cap Xs (room, (A, set, is)) =
    ap length is ∙ length-map-range_with_len (shard b A) first (last + 1 - first)

pub have_cap : (cap : ℕ) (Xs : Sets) → HaveCap cap (opened_all cap Xs)
have_cap cap [] = tt
have_cap cap (X ∷ Xs) = (refl, have_cap cap Xs)

pub opened_many : (cap : ℕ) (Xs : Sets) → length (opened_all cap Xs) ≡ length Xs
opened_many cap Xs = length-map Xs (λ X. opened cap X 1)

-- ---- what a log of a set opens with

content_push : (h : History) (x : Item) → content (h ++ (0, x) ∷ []) ≡ add_item (content h) x
content_push h x =
    ap set_of (map-append (λ (e : ℕ × Item). e.1) h ((0, x) ∷ [])) ∙ fold-append add_item [] (items_of h) (x ∷ [])

content_by : (h : History) (x : Item) (b : Bool) → has (items_of h) x ≡ b →
    content (if b then h else h ++ (0, x) ∷ []) ≡ add_item (content h) x
content_by h x true e = sym (add_again (content h) x (set_of_is_set (items_of h)) (has_set_of (items_of h) x ∙ e))
content_by h x false e = content_push h x

content_after : (h : History) (xs : List Item) → content (fold with_item h xs) ≡ union (content h) xs
content_after h [] = refl
content_after h (x ∷ xs) =
    content_after (with_item h x) xs ∙ ap (λ A. union A xs) (content_by h x (has (items_of h) x) refl)

pub content_opened : (A : List Item) → IsSet A → content (opening_history A) ≡ A
content_opened A set = content_after [] A ∙ same_set (set_of A) A (set_of_is_set A) set (has_set_of A)

pub contents_opened : (cap : ℕ) (Xs : Sets) → AreSets cap Xs → contents (opened_all cap Xs) ≡ Xs
contents_opened cap [] all = refl
contents_opened cap (X ∷ Xs) (set, few, others) =
    λ i. content_opened X set i ∷ contents_opened cap Xs others i

-- ---- entries

pub sums_are : (b : ℕ) (A : List Item) (ss : List ℕ) →
    map sum_of (map (shard b A) ss) ≡ map (λ s. sum_of (shard b A s)) ss
sums_are b A [] = refl
sums_are b A (s ∷ ss) = ap (λ ws. sum_of (shard b A s) ∷ ws) (sums_are b A ss)

pub entries_many : (s : ℕ) (ws : List ShardSum) → length (entries_from s ws) ≡ length ws
entries_many s [] = refl
entries_many s (w ∷ ws) = ap suc (entries_many (s + 1) ws)
