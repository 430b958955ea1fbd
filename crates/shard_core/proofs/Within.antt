-- Shards of the items of a set that are kept. Which shard an item has does not hang on what is kept, so two filters
-- change places; a filter keeps the order, and takes no item in, so what was a set with room stays one.
use Rattle.std.proofs.Common.{◌≡◌, ℕ, ◌+◌, ◌<◌, ◌≤◌, Bool, List, [], ◌∷◌, ◌++◌, length, map, get_or, set}
use Rattle.std.proofs.Common.{take, drop, refl, sym, ap, subst, ◌∙◌, arith}
use Rattle.std.specs.Prelude.{Vec, filter}
use Rattle.std.specs.declared.alloc.Global.{Global}
use Rattle.std.proofs.lemmas.List.{get_or-map, map-set}
use Rattle.std.proofs.lemmas.List.Edits.{map_over_more}
use Rattle.std.proofs.lemmas.List.Kept.{IsStrictlySortedBy-filter}
use Rattle.definitions.specs.Items.{Item, item_cmp}
use Rattle.shard_core.specs.Shards.{lies_in, shard}
use Rattle.shard_core.specs.Splits.{held, HasRoom}
use Rattle.shard_core.specs.Spans.{span, span_shards, AreKept}
use Rattle.shard_core.proofs.Joins.{listed}
use Rattle.shard_core.proofs.Lists.{map-every, map-map}

-- ---- one list after another

pub with_more : (f : List Item → List Item) (H : List (List Item)) (vs : List (Vec Item Global)) (i : ℕ)
    (v w : Vec Item Global) → i < length H → i < length vs → held vs ≡ map f (take i H) ++ drop i H → v ≡ get_or vs i v
    → w.items ≡ f (get_or vs i v).items → held (set vs i w) ≡ map f (take (i + 1) H) ++ drop (i + 1) H
with_more f H vs i v w inside there so_far at made =
    map-set listed vs i w ∙ ap (λ X. set (held vs) i X) (made ∙ ap f (ap listed (sym at)))
    ∙ map_over_more f H (held vs) i v.items inside so_far
    (ap listed at ∙ sym (get_or-map listed vs i v v.items there))

-- ---- filters

filters_change : {X : Type 0} (p q : X → Bool) (xs : List X) → filter p (filter q xs) ≡ filter q (filter p xs)
filters_change p q [] = refl
filters_change p q (x ∷ xs) = grind (arith, filters_change p q xs)

short_filter : {X : Type 0} (p : X → Bool) (xs : List X) → length (filter p xs) ≤ length xs
short_filter p [] = omega arith
short_filter p (x ∷ xs) = grind (arith, short_filter p xs)

-- ---- shards

pub shards_in : (b first last : ℕ) (A : List Item) (p : Item → Bool) →
    map (λ B. filter p B) (span_shards b first last A) ≡ span_shards b first last (filter p A)
shards_in b first last A p =
    map-map (λ B. filter p B) (shard b A) (span first last)
    ∙ map-every (λ s. filter p (shard b A s)) (shard b (filter p A))
    (λ s. filters_change p (lies_in b s) A) (span first last)

room_in : (most : ℕ) (p : Item → Bool) (Xs : List (List Item)) → HasRoom most Xs →
    HasRoom most (map (λ B. filter p B) Xs)
room_in most p [] room = room
room_in most p (B ∷ Bs) room = (omega (arith, short_filter p B, room.0), room_in most p Bs room.1)

pub kept_in : (b first last cap : ℕ) (p : Item → Bool) (Xs Ys : List (List Item)) → Ys ≡ map (λ B. filter p B) Xs
    → AreKept b first last cap Xs → AreKept b first last cap Ys
kept_in b first last cap p Xs Ys is (room, (A, rises, shards)) = (
  subst (HasRoom cap) (sym is) (room_in cap p Xs room),
  (
    filter p A,
    IsStrictlySortedBy-filter item_cmp p A rises,
    is ∙ ap (map (λ B. filter p B)) shards ∙ shards_in b first last A p,
  ),
)
