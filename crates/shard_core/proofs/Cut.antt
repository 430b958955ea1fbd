-- The shards of a set.
use Rattle.std.proofs.Common.{◌≡◌, ℕ, ◌≤◌, ◌^◌, Bool, ◌&&◌, ◌||◌, ◌==◌, List, [], ◌∷◌, map, refl, sym}
use Rattle.std.proofs.Common.{ap}
use Rattle.std.proofs.Common.{◌∙◌}
use Rattle.std.specs.Prelude.{filter, flat_map}
use Rattle.std.specs.List.{list_any}
use Rattle.std.proofs.lemmas.Bool.{eq-eqb}
use Rattle.std.proofs.lemmas.List.Folds.{list_any-append}
use Rattle.std.proofs.lemmas.List.Kept.{IsStrictlySortedBy-filter}
use Rattle.std.proofs.lemmas.Map.Views.{any-filter_same}
use Rattle.definitions.specs.Items.{Item, item_cmp, same_item}
use Rattle.definitions.specs.Sets.{IsSet, has, set_of}
use Rattle.definitions.proofs.Equality.{same_item-eq}
use Rattle.store_core.proofs.Made.{same_set, set_of_is_set, has_set_of}
use Rattle.shard_core.specs.Shards.{shard_number, lies_in, shard, shards, numbers}
use Rattle.shard_core.proofs.Numbers.{number_below}
use Rattle.shard_core.proofs.Lists.{and_or, in_range, map-every, map-map}

pub has_filter : (p : Item → Bool) (A : List Item) (x : Item) → has (filter p A) x ≡ (p x && has A x)
has_filter p A x = any-filter_same (same_item x) p (p x) (λ y e. ap p (sym (same_item-eq x y e))) A

pub has_shard : (b s : ℕ) (A : List Item) (x : Item) → has (shard b A s) x ≡ ((shard_number b x == s) && has A x)
has_shard b s A x = has_filter (lies_in b s) A x

pub in_own : (b : ℕ) (A : List Item) (x : Item) → has (shard b A (shard_number b x)) x ≡ has A x
in_own b A x = has_shard b (shard_number b x) A x
    ∙ ap (λ c. c && has A x) (eq-eqb (shard_number b x) (shard_number b x) refl)

pub set_shard : (b s : ℕ) (A : List Item) → IsSet A → IsSet (shard b A s)
set_shard b s A set = IsStrictlySortedBy-filter item_cmp (lies_in b s) A set

has_shards : (b : ℕ) (A : List Item) (x : Item) (ss : List ℕ) →
    has (flat_map (λ X. X) (map (shard b A) ss)) x ≡ (list_any (λ s. shard_number b x == s) ss && has A x)
has_shards b A x [] = refl
has_shards b A x (s ∷ ss) =
    let others : List Item = flat_map (λ X. X) (map (shard b A) ss) in
    list_any-append (same_item x) (shard b A s) others
    ∙ ap (λ c. c || has others x) (has_shard b s A x)
    ∙ ap (λ c. ((shard_number b x == s) && has A x) || c) (has_shards b A x ss)
    ∙ and_or (shard_number b x == s) (list_any (λ s. shard_number b x == s) ss) (has A x)

pub union_of_shards : (b : ℕ) (A : List Item) → b ≤ 12 → IsSet A → set_of (flat_map (λ X. X) (shards b A)) ≡ A
union_of_shards b A low set =
    let all : List Item = flat_map (λ X. X) (shards b A) in
    same_set (set_of all) A (set_of_is_set all) set (λ x. has_set_of all x ∙ has_shards b A x (numbers b)
    ∙ ap (λ c. c && has A x) (in_range (shard_number b x) (2 ^ b) (number_below b x low)))

-- the set of a shard's items is the shard of the set
pub set_of_shard : (b s : ℕ) (xs : List Item) → set_of (shard b xs s) ≡ shard b (set_of xs) s
set_of_shard b s xs =
    same_set (set_of (shard b xs s)) (shard b (set_of xs) s) (set_of_is_set (shard b xs s))
    (set_shard b s (set_of xs) (set_of_is_set xs))
    (λ x. has_set_of (shard b xs s) x ∙ has_shard b s xs x
    ∙ ap (λ c. (shard_number b x == s) && c) (sym (has_set_of xs x)) ∙ sym (has_shard b s (set_of xs) x))

pub sets_of_shards : (b : ℕ) (xs : List Item) → map set_of (shards b xs) ≡ shards b (set_of xs)
sets_of_shards b xs = map-map set_of (shard b xs) (numbers b)
    ∙ map-every (λ s. set_of (shard b xs s)) (shard b (set_of xs)) (λ s. set_of_shard b s xs) (numbers b)
