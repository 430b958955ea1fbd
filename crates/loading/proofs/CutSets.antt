-- A set is cut to what a floor keeps of it: so are both and the union of both.
use Rattle.std.proofs.Common.{◌≡◌, ◌∙◌, ℕ, Bool, true, false, ◌||◌, List, [], ◌∷◌, ◌++◌, refl, sym, ap}
use Rattle.std.specs.Prelude.{◌&&◌}
use Rattle.std.specs.List.Sorted.{IsStrictlySortedBy}
use Rattle.std.proofs.lemmas.List.Kept.{IsStrictlySortedBy-filter}
use Rattle.std.proofs.lemmas.Map.Views.{any-filter_same}
use Rattle.std.proofs.lemmas.Slice.Eq.{bytes_eq-Decides}
use Rattle.definitions.specs.Items.{Item, item_cmp, same_item}
use Rattle.definitions.specs.Sets.{IsSet, has, set_of}
use Rattle.store_core.proofs.Made.{same_set, set_of_is_set, has_set_of}
use Rattle.shard_core.specs.Floors.{keeps, kept_by}
use Rattle.shard_core.specs.Spans.{span_shards}
use Rattle.shard_core.specs.declared.floor.Floor.{Floor}
use Rattle.loading.specs.Cutting.{IsCutTo, AreCutTo}

pub set_kept : (f : Floor) (A : List Item) → IsSet A → IsSet (kept_by f A)
set_kept f A set = IsStrictlySortedBy-filter item_cmp (keeps f) A set

none_is_set : IsSet []
unfolding IsStrictlySortedBy
none_is_set = tt

pub cut_none : (f : Floor) → IsCutTo f []
cut_none f = ([], none_is_set, refl)

has_kept : (f : Floor) (A : List Item) (q : Item) → has (kept_by f A) q ≡ (keeps f q && has A q)
has_kept f A q = any-filter_same (same_item q) (keeps f) (keeps f q)
    (λ x same. ap (keeps f) (sym ((bytes_eq-Decides q x).0 same))) A

or_join : (a b c : Bool) → (a || b) || c ≡ a || (b || c)
or_join true b c = refl
or_join false b c = refl

has_append : (A B : List Item) (q : Item) → has (A ++ B) q ≡ has A q || has B q
has_append [] B q = refl
has_append (x ∷ A) B q = ap (λ b. same_item q x || b) (has_append A B q)
    ∙ sym (or_join (same_item q x) (has A q) (has B q))

and_both : (a b c : Bool) → (a && b) || (a && c) ≡ (a && (b || c))
and_both true b c = refl
and_both false b c = refl

kept_union : (f : Floor) (A B : List Item) → set_of (kept_by f A ++ kept_by f B) ≡ kept_by f (set_of (A ++ B))
kept_union f A B = same_set (set_of (kept_by f A ++ kept_by f B)) (kept_by f (set_of (A ++ B)))
    (set_of_is_set (kept_by f A ++ kept_by f B)) (set_kept f (set_of (A ++ B)) (set_of_is_set (A ++ B)))
    (λ q. has_set_of (kept_by f A ++ kept_by f B) q ∙ has_append (kept_by f A) (kept_by f B) q
    ∙ ap (λ b. b || has (kept_by f B) q) (has_kept f A q) ∙ ap (λ b. (keeps f q && has A q) || b) (has_kept f B q)
    ∙ and_both (keeps f q) (has A q) (has B q)
    ∙ ap (λ b. keeps f q && b) (sym (has_set_of (A ++ B) q ∙ has_append A B q))
    ∙ sym (has_kept f (set_of (A ++ B)) q))

pub cut_union : (f : Floor) (X Y : List Item) → IsCutTo f X → IsCutTo f Y → IsCutTo f (set_of (X ++ Y))
cut_union f X Y (A, a, is) (B, b, are) = (
  set_of (A ++ B),
  set_of_is_set (A ++ B),
  ap (λ Z. set_of (Z ++ Y)) is ∙ ap (λ Z. set_of (kept_by f A ++ Z)) are ∙ kept_union f A B,
)

-- shards that are joined are those of the union
pub cut_shards : (f : Floor) (b first last : ℕ) (Xs Ys Zs : List (List Item)) → AreCutTo f b first last Xs →
    AreCutTo f b first last Ys →
    ((A B : List Item) → Xs ≡ span_shards b first last A → Ys ≡ span_shards b first last B →
    Zs ≡ span_shards b first last (set_of (A ++ B))) → AreCutTo f b first last Zs
cut_shards f b first last Xs Ys Zs (A, a, is) (B, d, are) joined = (
  set_of (A ++ B),
  set_of_is_set (A ++ B),
  joined (kept_by f A) (kept_by f B) is are ∙ ap (span_shards b first last) (kept_union f A B),
)
