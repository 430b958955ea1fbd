-- Where an item of a set stands, and the set with one more.
use Rattle.std.proofs.Common.{◌≡◌, ℕ, zero, suc, Bool, true, false, List, [], ◌∷◌, ◌++◌, take, drop, Option, Some, None}
use Rattle.std.proofs.Common.{refl, sym, ap, ◌∙◌, arith, length, Bor}
use Rattle.std.specs.Option.{option_copied}
use Rattle.std.specs.Slice.{IsItemAt}
use Rattle.std.proofs.lemmas.Option.{slice_get_past, slice_get_read}
use Rattle.std.specs.List.{AllByRecursion, slice_get}
use Rattle.std.specs.List.Sorted.{IsStrictlySortedBy}
use Rattle.std.specs.Ordering.{is_lt, is_eq, match_ordering}
use Rattle.std.specs.declared.cmp.Ordering.{Ordering}
use Rattle.std.specs.declared.cmp.Ordering.TheVariants.{Less, Equal, Greater}
use Rattle.std.proofs.lemmas.Cmp.{nat_list_cmp_total}
use Rattle.std.proofs.lemmas.Map.Keys.{sorted_head, sorted_tail}
use Rattle.std.proofs.lemmas.Map.Text.{is_eq-slice_cmp}
use Rattle.definitions.specs.Items.{Item, item_cmp, comes_before, same_item}
use Rattle.definitions.specs.Sets.{IsSet, has, add_item}
use Rattle.definitions.proofs.Partitions.{PassFirst, later, less_of}

differs_below : (x y : Item) → item_cmp x y ≡ Less → same_item x y ≡ false
differs_below x y e = sym (is_eq-slice_cmp x y) ∙ ap is_eq e

differs_above : (x y : Item) → item_cmp x y ≡ Greater → same_item x y ≡ false
differs_above x y e = sym (is_eq-slice_cmp x y) ∙ ap is_eq e

is_same : (x y : Item) → item_cmp x y ≡ Equal → same_item x y ≡ true
is_same x y e = sym (is_eq-slice_cmp x y) ∙ ap is_eq e

above : (x y : Item) → item_cmp x y ≡ Less → item_cmp y x ≡ Greater
above x y e = rw (nat_list_cmp_total.antisymm y x, e) refl

below : (x y : Item) → item_cmp x y ≡ Greater → item_cmp y x ≡ Less
below x y e = rw (nat_list_cmp_total.antisymm y x, e) refl

all_above : (x y : Item) (ys : List Item) → item_cmp x y ≡ Less → AllByRecursion (λ z. item_cmp y z ≡ Less) ys →
    AllByRecursion (λ z. item_cmp x z ≡ Less) ys
all_above x y [] less rise = tt
all_above x y (z ∷ zs) less rise = (nat_list_cmp_total.trans x y z less rise.0, all_above x y zs less rise.1)

lacks : (x : Item) (ys : List Item) → AllByRecursion (λ z. item_cmp x z ≡ Less) ys → has ys x ≡ false
lacks x [] rise = refl
lacks x (y ∷ ys) rise = rw (differs_below x y rise.0) (lacks x ys rise.1)

-- whether there is an item, and it is x
abbrev pub is_item : Option Item → Item → Bool
is_item None x = false
is_item (Some y) x = same_item x y

has_first : (x y : Item) (ys : List Item) → comes_before y x ≡ false → AllByRecursion (λ z. item_cmp y z ≡ Less) ys →
    (o : Ordering) → item_cmp x y ≡ o → has (y ∷ ys) x ≡ same_item x y
has_first x y ys late rise Less e = rw (differs_below x y e) (lacks x ys (all_above x y ys e rise))
has_first x y ys late rise Equal e = rw (is_same x y e) refl
has_first x y ys late rise Greater e = let early : comes_before y x ≡ true = ap is_lt (below x y e) in absurd (cc)

-- a set has x where x stands at its place
pub has_at : (A : List Item) (x : Item) (i : ℕ) → IsSet A → PassFirst (λ z. comes_before z x) A i →
    has A x ≡ is_item (slice_get A i) x
has_at [] x i set parted = refl
has_at (y ∷ ys) x zero set parted =
    has_first x y ys (parted.1 zero x (omega arith) (omega arith)) (sorted_head item_cmp y ys set) (item_cmp x y) refl
has_at (y ∷ ys) x (suc i) set parted =
    let late : item_cmp x y ≡ Greater = above y x (less_of _ (parted.0 zero x (omega arith) (omega arith))) in
    rw (differs_above x y late)
    (has_at ys x i (sorted_tail item_cmp y ys set) (later (λ z. comes_before z x) y ys i parted))

put_first : (x y : Item) (ys : List Item) → comes_before y x ≡ false → has (y ∷ ys) x ≡ false → (o : Ordering) →
    item_cmp x y ≡ o → add_item (y ∷ ys) x ≡ x ∷ y ∷ ys
put_first x y ys late absent Less e = rw e refl
put_first x y ys late absent Equal e = let present : has (y ∷ ys) x ≡ true = rw (is_same x y e) refl in absurd (cc)
put_first x y ys late absent Greater e = let early : comes_before y x ≡ true = ap is_lt (below x y e) in absurd (cc)

lacks_later : (x y : Item) (ys : List Item) → item_cmp x y ≡ Greater → has (y ∷ ys) x ≡ false → has ys x ≡ false
lacks_later x y ys e absent = rw (differs_above x y e) at absent

-- a new item goes to its place
pub put_at : (A : List Item) (x : Item) (i : ℕ) → PassFirst (λ z. comes_before z x) A i → has A x ≡ false →
    add_item A x ≡ take i A ++ x ∷ drop i A
put_at [] x zero parted absent = refl
put_at [] x (suc i) parted absent = refl
put_at (y ∷ ys) x zero parted absent =
    put_first x y ys (parted.1 zero x (omega arith) (omega arith)) absent (item_cmp x y) refl
put_at (y ∷ ys) x (suc i) parted absent =
    let late : item_cmp x y ≡ Greater = above y x (less_of _ (parted.0 zero x (omega arith) (omega arith))) in
    rw late
    (ap (λ zs. y ∷ zs) (put_at ys x i (later (λ z. comes_before z x) y ys i parted) (lacks_later x y ys late absent)))

-- ---- what holds of each item, and the order, with one more

all_put : (P : Item → Type 0) (x y : Item) (ys : List Item) (o : Ordering) → P x → P y → AllByRecursion P ys →
    AllByRecursion P (add_item ys x) → AllByRecursion P (match_ordering o (x ∷ y ∷ ys) (y ∷ ys) (y ∷ add_item ys x))
all_put P x y ys Less px py pys rest = (px, (py, pys))
all_put P x y ys Equal px py pys rest = (py, pys)
all_put P x y ys Greater px py pys rest = (py, rest)

pub all_add : (P : Item → Type 0) (A : List Item) (x : Item) → AllByRecursion P A → P x →
    AllByRecursion P (add_item A x)
all_add P [] x all one = (one, tt)
all_add P (y ∷ ys) x all one = all_put P x y ys (item_cmp x y) one all.0 all.1 (all_add P ys x all.1 one)

set_put : (x y : Item) (ys : List Item) (o : Ordering) → item_cmp x y ≡ o → IsSet (y ∷ ys) → IsSet (add_item ys x) →
    IsSet (match_ordering o (x ∷ y ∷ ys) (y ∷ ys) (y ∷ add_item ys x))
unfolding IsStrictlySortedBy
set_put x y ys Less e set rest = ((e, all_above x y ys e set.0), set)
set_put x y ys Equal e set rest = set
set_put x y ys Greater e set rest = (all_add (λ z. item_cmp y z ≡ Less) ys x set.0 (below x y e), rest)

pub set_add : (A : List Item) (x : Item) → IsSet A → IsSet (add_item A x)
unfolding IsStrictlySortedBy
set_add [] x set = (tt, tt)
set_add (y ∷ ys) x set = set_put x y ys (item_cmp x y) refl set (set_add ys x (sorted_tail item_cmp y ys set))

-- ---- what stands at the place of an item, as `get` gives it

copied_is : (A : List Item) (i : ℕ) (r : Option (Bor Item)) → IsItemAt A i r → option_copied r ≡ slice_get A i
copied_is A i None at = sym (slice_get_past A i at.3)
copied_is A i (Some x) at = sym (slice_get_read A (length A) i x.now refl at.3.0 at.1)

module _ (A : List Item) (x : Item) (i : ℕ) (set : IsSet A) (parted : PassFirst (λ z. comes_before z x) A i)
    (r : Option (Bor Item)) (at : IsItemAt A i r) where
  pub has_got : has A x ≡ is_item (option_copied r) x
  has_got = has_at A x i set parted ∙ ap (λ o. is_item o x) (sym (copied_is A i r at))

  pub put_there : is_item (option_copied r) x ≡ false → add_item A x ≡ take i A ++ x ∷ drop i A
  put_there other = put_at A x i parted (has_got ∙ other)
