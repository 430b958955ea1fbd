-- What was learned of the shards adds up.
use Rattle.std.proofs.Common.{◌≡◌, ℕ, ◌<◌, ◌≤◌, ◌^◌, Bool, true, false, not, ◌&&◌, ◌||◌, ◌==◌, List, [], ◌∷◌, Result}
use Rattle.std.proofs.Common.{Ok, Err}
use Rattle.std.proofs.Common.{refl, sym, ap, subst, ◌∙◌, inl, inr}
use Rattle.std.specs.Prelude.{flat_map, IfOk}
use Rattle.std.specs.Ordering.{eq_by_cmp}
use Rattle.std.specs.List.{AllByRecursion, IsDistinct}
use Rattle.std.proofs.lemmas.Bool.{false≢true, and_parts, or_cases}
use Rattle.std.proofs.lemmas.List.Folds.{list_any-append}
use Rattle.std.proofs.lemmas.List.Kept.{IsStrictlySortedBy-filter}
use Rattle.std.proofs.lemmas.Map.Keys.{IsDistinct-from_sorted}
use Rattle.std.proofs.lemmas.Map.Text.{is_eq-slice_cmp}
use Rattle.definitions.specs.Items.{Item, item_cmp, same_item}
use Rattle.definitions.specs.Sets.{IsSet, has, set_of, difference}
use Rattle.definitions.specs.Theorems.{KnowsDifference, KnowsNothingWrong, ListsSome}
use Rattle.definitions.proofs.Lists.{All-map}
use Rattle.store_core.proofs.Made.{same_set, set_of_is_set, has_set_of}
use Rattle.shard_core.specs.declared.part.ShardPart.{ShardPart}
use Rattle.shard_core.specs.declared.part.Merged.{Merged}
use Rattle.shard_core.specs.Shards.{shard_number, shard, entries_differ}
use Rattle.shard_core.specs.Parts.{ours_of, theirs_of, knowledge_of, merged_knowledge, is_asked, asked_of, KnowsShards}
use Rattle.shard_core.specs.Parts.{KnowsNoWrong, NoClash, Covers}
use Rattle.shard_core.proofs.Numbers.{number_below}
use Rattle.shard_core.proofs.Lists.{and_or}
use Rattle.shard_core.proofs.Cut.{has_filter, has_shard, in_own}

-- ---- the difference of two sets, shard by shard

has_difference : (A B : List Item) (x : Item) → has (difference A B) x ≡ (not (has B x) && has A x)
has_difference A B x = has_filter (λ y. not (has B y)) A x

both_inside : (l h k : Bool) → (not (l && k) && (l && h)) ≡ (l && (not k && h))
both_inside true h k = refl
both_inside false h k = refl

shard_differs : (b : ℕ) (A B : List Item) (s : ℕ) (x : Item) →
    has (difference (shard b A s) (shard b B s)) x ≡ ((shard_number b x == s) && has (difference A B) x)
shard_differs b A B s x =
    let inside : Bool = shard_number b x == s in
    has_difference (shard b A s) (shard b B s) x
    ∙ ap (λ c. not c && has (shard b A s) x) (has_shard b s B x)
    ∙ ap (λ c. not (inside && has B x) && c) (has_shard b s A x)
    ∙ both_inside inside (has A x) (has B x)
    ∙ ap (λ c. inside && c) (sym (has_difference A B x))

set_difference : (A B : List Item) → IsSet A → IsSet (difference A B)
set_difference A B set = IsStrictlySortedBy-filter item_cmp (λ y. not (has B y)) A set

-- ---- lists of parts: f gives one of the two lists of a part, and D is the difference that it belongs to

-- the part has what D has in its shard
abbrev HasOwn : ℕ → (ShardPart → List Item) → List Item → ShardPart → Type 0
HasOwn b f D p = (x : Item) → has (f p) x ≡ ((shard_number b x == p.number) && has D x)

has_parts : (b : ℕ) (f : ShardPart → List Item) (D : List Item) (ps : List ShardPart) →
    AllByRecursion (HasOwn b f D) ps → (x : Item) →
    has (flat_map f ps) x ≡ (is_asked ps (shard_number b x) && has D x)
has_parts b f D [] each x = refl
has_parts b f D (p ∷ ps) each x = list_any-append (same_item x) (f p) (flat_map f ps)
    ∙ ap (λ c. c || has (flat_map f ps) x) (each.0 x)
    ∙ ap (λ c. ((shard_number b x == p.number) && has D x) || c) (has_parts b f D ps each.1 x)
    ∙ and_or (shard_number b x == p.number) (is_asked ps (shard_number b x)) (has D x)

asked_parts : (b : ℕ) (f : ShardPart → List Item) (D : List Item) (ps : List ShardPart) → IsSet D →
    AllByRecursion (HasOwn b f D) ps → set_of (flat_map f ps) ≡ asked_of b ps D
asked_parts b f D ps set each =
    let all : List Item = flat_map f ps in
    same_set (set_of all) (asked_of b ps D) (set_of_is_set all)
    (IsStrictlySortedBy-filter item_cmp (λ x. is_asked ps (shard_number b x)) D set)
    (λ x. has_set_of all x ∙ has_parts b f D ps each x ∙ sym (has_filter (λ y. is_asked ps (shard_number b y)) D x))

pub asked_ours : (b : ℕ) (A B : List Item) (ps : List ShardPart) → IsSet A → KnowsShards b A B ps →
    set_of (flat_map ours_of ps) ≡ asked_of b ps (difference A B)
asked_ours b A B ps set knows = asked_parts b ours_of (difference A B) ps (set_difference A B set)
    (All-map (λ p. KnowsDifference (knowledge_of p) (shard b A p.number) (shard b B p.number))
    (HasOwn b ours_of (difference A B)) (λ p k x. k.ours.same x ∙ shard_differs b A B p.number x) ps knows)

pub asked_theirs : (b : ℕ) (A B : List Item) (ps : List ShardPart) → IsSet B → KnowsShards b A B ps →
    set_of (flat_map theirs_of ps) ≡ asked_of b ps (difference B A)
asked_theirs b A B ps set knows = asked_parts b theirs_of (difference B A) ps (set_difference B A set)
    (All-map (λ p. KnowsDifference (knowledge_of p) (shard b A p.number) (shard b B p.number))
    (HasOwn b theirs_of (difference B A)) (λ p k x. k.theirs.same x ∙ shard_differs b B A p.number x) ps knows)

-- ---- where all shards that differ were asked

only_asked : (a d : Bool) → (d ≡ true → a ≡ true) → (a && d) ≡ d
only_asked true d h = refl
only_asked false true h = h refl
only_asked false false h = refl

apart_of : (a b : Bool) → (not b && a) ≡ true → a ≡ b → ⊥
apart_of a true e same = false≢true e
apart_of true false e same = false≢true (sym same)
apart_of false false e same = false≢true e

-- an item that one of the two sets has is in a shard that was asked
differs_asked : (b : ℕ) (A B : List Item) (ps : List ShardPart) → b ≤ 12 → NoClash b A B → Covers b A B ps →
    (x : Item) → (has A x ≡ has B x → ⊥) → is_asked ps (shard_number b x) ≡ true
differs_asked b A B ps low clash covers x apart =
    let s : ℕ = shard_number b x in
    let below : s < 2 ^ b = number_below b x low in
    let either : (c : Bool) → entries_differ b A B s ≡ c → is_asked ps s ≡ true = elim [
      | true ↦ λ e. covers s below e
      | false ↦ λ e. absurd (apart (sym (in_own b A x) ∙ ap (λ X. has X x) (clash s below e) ∙ in_own b B x))
    ] in
    either (entries_differ b A B s) refl

all_asked : (b : ℕ) (D : List Item) (ps : List ShardPart) → IsSet D →
    ((x : Item) → has D x ≡ true → is_asked ps (shard_number b x) ≡ true) → asked_of b ps D ≡ D
all_asked b D ps set asked =
    same_set (asked_of b ps D) D (IsStrictlySortedBy-filter item_cmp (λ x. is_asked ps (shard_number b x)) D set) set
    (λ x. has_filter (λ y. is_asked ps (shard_number b y)) D x
    ∙ only_asked (is_asked ps (shard_number b x)) (has D x) (asked x))

pub all_ours : (b : ℕ) (A B : List Item) (ps : List ShardPart) → b ≤ 12 → IsSet A → KnowsShards b A B ps →
    NoClash b A B → Covers b A B ps → set_of (flat_map ours_of ps) ≡ difference A B
all_ours b A B ps low set knows clash covers = asked_ours b A B ps set knows
    ∙ all_asked b (difference A B) ps (set_difference A B set) (λ x there. differs_asked b A B ps low clash covers x
    (apart_of (has A x) (has B x) (sym (has_difference A B x) ∙ there)))

pub all_theirs : (b : ℕ) (A B : List Item) (ps : List ShardPart) → b ≤ 12 → IsSet B → KnowsShards b A B ps →
    NoClash b A B → Covers b A B ps → set_of (flat_map theirs_of ps) ≡ difference B A
all_theirs b A B ps low set knows clash covers = asked_theirs b A B ps set knows
    ∙ all_asked b (difference B A) ps (set_difference B A set) (λ x there. differs_asked b A B ps low clash covers x
    (λ same. apart_of (has B x) (has A x) (sym (has_difference B A x) ∙ there) (sym same)))

-- ---- nothing wrong

some_parts : (f : ShardPart → List Item) (D : List Item) (ps : List ShardPart) →
    AllByRecursion (λ p. (x : Item) → has (f p) x ≡ true → has D x ≡ true) ps → (x : Item) →
    has (flat_map f ps) x ≡ true → has D x ≡ true
some_parts f D [] each x e = absurd (false≢true e)
some_parts f D (p ∷ ps) each x e =
    let either = or_cases (has (f p) x) (has (flat_map f ps) x)
    (sym (list_any-append (same_item x) (f p) (flat_map f ps)) ∙ e) in
    elim either [
      | inl here ↦ each.0 x here
      | inr later ↦ some_parts f D ps each.1 x later
    ]

distinct_set : (A : List Item) → IsSet A → IsDistinct same_item A
distinct_set A set =
    let path : eq_by_cmp item_cmp ≡ same_item = λ i x y. is_eq-slice_cmp x y i in
    subst (λ (e : Item → Item → Bool). IsDistinct e A) path (IsDistinct-from_sorted item_cmp A set)

lists_some : (f : ShardPart → List Item) (D : List Item) (ps : List ShardPart) →
    AllByRecursion (λ p. (x : Item) → has (f p) x ≡ true → has D x ≡ true) ps → ListsSome (set_of (flat_map f ps)) D
lists_some f D ps each =
    let all : List Item = flat_map f ps in
    record {
      once = distinct_set (set_of all) (set_of_is_set all);
      among = λ x there. some_parts f D ps each x (sym (has_set_of all x) ∙ there);
    }

from_shard : (b : ℕ) (A B : List Item) (s : ℕ) (x : Item) → has (difference (shard b A s) (shard b B s)) x ≡ true →
    has (difference A B) x ≡ true
from_shard b A B s x there =
    (and_parts (shard_number b x == s) (has (difference A B) x) (sym (shard_differs b A B s x) ∙ there)).1

-- where what each part lists is some of its shard's own difference
some_of : (f : ShardPart → List Item) (b : ℕ) (A B C D : List Item) (ps : List ShardPart) → KnowsNoWrong b A B ps →
    ((p : ShardPart) → KnowsNothingWrong (knowledge_of p) (shard b A p.number) (shard b B p.number) → (x : Item) →
    has (f p) x ≡ true → has (difference (shard b C p.number) (shard b D p.number)) x ≡ true) →
    ListsSome (set_of (flat_map f ps)) (difference C D)
some_of f b A B C D ps knows own = lists_some f (difference C D) ps
    (All-map (λ p. KnowsNothingWrong (knowledge_of p) (shard b A p.number) (shard b B p.number))
    (λ p. (x : Item) → has (f p) x ≡ true → has (difference C D) x ≡ true)
    (λ p k x there. from_shard b C D p.number x (own p k x there)) ps knows)

-- ---- of a result

module _ (ps : List ShardPart) where
  -- what holds wherever both sides are what the parts list
  abbrev pub Holds : (E : Type 0) → (Merged → Type 0) → Type 0
  Holds E Q = (r : Result Merged E) → IfOk r (λ m. m.ours.items ≡ set_of (flat_map ours_of ps)) →
      IfOk r (λ m. m.theirs.items ≡ set_of (flat_map theirs_of ps)) → IfOk r Q

  pub rises_in : {E : Type 0} → Holds E (λ m. IsSet m.ours.items × IsSet m.theirs.items)
  rises_in (Err e) ours theirs = tt
  rises_in (Ok m) ours theirs = (
    subst (λ A. IsSet A) (sym ours) (set_of_is_set (flat_map ours_of ps)),
    subst (λ A. IsSet A) (sym theirs) (set_of_is_set (flat_map theirs_of ps)),
  )

  pub nothing_wrong_in : {E : Type 0} → Holds E (λ m. (b : ℕ) (A B : List Item) → KnowsNoWrong b A B ps →
      KnowsNothingWrong (merged_knowledge m) A B)
  nothing_wrong_in (Err e) ours theirs = tt
  nothing_wrong_in (Ok m) ours theirs = λ b A B knows. record {
    ours = subst (λ xs. ListsSome xs (difference A B)) (sym ours)
        (some_of ours_of b A B A B ps knows (λ p k. k.ours.among));
    theirs = subst (λ xs. ListsSome xs (difference B A)) (sym theirs)
        (some_of theirs_of b A B B A ps knows (λ p k. k.theirs.among));
  }

  pub asked_in : {E : Type 0} → Holds E (λ m. (b : ℕ) (A B : List Item) → IsSet A → IsSet B →
      KnowsShards b A B ps →
      (m.ours.items ≡ asked_of b ps (difference A B)) × (m.theirs.items ≡ asked_of b ps (difference B A)))
  asked_in (Err e) ours theirs = tt
  asked_in (Ok m) ours theirs = λ b A B left right knows.
      (ours ∙ asked_ours b A B ps left knows, theirs ∙ asked_theirs b A B ps right knows)

  pub adds_up_in : {E : Type 0} → Holds E (λ m. (b : ℕ) (A B : List Item) → b ≤ 12 → IsSet A → IsSet B →
      KnowsShards b A B ps → NoClash b A B → Covers b A B ps →
      (m.ours.items ≡ difference A B) × (m.theirs.items ≡ difference B A))
  adds_up_in (Err e) ours theirs = tt
  adds_up_in (Ok m) ours theirs = λ b A B low left right knows clash covers. (
    ours ∙ all_ours b A B ps low left knows clash covers,
    theirs ∙ all_theirs b A B ps low right knows clash covers,
  )
