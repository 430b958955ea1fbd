-- What is said of each shard: the bytes that are written one by one, and that they are 0 for exactly the shards whose
-- entries in two directories are the same.
use Rattle.std.proofs.Common.{◌≡◌, ℕ, ◌+◌, ◌<◌, ◌^◌, Bool, true, false, not, ◌&&◌, ◌||◌, ◌==◌, ◌⊎◌, inl, inr, List, []}
use Rattle.std.proofs.Common.{◌∷◌, length, map, get_or, set, take, refl, sym, ap, ◌∙◌, arith}
use Rattle.std.specs.Prelude.{filter, is_some, if◌then◌else◌}
use Rattle.std.specs.List.{list_any}
use Rattle.std.proofs.lemmas.Bool.{cases_eq, eqb-true}
use Rattle.std.proofs.lemmas.List.{get_or-set_same, get_or-set_other, get_or-take}
use Rattle.std.proofs.lemmas.List.FromFn.{get_or-map-range_with_len}
use Rattle.std.proofs.lemmas.Map.Views.{any-filter_same}
use Rattle.definitions.specs.Items.{Item}
use Rattle.definitions.specs.Theorems.{KnowsDifference}
use Rattle.shard_core.specs.Shards.{numbers, directory, entries_differ}
use Rattle.shard_core.specs.Directories.{differing, unequal_numbers}
use Rattle.shard_core.specs.Choices.{is_unequal, is_lacked, differs}
use Rattle.shard_core.specs.declared.unequal.Unequal.{Unequal}
use Rattle.shard_core.proofs.Lists.{in_range}
use Rattle.rangesync_c.specs.ShardStates.{told_number}
use Rattle.rangesync_c.specs.SessionStates.{learned_in}
use Rattle.rangesync_c.specs.Meaning.{IfSession}
use Rattle.rangesync_c.specs.declared.held.Thing.{Thing}
use Rattle.rangesync_c.specs.declared.held.Thing.TheVariants as things

-- ---- one byte more

pub told_more : (us : List Unequal) (room new : List ℕ) (n v : ℕ) → n < length room → new ≡ set room n v →
    v ≡ told_number us n → ((k : ℕ) → k < n → get_or room k 0 ≡ told_number us k) → (k : ℕ) → k < n + 1 →
    get_or new k 0 ≡ told_number us k
told_more us room new n v inside put is before k low =
    ap (λ (r : List ℕ). get_or r k 0) put ∙ by_place (cases_eq k n) where
      by_place : (k ≡ n) ⊎ (k ≡ n → ⊥) → get_or (set room n v) k 0 ≡ told_number us k
      by_place (inl same) =
          ap (λ j. get_or (set room n v) j 0) same ∙ get_or-set_same room n v 0 inside ∙ is
          ∙ ap (told_number us) (sym same)
      by_place (inr apart) =
          get_or-set_other room n k v 0 apart ∙ before k (grind (arith, low, apart))

-- ---- 0 for the equal ones

either : (p q r s : Bool) → ((p || q) || (r || s)) ≡ ((p || r) || (q || s))
either true q r s = refl
either false true true s = refl
either false true false s = refl
either false false r s = refl

one_of : (c t : Bool) → ((c && t) || (c && not t)) ≡ c
one_of true true = refl
one_of true false = refl
one_of false t = refl

named : (us : List Unequal) (n : ℕ) → (list_any (is_unequal n) us || list_any (is_lacked n) us)
    ≡ list_any (λ k. k == n) (unequal_numbers us)
named [] n = refl
named (u ∷ us) n =
    either (is_unequal n u) (list_any (is_unequal n) us) (is_lacked n u) (list_any (is_lacked n) us)
    ∙ ap (λ c. c || (list_any (is_unequal n) us || list_any (is_lacked n) us))
    (one_of (u.number == n) (is_some u.theirs))
    ∙ ap (λ c. (u.number == n) || c) (named us n)

zero_if : (d l : Bool) → ((if d then 1 else (if not l then 0 else 2)) == 0) ≡ not (d || l)
zero_if true l = refl
zero_if false true = refl
zero_if false false = refl

pub said_equal : (us : List Unequal) (n : ℕ) →
    (told_number us n == 0) ≡ not (list_any (λ k. k == n) (unequal_numbers us))
said_equal us n = zero_if (differs us n) (list_any (is_lacked n) us) ∙ ap not (named us n)

turned : (n k : ℕ) → (k == n) ≡ (n == k)
turned n k = grind arith

turned_all : (n : ℕ) (ks : List ℕ) → list_any (λ k. k == n) ks ≡ list_any (λ k. n == k) ks
turned_all n [] = refl
turned_all n (k ∷ ks) =
    ap (λ c. c || list_any (λ j. j == n) ks) (turned n k) ∙ ap (λ c. (n == k) || c) (turned_all n ks)

and_true : (p : Bool) → (p && true) ≡ p
and_true true = refl
and_true false = refl

pub exactly : (b : ℕ) (us : List Unequal) (room : List ℕ) (A B : List Item) →
    take (2 ^ b) room ≡ map (told_number us) (numbers b) →
    unequal_numbers us ≡ filter (entries_differ b A B) (numbers b) → (n : ℕ) → n < 2 ^ b →
    (get_or room n 0 == 0) ≡ not (entries_differ b A B n)
exactly b us room A B said are n low =
    let here : get_or room n 0 ≡ told_number us n =
    sym (get_or-take (2 ^ b) room n 0 low) ∙ ap (λ (r : List ℕ). get_or r n 0) said
    ∙ get_or-map-range_with_len (told_number us) 0 (2 ^ b) n n 0 low (omega arith) in
    let found : list_any (λ k. n == k) (filter (entries_differ b A B) (numbers b)) ≡ entries_differ b A B n =
    any-filter_same (λ k. n == k) (entries_differ b A B) (entries_differ b A B n)
    (λ k same. ap (entries_differ b A B) (sym (eqb-true n k same))) (numbers b)
    ∙ ap (λ c. entries_differ b A B n && c) (in_range n (2 ^ b) low) ∙ and_true (entries_differ b A B n) in
    ap (λ k. k == 0) here ∙ said_equal us n
    ∙ ap not (turned_all n (unequal_numbers us) ∙ ap (λ ks. list_any (λ k. n == k) ks) are ∙ found)

-- ---- of a handle

pub exact_of : (t : Thing) (b : ℕ) (us : List Unequal) (room : List ℕ) →
    take (2 ^ b) room ≡ map (told_number us) (numbers b) →
    IfSession t (λ s. (A B : List Item) → KnowsDifference (learned_in s) (directory b A) (directory b B) →
    unequal_numbers us ≡ filter (entries_differ b A B) (numbers b)) →
    IfSession t (λ s. (A B : List Item) → KnowsDifference (learned_in s) (directory b A) (directory b B) →
    (n : ℕ) → n < 2 ^ b → (get_or room n 0 == 0) ≡ not (entries_differ b A B n))
exact_of (things.Session s) b us room said exact = λ A B knows n low. exactly b us room A B said (exact A B knows) n low
exact_of (things.Strategy x) b us room said exact = tt
exact_of (things.Set x) b us room said exact = tt
exact_of (things.Version x) b us room said exact = tt
exact_of (things.Shards x) b us room said exact = tt

pub told_of : (t : Thing) (b : ℕ) (us : List Unequal) (room : List ℕ) →
    take (2 ^ b) room ≡ map (told_number us) (numbers b) →
    IfSession t (λ s. us ≡ differing b (learned_in s).ours (learned_in s).theirs) →
    IfSession t (λ s. take (2 ^ b) room
    ≡ map (told_number (differing b (learned_in s).ours (learned_in s).theirs)) (numbers b))
told_of (things.Session s) b us room said is = said ∙ ap (λ vs. map (told_number vs) (numbers b)) is
told_of (things.Strategy x) b us room said is = tt
told_of (things.Set x) b us room said is = tt
told_of (things.Version x) b us room said is = tt
told_of (things.Shards x) b us room said is = tt
