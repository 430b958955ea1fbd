-- How many items of a set come before an item, where the set is kept in nodes.
use Rattle.std.proofs.Common.{◌≡◌, ℕ, zero, suc, ◌+◌, ◌<◌, ◌≤◌, Bool, true, false, List, [], ◌∷◌, ◌++◌, take, drop, map}
use Rattle.std.proofs.Common.{length, get_or, refl, sym, ap, subst, ◌∙◌, arith}
use Rattle.std.specs.List.{flat_map, AllByRecursion}
use Rattle.std.specs.List.Sorted.{IsStrictlySortedBy}
use Rattle.std.specs.Ordering.{is_lt}
use Rattle.std.specs.declared.cmp.Ordering.TheVariants.{Less}
use Rattle.std.proofs.lemmas.Cmp.{nat_list_cmp_total}
use Rattle.std.proofs.lemmas.List.{length-append, length-map, length-take-le}
use Rattle.std.proofs.lemmas.Map.Keys.{sorted_head, sorted_tail, Less-from_sorted}
use Rattle.definitions.specs.Items.{Item, item_cmp, comes_before}
use Rattle.definitions.specs.Sets.{IsSet}
use Rattle.definitions.proofs.Partitions.{PassFirst, later, less_of, filter_is_front}
use Rattle.range_tree.specs.Nodes.{first_item, count_before}
use Rattle.range_tree.proofs.Places.{map_get, flat_cut}

-- ---- what is before an item, and what is not

before_both : (y z x : Item) → item_cmp y z ≡ Less → comes_before z x ≡ true → comes_before y x ≡ true
before_both y z x less e = ap is_lt (nat_list_cmp_total.trans y z x less (less_of _ e))

late_by : (y z x : Item) (b : Bool) → comes_before z x ≡ b → item_cmp y z ≡ Less → comes_before y x ≡ false →
    comes_before z x ≡ false
late_by y z x false e less late = e
late_by y z x true e less late = let early : comes_before y x ≡ true = before_both y z x less e in absurd (cc)

late_too : (y z x : Item) → item_cmp y z ≡ Less → comes_before y x ≡ false → comes_before z x ≡ false
late_too y z x = late_by y z x (comes_before z x) refl

none_above : (x y : Item) (ys : List Item) → comes_before y x ≡ false → AllByRecursion (λ z. item_cmp y z ≡ Less) ys →
    count_before x ys ≡ 0
none_above x y [] late rise = refl
none_above x y (z ∷ zs) late rise = rw (late_too y z x rise.0 late) (none_above x y zs late rise.1)

-- a set whose first item is not before x has none that is
pub none_before : (A : List Item) (x : Item) → IsSet A → comes_before (first_item A) x ≡ false → count_before x A ≡ 0
none_before [] x set late = refl
none_before (y ∷ ys) x set late = rw late (none_above x y ys late (sorted_head item_cmp y ys set))

pub count_append : (x : Item) (A B : List Item) → count_before x (A ++ B) ≡ count_before x A + count_before x B
count_append x [] B = omega arith
count_append x (y ∷ ys) B = count_more x y ys B (comes_before y x) refl (count_append x ys B)
  where
    count_more : (x y : Item) (ys B : List Item) (b : Bool) → comes_before y x ≡ b →
        count_before x (ys ++ B) ≡ count_before x ys + count_before x B →
        count_before x (y ∷ ys ++ B) ≡ count_before x (y ∷ ys) + count_before x B
    count_more x y ys B true e rest = rw e (omega arith)
    count_more x y ys B false e rest = rw e rest

pub set_back : (A B : List Item) → IsSet (A ++ B) → IsSet B
set_back [] B set = set
set_back (y ∷ ys) B set = set_back ys B (sorted_tail item_cmp y (ys ++ B) set)

all_back : (P : Item → Type 0) (A B : List Item) → AllByRecursion P (A ++ B) → AllByRecursion P B
all_back P [] B all = all
all_back P (y ∷ ys) B all = all_back P ys B all.1

all_first : (P : Item → Type 0) (B : List Item) → 0 < length B → AllByRecursion P B → P (first_item B)
all_first P [] some all = absurd (omega arith)
all_first P (y ∷ ys) some all = all.0

-- where an item that follows is before x, so are all
pub all_before : (A B : List Item) (x : Item) → IsSet (A ++ B) → 0 < length B → comes_before (first_item B) x ≡ true →
    count_before x A ≡ length A
all_before [] B x set some e = refl
all_before (y ∷ ys) B x set some e =
    let less : item_cmp y (first_item B) ≡ Less = all_first (λ z. item_cmp y z ≡ Less) B some
    (all_back (λ z. item_cmp y z ≡ Less) ys B (sorted_head item_cmp y (ys ++ B) set)) in
    rw (before_both y (first_item B) x less e)
    (ap suc (all_before ys B x (sorted_tail item_cmp y (ys ++ B) set) some e))

-- ---- the count is the place

pass_more : (y x : Item) (ys : List Item) → comes_before y x ≡ true →
    PassFirst (λ z. comes_before z x) ys (count_before x ys) →
    PassFirst (λ z. comes_before z x) (y ∷ ys) (suc (count_before x ys))
pass_more y x ys e rest = ((λ k d low high. first k d high), (λ k d low high. second k d low high))
  where
    first : (k : ℕ) (d : Item) → k < suc (count_before x ys) → comes_before (get_or (y ∷ ys) k d) x ≡ true
    first zero d high = e
    first (suc k) d high = rest.0 k d (omega arith) (omega arith)

    second : (k : ℕ) (d : Item) → suc (count_before x ys) ≤ k → k < length (y ∷ ys) →
        comes_before (get_or (y ∷ ys) k d) x ≡ false
    second zero d low high = absurd (omega arith)
    second (suc k) d low high = rest.1 k d (omega arith) (omega arith)

pass_none : (y x : Item) (ys : List Item) → IsSet (y ∷ ys) → comes_before y x ≡ false →
    PassFirst (λ z. comes_before z x) (y ∷ ys) 0
pass_none y x ys set late = ((λ k d low high. absurd (omega arith)), (λ k d low high. fails k d high))
  where
    fails : (k : ℕ) (d : Item) → k < length (y ∷ ys) → comes_before (get_or (y ∷ ys) k d) x ≡ false
    fails zero d high = late
    fails (suc k) d high =
        late_too y (get_or ys k d) x (Less-from_sorted item_cmp (y ∷ ys) zero (suc k) d set (omega arith) high) late

pass_by : (y x : Item) (ys : List Item) (b : Bool) → comes_before y x ≡ b →
    IsSet (y ∷ ys) → PassFirst (λ z. comes_before z x) ys (count_before x ys) →
    PassFirst (λ z. comes_before z x) (y ∷ ys) (count_before x (y ∷ ys))
pass_by y x ys true e set rest = rw e (pass_more y x ys e rest)
pass_by y x ys false e set rest = rw (none_before (y ∷ ys) x set e) (pass_none y x ys set e)

pub count_passes : (A : List Item) (x : Item) → IsSet A → PassFirst (λ z. comes_before z x) A (count_before x A)
count_passes [] x set = ((λ k d low high. absurd (omega arith)), (λ k d low high. absurd (omega arith)))
count_passes (y ∷ ys) x set =
    pass_by y x ys (comes_before y x) refl set (count_passes ys x (sorted_tail item_cmp y ys set))

-- ---- a set in nodes, each of which has an item

module _ {P : Type 0} (f : P → List Item) (some : (p : P) → 0 < length (f p)) where
  first_of_flat : (p : P) (ps : List P) (A : List Item) → f p ≡ A → 0 < length A →
      first_item (A ++ flat_map f ps) ≡ first_item A
  first_of_flat p ps [] e one = absurd (omega arith)
  first_of_flat p ps (y ∷ ys) e one = refl

  first_flat : (p : P) (ps : List P) → first_item (flat_map f (p ∷ ps)) ≡ first_item (f p)
  first_flat p ps = first_of_flat p ps (f p) refl (some p)

  flat_some : (p : P) (ps : List P) → 0 < length (flat_map f (p ∷ ps))
  flat_some p ps = let one : 0 < length (f p) = some p in rw (length-append (f p) (flat_map f ps)) (omega arith)

  all_leads : (Q : Item → Type 0) (ps : List P) → AllByRecursion Q (flat_map f ps) →
      AllByRecursion Q (map (λ p. first_item (f p)) ps)
  all_leads Q [] all = tt
  all_leads Q (p ∷ ps) all =
      let one : Q (first_item (flat_map f (p ∷ ps))) = all_first Q (flat_map f (p ∷ ps)) (flat_some p ps) all in
      (subst Q (first_flat p ps) one, all_leads Q ps (all_back Q (f p) (flat_map f ps) all))

  lead_rises : (p : P) (ps : List P) (A : List Item) → 0 < length A → IsSet (A ++ flat_map f ps) →
      AllByRecursion (λ z. item_cmp (first_item A) z ≡ Less) (map (λ q. first_item (f q)) ps)
  lead_rises p ps [] one set = absurd (omega arith)
  lead_rises p ps (y ∷ ys) one set = all_leads (λ z. item_cmp y z ≡ Less) ps
      (all_back (λ z. item_cmp y z ≡ Less) ys (flat_map f ps) (sorted_head item_cmp y (ys ++ flat_map f ps) set))

  -- the first items of the nodes rise
  pub leads_set : (ps : List P) → IsSet (flat_map f ps) → IsSet (map (λ p. first_item (f p)) ps)
  unfolding IsStrictlySortedBy
  leads_set [] set = tt
  leads_set (p ∷ ps) set = (lead_rises p ps (f p) (some p) set, leads_set ps (set_back (f p) (flat_map f ps) set))

  module _ (x : Item) where
    abbrev pub is_before : P → Bool
    is_before p = comes_before (first_item (f p)) x

    pub rank_none : (ps : List P) → IsSet (flat_map f ps) → PassFirst is_before ps 0 →
        count_before x (flat_map f ps) ≡ 0
    rank_none [] set parted = refl
    rank_none (p ∷ ps) set parted = none_before (flat_map f (p ∷ ps)) x set
        (ap (λ z. comes_before z x) (first_flat p ps) ∙ parted.1 zero p (omega arith) (omega arith))

    -- where the node at k is the last one that begins before x
    pub rank_some : (ps : List P) (k : ℕ) (d : P) → suc k ≤ length ps →
        IsSet (flat_map f ps) → PassFirst is_before ps (suc k) →
        count_before x (flat_map f ps) ≡ length (flat_map f (take k ps)) + count_before x (f (get_or ps k d))
    rank_some [] k d low set parted = absurd (omega arith)
    rank_some (p ∷ ps) zero d low set parted =
        let none : count_before x (flat_map f ps) ≡ 0 =
        rank_none ps (set_back (f p) (flat_map f ps) set) (later is_before p ps zero parted) in
        rw (count_append x (f p) (flat_map f ps), none) (omega arith)
    rank_some (p ∷ []) (suc k) d low set parted = absurd (omega arith)
    rank_some (p ∷ q ∷ ps) (suc k) d low set parted =
        let first : count_before x (f p) ≡ length (f p) = all_before (f p) (flat_map f (q ∷ ps)) x set (flat_some q ps)
        (ap (λ z. comes_before z x) (first_flat q ps) ∙ parted.0 (suc zero) d (omega arith) (omega arith)) in
        let rest : count_before x (flat_map f (q ∷ ps))
        ≡ length (flat_map f (take k (q ∷ ps))) + count_before x (f (get_or (q ∷ ps) k d)) = rank_some (q ∷ ps) k d
        (omega arith) (set_back (f p) (flat_map f (q ∷ ps)) set) (later is_before p (q ∷ ps) (suc k) parted) in
        rw (count_append x (f p) (flat_map f (q ∷ ps)), first, rest, length-append (f p) (flat_map f (take k (q ∷ ps))))
        (omega arith)

-- the first elements whose images pass
pub pass_map : {X Y : Type 0} (g : X → Y) (p : Y → Bool) (xs : List X) (i : ℕ) → PassFirst p (map g xs) i →
    PassFirst (λ x. p (g x)) xs i
pass_map g p xs i parted =
    let same = length-map xs g in (
      (λ k d low high. ap p (sym (map_get g xs k d)) ∙ parted.0 k (g d) low high),
      (λ k d low high. ap p (sym (map_get g xs k d)) ∙ parted.1 k (g d) low (omega arith)),
    )

-- ---- sets that stand in one

all_front : (P : Item → Type 0) (A B : List Item) → AllByRecursion P (A ++ B) → AllByRecursion P A
all_front P [] B all = tt
all_front P (y ∷ ys) B all = (all.0, all_front P ys B all.1)

pub set_front : (A B : List Item) → IsSet (A ++ B) → IsSet A
unfolding IsStrictlySortedBy
set_front [] B set = tt
set_front (y ∷ ys) B set = (all_front (λ z. item_cmp y z ≡ Less) ys B set.0, set_front ys B set.1)

pub set_node : {P : Type 0} (f : P → List Item) (ps : List P) (k : ℕ) (d : P) → k < length ps → IsSet (flat_map f ps) →
    IsSet (f (get_or ps k d))
set_node f ps k d low set =
    set_front (f (get_or ps k d)) (flat_map f (drop (k + 1) ps)) (set_back (flat_map f (take k ps))
    (f (get_or ps k d) ++ flat_map f (drop (k + 1) ps)) (subst IsSet (flat_cut f ps k d low) set))

pub count_most : (x : Item) (A : List Item) → count_before x A ≤ length A
count_most x [] = omega arith
count_most x (y ∷ ys) = more (comes_before y x) refl (count_most x ys)
  where
    more : (b : Bool) → comes_before y x ≡ b → count_before x ys ≤ length ys → count_before x (y ∷ ys) ≤ length (y ∷ ys)
    more true e rest = rw e (omega arith)
    more false e rest = rw e (omega arith)

pub count_is : (x : Item) (A : List Item) (i : ℕ) → i ≤ length A → PassFirst (λ z. comes_before z x) A i →
    i ≡ count_before x A
count_is x A i low parted =
    sym (ap length (filter_is_front (λ z. comes_before z x) A i parted) ∙ length-take-le i A low)

pub not_before_start : (z : Item) → comes_before z [] ≡ false
not_before_start [] = refl
not_before_start (b ∷ bs) = refl

pub pass_start : (A : List Item) → PassFirst (λ z. comes_before z []) A 0
pass_start A = ((λ k d low high. absurd (omega arith)), (λ k d low high. not_before_start (get_or A k d)))
