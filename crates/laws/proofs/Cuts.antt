-- Ranges that are cut: the parts and their sizes.
-- A *seam* at place j of a set in order is after the item before that place, and not after the one at it, as that item
-- itself and the shortest bound are. Exactly j items come before it. So one cut there leaves j items of the range
-- before it and the rest after it, and each item of the range, of any set, lies on exactly one side. Several cuts
-- follow one by one: the parts hold the shares, rise, lie in the range, and each item of the range is in one of them
-- (`spread`).
-- docs/LAWS.md: A cut is exact.
use Rattle.std.proofs.Common.{take, ◌≡◌, ℕ, zero, suc, ◌<◌, ◌≤◌, Bool, true, false, not, ◌&&◌, List, [], ◌∷◌, ◌++◌}
use Rattle.std.proofs.Common.{length, refl, ap, cond, get_or, drop, arith, Less, ◌+◌, map, Option, Some, sym, ◌∙◌}
use Rattle.std.proofs.Common.{subst, sum, ◌-◌}
use Rattle.std.specs.Prelude.{filter, ⊤}
use Rattle.std.specs.List.{flat_map}
use Rattle.definitions.proofs.Words.{AllByRecursion, is_lt, Item, item_cmp, comes_before, Range, is_below, contains}
use Rattle.definitions.proofs.Words.{ranges_between, IsSet, items_in, inner_cuts}
use Rattle.definitions.proofs.Lemmas.{not-true, length-take-le, sorted_head, sorted_tail, Less-from_sorted, and_parts}
use Rattle.definitions.proofs.Lemmas.{and_from, append-nil, length-drop, drop-drop, get_or-drop, sum_by-cons}
use Rattle.definitions.proofs.Lemmas.{IsStrictlySortedBy-filter, before-irrefl, before-asym, not_before-trans}
use Rattle.definitions.proofs.Lemmas.{below-trans, upto-before, All-map, All-filter, All-at}
use Rattle.definitions.proofs.Words.{Bounds, At_items, Short, bound_at}
use Rattle.definitions.proofs.Lemmas.{before-trans, separator-after, separator-upto, cases_order, upto-below}
use Rattle.definitions.proofs.Partitions.{filter_is_front, filter_is_back}
use Rattle.std.proofs.Common.{inl, inr}
use Rattle.laws.proofs.Times.{when}

-- ==== Filters of a list, and of a list in order

-- what passes both tests
pub filter-and : {X : Type 0} (p q : X → Bool) (xs : List X) → filter (λ x. p x && q x) xs ≡ filter q (filter p xs)
filter-and p q [] = refl
filter-and p q (x ∷ xs) = grind (arith, filter-and p q xs)

-- tests that agree
pub filter-same : {X : Type 0} (p q : X → Bool) → ((x : X) → p x ≡ q x) → (xs : List X) → filter p xs ≡ filter q xs
filter-same p q h [] = refl
filter-same p q h (x ∷ xs) = let e = h x in let ih = filter-same p q h xs in cc

-- a wider test passes no fewer
pub length-filter-le : {X : Type 0} (p q : X → Bool) → ((x : X) → p x ≡ true → q x ≡ true) → (xs : List X) →
    length (filter p xs) ≤ length (filter q xs)
length-filter-le p q h [] = omega arith
length-filter-le p q h (x ∷ xs) = grind (arith, length-filter-le p q h xs)

pub filter-none : {X : Type 0} (p : X → Bool) (xs : List X) → AllByRecursion (λ x. p x ≡ false) xs → filter p xs ≡ []
filter-none p [] h = refl
filter-none p (x ∷ xs) h = let e = h.0 in let ih = filter-none p xs h.1 in cc

pub filter-all : {X : Type 0} (p : X → Bool) (xs : List X) → AllByRecursion (λ x. p x ≡ true) xs → filter p xs ≡ xs
filter-all p [] h = refl
filter-all p (x ∷ xs) h = let e = h.0 in let ih = filter-all p xs h.1 in cc

-- ---- sets

before : (x y : Item) → item_cmp x y ≡ Less → comes_before x y ≡ true
before x y e = ap is_lt e

-- c divides B at place s: it is after the item before the place, and not after the item at it
pub record IsSeam (B : List Item) (s : ℕ) (c : List ℕ) : Type 0 where
  pub after : comes_before (get_or B (s - 1) []) c ≡ true
  pub upto : comes_before (get_or B s []) c ≡ false

-- what stands at a place of a list, whatever stands past its end
same_read : {X : Type 0} (xs : List X) (k : ℕ) (d e : X) → k < length xs → get_or xs k d ≡ get_or xs k e
same_read [] k d e h = absurd (omega arith)
same_read (x ∷ xs) zero d e h = refl
same_read (x ∷ xs) (suc k) d e h = same_read xs k d e (omega arith)

-- the first s items of a set come before a seam at place s, and the others do not
pub sides_of_seam : (B : List Item) (s : ℕ) (c : List ℕ) → IsSet B → 0 < s → s < length B → IsSeam B s c →
    (filter (λ z. comes_before z c) B ≡ take s B) × (filter (λ z. not (comes_before z c)) B ≡ drop s B)
sides_of_seam B s c set z h seam = (
  filter_is_front (λ z. comes_before z c) B s (early, late),
  filter_is_back (λ z. comes_before z c) B s (early, late),
) where
  early : (k : ℕ) (d : Item) → 0 ≤ k → k < s → comes_before (get_or B k d) c ≡ true
  early k d low high =
      let last : comes_before (get_or B (s - 1) d) c ≡ true =
      subst (λ (b : Item). comes_before b c ≡ true) (same_read B (s - 1) [] d (omega arith)) seam.after in
      elim (cases_order k (s - 1)) [
        | inl same ↦ rw same last
        | inr (inl below) ↦ before-trans (get_or B k d) (get_or B (s - 1) d) c
            (before (get_or B k d) (get_or B (s - 1) d)
            (Less-from_sorted item_cmp B k (s - 1) d set below (omega arith))) last
        | inr (inr other) ↦ absurd (omega arith)
      ]

  late : (k : ℕ) (d : Item) → s ≤ k → k < length B → comes_before (get_or B k d) c ≡ false
  late k d low high =
      let first : comes_before (get_or B s d) c ≡ false =
      subst (λ (b : Item). comes_before b c ≡ false) (same_read B s [] d h) seam.upto in
      elim (cases_order s k) [
        | inl same ↦ rw (sym same) first
        | inr (inl below) ↦ not_before-trans (get_or B k d) (get_or B s d) c
            (before-asym (get_or B s d) (get_or B k d)
            (before (get_or B s d) (get_or B k d) (Less-from_sorted item_cmp B s k d set below high))) first
        | inr (inr other) ↦ absurd (omega arith)
      ]

-- the bound of a part is a seam of the items, of whichever kind the bounds are
pub seams : (b : Bounds) (B : List Item) → IsSet B → (p : ℕ) → 0 < p → p < length B → IsSeam B p (bound_at b B p)
seams b B set p z h = by b (before (get_or B (p - 1) []) (get_or B p [])
    (Less-from_sorted item_cmp B (p - 1) p [] set (omega arith) h)) where
      by : (b : Bounds) → comes_before (get_or B (p - 1) []) (get_or B p []) ≡ true → IsSeam B p (bound_at b B p)
      by At_items rise = record { after = rise; upto = before-irrefl (get_or B p []) }
      by Short rise = record {
        after = separator-after (get_or B (p - 1) []) (get_or B p []) rise;
        upto = separator-upto (get_or B (p - 1) []) (get_or B p []) rise;
      }

-- what comes before a bound, and what does not
pub filter-two_sides : (c : Item) (B : List Item) → IsSet B →
    B ≡ filter (λ z. comes_before z c) B ++ filter (λ z. not (comes_before z c)) B
filter-two_sides c [] set = refl
filter-two_sides c (b ∷ B) set =
    let ih = filter-two_sides c B (sorted_tail item_cmp b B set) in
    let either : (t : Bool) → comes_before b c ≡ t →
    b ∷ B ≡ cond t (b ∷ filter (λ z. comes_before z c) B) (filter (λ z. comes_before z c) B)
    ++ cond (not t) (b ∷ filter (λ z. not (comes_before z c)) B) (filter (λ z. not (comes_before z c)) B) =
    elim [
      | true ↦ λ e. ap (λ zs. b ∷ zs) ih
      | false ↦ λ e.
          let later : AllByRecursion (λ z. comes_before z c ≡ false) B = All-map _ _
          (λ z k. not_before-trans z b c (before-asym b z (before b z k)) e) B (sorted_head item_cmp b B set) in
          let none = filter-none (λ z. comes_before z c) B later in
          let all = filter-all (λ z. not (comes_before z c)) B (All-map _ _ (λ z k. ap not k) B later) in
          cc
    ] in
    either (comes_before b c) refl

-- ==== A range cut at seams of a set: the parts have the shares as their sizes, and partition the range

abbrev pub span : List ℕ → Option (List ℕ) → Range
span x y = record { lower = x; upper = y }

-- what is in Y is in X
abbrev pub IsWithin : Range → Range → Type 0
IsWithin Y X = (z : Item) → contains Y z ≡ true → contains X z ≡ true

-- of any list, a range within another has no more items
pub length-items_in-le : (A : List Item) (Y X : Range) → IsWithin Y X → length (items_in A Y) ≤ length (items_in A X)
length-items_in-le A Y X w = length-filter-le (contains Y) (contains X) w A

-- ---- one cut

left_test : (a b c : Bool) → (c ≡ true → b ≡ true) → (not a && c) ≡ ((not a && b) && c)
left_test a b c h = grind arith

right_test : (a b c : Bool) → (c ≡ false → a ≡ false) → (not c && b) ≡ ((not a && b) && not c)
right_test a b c h = grind arith

-- below and from a bound within the range
contains-left : (x c : List ℕ) (y : Option (List ℕ)) → contains (span x y) c ≡ true → (z : Item) →
    contains (span x (Some c)) z ≡ (contains (span x y) z && comes_before z c)
contains-left x c y h z =
    left_test (comes_before z x) (is_below z y) (comes_before z c) (λ k. below-trans z c y k (and_parts _ _ h).1)

contains-right : (x c : List ℕ) (y : Option (List ℕ)) → contains (span x y) c ≡ true → (z : Item) →
    contains (span c y) z ≡ (contains (span x y) z && not (comes_before z c))
contains-right x c y h z = right_test (comes_before z x) (is_below z y) (comes_before z c)
    (λ k. not_before-trans z c x k (not-true _ (and_parts _ _ h).0))

pub left-IsWithin : (x c : List ℕ) (y : Option (List ℕ)) → contains (span x y) c ≡ true →
    IsWithin (span x (Some c)) (span x y)
left-IsWithin x c y h z k = (and_parts _ _ (sym (contains-left x c y h z) ∙ k)).0

pub right-IsWithin : (x c : List ℕ) (y : Option (List ℕ)) → contains (span x y) c ≡ true →
    IsWithin (span c y) (span x y)
right-IsWithin x c y h z k = (and_parts _ _ (sym (contains-right x c y h z) ∙ k)).0

pub items_in-left : (A : List Item) (x c : List ℕ) (y : Option (List ℕ)) → contains (span x y) c ≡ true →
    items_in A (span x (Some c)) ≡ filter (λ z. comes_before z c) (items_in A (span x y))
items_in-left A x c y h =
    filter-same (contains (span x (Some c))) (λ z. contains (span x y) z && comes_before z c) (contains-left x c y h) A
    ∙ filter-and (contains (span x y)) (λ z. comes_before z c) A

pub items_in-right : (A : List Item) (x c : List ℕ) (y : Option (List ℕ)) → contains (span x y) c ≡ true →
    items_in A (span c y) ≡ filter (λ z. not (comes_before z c)) (items_in A (span x y))
items_in-right A x c y h =
    filter-same (contains (span c y)) (λ z. contains (span x y) z && not (comes_before z c)) (contains-right x c y h) A
    ∙ filter-and (contains (span x y)) (λ z. not (comes_before z c)) A

-- ---- many cuts

-- each bound is after the one before it, and before y
abbrev pub CutsRise : List ℕ → List (List ℕ) → Option (List ℕ) → Type 0
CutsRise x [] y = ⊤
CutsRise x (c ∷ cs) y = (comes_before x c ≡ true) × (is_below c y ≡ true) × CutsRise c cs y

pub inside_from_between : (x c : List ℕ) (y : Option (List ℕ)) → comes_before x c ≡ true → is_below c y ≡ true →
    contains (span x y) c ≡ true
inside_from_between x c y h k = and_from (not (comes_before c x)) (is_below c y) (ap not (before-asym x c h)) k

-- then each part rises
pub ranges-rise : (x : List ℕ) (cs : List (List ℕ)) (y : Option (List ℕ)) → is_below x y ≡ true → CutsRise x cs y →
    AllByRecursion (λ Y. is_below Y.lower Y.upper ≡ true) (ranges_between x cs y)
ranges-rise x [] y h r = (h, tt)
ranges-rise x (c ∷ cs) y h r = (r.0, ranges-rise c cs y r.1 r.2)

pub ranges-IsWithin : (x : List ℕ) (cs : List (List ℕ)) (y : Option (List ℕ)) → CutsRise x cs y →
    AllByRecursion (λ Y. IsWithin Y (span x y)) (ranges_between x cs y)
ranges-IsWithin x [] y r = (λ z k. k, tt)
ranges-IsWithin x (c ∷ cs) y r =
    let inside = inside_from_between x c y r.0 r.1 in (
      left-IsWithin x c y inside,
      All-map (λ Y. IsWithin Y (span c y)) (λ Y. IsWithin Y (span x y))
          (λ Y w z k. right-IsWithin x c y inside z (w z k)) (ranges_between c cs y) (ranges-IsWithin c cs y r.2),
    )

-- a set is what it has in each of the parts, one after another
pub flat_map-ranges : (D : List Item) → IsSet D → (x : List ℕ) (cs : List (List ℕ)) (y : Option (List ℕ)) →
    CutsRise x cs y →
    flat_map (items_in D) (ranges_between x cs y) ≡ items_in D (span x y)
flat_map-ranges D set x [] y r = append-nil (items_in D (span x y))
flat_map-ranges D set x (c ∷ cs) y r =
    let inside = inside_from_between x c y r.0 r.1 in
    let ih = flat_map-ranges D set c cs y r.2 in
    let left = items_in-left D x c y inside in
    let right = items_in-right D x c y inside in
    let both =
    filter-two_sides c (items_in D (span x y)) (IsStrictlySortedBy-filter item_cmp (contains (span x y)) D set) in
    cc

-- a bound that is a seam at place s of the items of A in the range
pub record IsPlace (A : List Item) (x c : List ℕ) (y : Option (List ℕ)) (s : ℕ) : Type 0 where
  pub after : comes_before x c ≡ true
  pub before : is_below c y ≡ true
  pub left : length (items_in A (span x (Some c))) ≡ s
  pub right : items_in A (span c y) ≡ drop s (items_in A (span x y))

at_seam : (A : List Item) (x c : List ℕ) (y : Option (List ℕ)) (s : ℕ) → IsSet A → 0 < s →
    s < length (items_in A (span x y)) →
    IsSeam (items_in A (span x y)) s c → IsPlace A x c y s
at_seam A x c y s set z h seam =
    let B : List Item = items_in A (span x y) in
    let sorted : IsSet B = IsStrictlySortedBy-filter item_cmp (contains (span x y)) A set in
    let last_in = and_parts _ _
    (All-at (λ z. contains (span x y) z ≡ true) B (s - 1) [] (omega arith) (All-filter (contains (span x y)) A)) in
    let first_in = and_parts _ _
    (All-at (λ z. contains (span x y) z ≡ true) B s [] h (All-filter (contains (span x y)) A)) in
    let after = upto-before x (get_or B (s - 1) []) c (not-true _ last_in.0) seam.after in
    let below = upto-below c (get_or B s []) y seam.upto first_in.1 in
    let in_range = inside_from_between x c y after below in
    let sides = sides_of_seam B s c sorted z h seam in
    record {
      after = after;
      before = below;
      left = ap length (items_in-left A x c y in_range) ∙ ap length sides.0 ∙ length-take-le s B (omega arith);
      right = items_in-right A x c y in_range ∙ sides.1;
    }

-- X is cut into ranges with so many items of A
pub record AreCuts (A : List Item) (x : List ℕ) (cs : List (List ℕ)) (y : Option (List ℕ))
    (sizes : List ℕ) : Type 0 where
  pub rise : CutsRise x cs y
  pub counts : map (λ Y. length (items_in A Y)) (ranges_between x cs y) ≡ sizes

cuts_from : (A L : List Item) (g : ℕ → List ℕ) (x : List ℕ) (y : Option (List ℕ)) (start : ℕ) (sizes : List ℕ) →
    IsSet A → ((p : ℕ) → 0 < p → p < length L → IsSeam L p (g p)) →
    items_in A (span x y) ≡ drop start L → start + sum sizes ≡ length L → 0 < length sizes →
    AllByRecursion (λ s. 0 < s) sizes →
    AreCuts A x (map g (inner_cuts start sizes)) y sizes
cuts_from A L g x y start [] set seam e total some positive = absurd (omega arith)
cuts_from A L g x y start (s ∷ []) set seam e total some positive = grind (arith, length-drop start L)
cuts_from A L g x y start (s ∷ t ∷ ss) set seam e total some positive =
    let c : Item = g (start + s) in
    let first = sum_by-cons (λ n. n) s (t ∷ ss) in
    let second = sum_by-cons (λ n. n) t ss in
    let short : s < length (items_in A (span x y)) = omega (arith, ap length e, length-drop start L, positive.1.0) in
    let read : (j : ℕ) → get_or (items_in A (span x y)) j [] ≡ get_or L (start + j) [] =
    λ j. ap (λ B. get_or B j []) e ∙ get_or-drop start L j [] in
    let there = seam (start + s) (omega (arith, positive.0)) (omega (arith, positive.1.0)) in
    let last : start + (s - 1) ≡ start + s - 1 = omega (arith, positive.0) in
    let here : IsSeam (items_in A (span x y)) s c = record {
      after = rw (read (s - 1), last) there.after;
      upto = rw (read s) there.upto;
    } in
    let p = at_seam A x c y s set positive.0 short here in
    let rest : items_in A (span c y) ≡ drop (start + s) L = p.right ∙ (ap (drop s) e ∙ drop-drop s start L) in
    let ih = cuts_from A L g c y (start + s) (t ∷ ss) set seam rest (omega arith) (omega arith) positive.1 in
    record { rise = (p.after, p.before, ih.rise); counts = let a = p.left in let b = ih.counts in cc }

-- The parts of a cut have the shares as their sizes, where none is 0 and they add up to what there is.
pub cutup-AreCuts : (b : Bounds) (A : List Item) (X : Range) (sizes : List ℕ) → IsSet A →
    sum sizes ≡ length (items_in A X) → 0 < length sizes → AllByRecursion (λ s. 0 < s) sizes →
    AreCuts A X.lower (map (bound_at b (items_in A X)) (inner_cuts 0 sizes)) X.upper sizes
cutup-AreCuts b A X sizes set total some positive =
    cuts_from A (items_in A X) (bound_at b (items_in A X)) X.lower X.upper 0 sizes set
    (seams b (items_in A X) (IsStrictlySortedBy-filter item_cmp (contains X) A set)) refl (omega arith) some positive

-- ---- how many parts

pub length-ranges_between : (x : List ℕ) (cs : List (List ℕ)) (y : Option (List ℕ)) →
    length (ranges_between x cs y) ≡ suc (length cs)
length-ranges_between x [] y = refl
length-ranges_between x (c ∷ cs) y = ap suc (length-ranges_between c cs y)

pub length-inner_cuts : (start : ℕ) (sizes : List ℕ) → 0 < length sizes →
    suc (length (inner_cuts start sizes)) ≡ length sizes
length-inner_cuts start [] h = absurd (omega arith)
length-inner_cuts start (s ∷ []) h = refl
length-inner_cuts start (s ∷ t ∷ ss) h = ap suc (length-inner_cuts (start + s) (t ∷ ss) (omega arith))

-- ==== Each item of the range lies in just one of the parts

-- n for each range that has x
abbrev pub spread : Item → ℕ → List Range → ℕ
spread x n [] = 0
spread x n (X ∷ Xs) = when (contains X x) n + spread x n Xs

-- of two neighbours one has x, if both together have it: p, q and r say that x is before the lower bound, the cut and
-- the upper bound
cut_once : (p q r : Bool) (n : ℕ) → (q ≡ true → r ≡ true) → (q ≡ false → p ≡ false) →
    when (not p && q) n + when (not q && r) n ≡ when (not p && r) n
cut_once p q r n h k = grind arith

pub spread-ranges_between : (x : Item) (n : ℕ) (lower : List ℕ) (cuts : List (List ℕ)) (upper : Option (List ℕ)) →
    CutsRise lower cuts upper →
    spread x n (ranges_between lower cuts upper) ≡ when (contains (span lower upper) x) n
spread-ranges_between x n lower [] upper h = omega arith
spread-ranges_between x n lower (cut ∷ cuts) upper (after, before, rest) =
    let once = cut_once (comes_before x lower) (comes_before x cut) (is_below x upper) n
    (λ h. below-trans x cut upper h before) (λ h. not_before-trans x cut lower h (before-asym lower cut after)) in
    omega (arith, once, spread-ranges_between x n cut cuts upper rest)
