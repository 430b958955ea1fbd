-- Running counts and fingerprints beside the nodes of a row. A running list is right where its element at each place is
-- that of the nodes up to there; one element more keeps it so. The counts never fall, so the number of them that are
-- not past a place is the number of nodes that end before it, and the next node holds the place. What stands before
-- a place is then what the nodes before that one hold, and a front of its own items.
use Rattle.std.proofs.Common.{◌≡◌, ℕ, zero, suc, ◌+◌, ◌-◌, ◌<◌, ◌≤◌, Bool, true, false, List, [], ◌∷◌, ◌++◌}
use Rattle.std.proofs.Common.{take, drop, map, length, get_or, refl, sym, ap, subst, ◌∙◌, ◌≢◌, arith, nat_lt}
use Rattle.std.proofs.Math.Dec.{leb}
use Rattle.std.specs.List.{flat_map}
use Rattle.std.specs.List.Sorted.{IsNonDecreasingBy}
use Rattle.std.proofs.lemmas.Bool.{leb-true, leb-false, ltb-true, ltb-false}
use Rattle.std.proofs.lemmas.List.{length-append, take-append-drop, take_all, drop_all, take_more}
use Rattle.std.proofs.lemmas.List.{get_or_append_left, get_or-append-add, take-take, append-nil}
use Rattle.std.proofs.lemmas.List.{take-append-le, drop_more, length-take, take_rest, map-append}
use Rattle.std.proofs.Math.Seq.{take-append-add}
use Rattle.std.proofs.lemmas.List.Sorted.{IsNonDecreasingBy-from_default}
use Rattle.std.proofs.lemmas.List.Concat.{flat_map-append}
use Rattle.definitions.specs.Items.{Item, IsBytes}
use Rattle.definitions.specs.Fingerprints.{Lanes, two_lanes, join_lanes}
use Rattle.digest_core.specs.Laws.{adds_up}
use Rattle.range_tree.specs.Nodes.{span, IsSpot, PassFirst}
use Rattle.range_tree.specs.Rows.{IsRow, AreHeads}
use Rattle.range_tree.specs.Heads.{head_number}
use Rattle.range_tree.proofs.Pieces.{all_append}
use Rattle.range_tree.proofs.Places.{length_take_more, span_append, map_drop}

-- ---- a list of which each element is known

-- the element at i is f of i + 1
abbrev pub IsRunning : {X : Type 0} → (ℕ → X) → ℕ → List X → Type 0
IsRunning {X} f n xs = (i : ℕ) (d : X) → i < n → get_or xs i d ≡ f (i + 1)

pub running_more : {X : Type 0} (f : ℕ → X) (n : ℕ) (xs : List X) (x : X) → length xs ≡ n → IsRunning f n xs →
    x ≡ f (n + 1) → IsRunning f (n + 1) (xs ++ x ∷ [])
running_more {X} f n xs x long all is i d low = by_place (nat_lt i n) refl where
  by_place : (b : Bool) → nat_lt i n ≡ b → get_or (xs ++ x ∷ []) i d ≡ f (i + 1)
  by_place true t =
      let front : i < n = ltb-true _ _ t in
      get_or_append_left xs (x ∷ []) d i (omega arith) ∙ all i d front
  by_place false t =
      let back : n ≤ i = ltb-false _ _ t in
      let same : i ≡ length xs + 0 = omega arith in
      let next : n + 1 ≡ i + 1 = omega arith in
      ap (λ k. get_or (xs ++ x ∷ []) k d) same ∙ get_or-append-add xs (x ∷ []) 0 d ∙ is ∙ ap f next

pub row_none : {P : Type 0} (content : P → List Item) → IsRow content [] [] []
row_none content = record {
  as_many_ends = refl;
  as_many_sums = refl;
  are_ends = λ i d low. absurd (omega arith);
  are_sums = λ i d low. absurd (omega arith);
}

-- ---- items with the numbers of their first bytes

pub heads_none : AreHeads [] []
heads_none = record { are_numbers = refl; are_bytes = tt }

pub heads_more : (xs : List Item) (i : ℕ) (x : Item) (heads : List ℕ) (head : ℕ) → i < length xs →
    x ≡ get_or xs i x → AreHeads (take i xs) heads → head ≡ head_number x → IsBytes x →
    AreHeads (take (i + 1) xs) (heads ++ head ∷ [])
heads_more xs i x heads head low read before is bytes =
    let more : take i xs ++ x ∷ [] ≡ take (i + 1) xs =
    ap (λ y. take i xs ++ y ∷ []) read ∙ sym (take_more xs i x low) in
    subst (λ ys. AreHeads ys (heads ++ head ∷ [])) more (record {
      are_numbers =
          (λ j. before.are_numbers j ++ is j ∷ []) ∙ sym (map-append head_number (take i xs) (x ∷ []));
      are_bytes = all_append IsBytes (take i xs) (x ∷ []) before.are_bytes (bytes, tt);
    })

pub heads_all : (xs : List Item) (i : ℕ) (heads : List ℕ) → length xs ≤ i → AreHeads (take i xs) heads →
    AreHeads xs heads
heads_all xs i heads past all = subst (λ ys. AreHeads ys heads) (take_all i xs past) all

-- ---- the first nodes of a row

module _ {P : Type 0} (content : P → List Item) (ps : List P) where
  abbrev pub items_before : ℕ → List Item
  items_before k = flat_map content (take k ps)

  -- the lists beside the first n nodes
  pub record IsBegun (n : ℕ) (ends : List ℕ) (sums : List Lanes) : Type 0 where
    pub as_many_ends : length ends ≡ n
    pub as_many_sums : length sums ≡ n
    pub are_ends : IsRunning (λ k. length (items_before k)) n ends
    pub are_sums : IsRunning (λ k. two_lanes.of (items_before k)) n sums

  pub begun_none : IsBegun 0 [] []
  begun_none = record {
    as_many_ends = refl;
    as_many_sums = refl;
    are_ends = λ i d low. absurd (omega arith);
    are_sums = λ i d low. absurd (omega arith);
  }

  pub items_more : (n : ℕ) (p : P) → n < length ps → p ≡ get_or ps n p →
      items_before (n + 1) ≡ items_before n ++ content p
  items_more n p low read =
      ap (flat_map content) (take_more ps n p low)
      ∙ flat_map-append content (take n ps) (get_or ps n p ∷ [])
      ∙ ap (λ xs. items_before n ++ xs) (append-nil (content (get_or ps n p)) ∙ ap content (sym read))

  pub sum_more : (n : ℕ) (p : P) (sum own : Lanes) → n < length ps → p ≡ get_or ps n p →
      sum ≡ two_lanes.of (items_before n) → own ≡ two_lanes.of (content p) →
      join_lanes sum own ≡ two_lanes.of (items_before (n + 1))
  sum_more n p sum own low read before here =
      (λ i. join_lanes (before i) (here i)) ∙ sym (adds_up (items_before n) (content p))
      ∙ ap two_lanes.of (sym (items_more n p low read))

  pub end_more : (n : ℕ) (p : P) (end own : ℕ) → n < length ps → p ≡ get_or ps n p →
      end ≡ length (items_before n) → own ≡ length (content p) →
      end + own ≡ length (items_before (n + 1))
  end_more n p end own low read before here =
      let all = ap length (items_more n p low read) in
      let sum = length-append (items_before n) (content p) in
      omega arith

  pub begun_more : (n : ℕ) (ends : List ℕ) (sums : List Lanes) (end : ℕ) (sum : Lanes) → IsBegun n ends sums →
      end ≡ length (items_before (n + 1)) → sum ≡ two_lanes.of (items_before (n + 1)) →
      IsBegun (n + 1) (ends ++ end ∷ []) (sums ++ sum ∷ [])
  begun_more n ends sums end sum begun in_end in_sum =
      let longer = length-append ends (end ∷ []) in
      let too = length-append sums (sum ∷ []) in
      let same = begun.as_many_ends in
      let same_too = begun.as_many_sums in
      record {
        as_many_ends = omega arith;
        as_many_sums = omega arith;
        are_ends =
            running_more (λ k. length (items_before k)) n ends end begun.as_many_ends begun.are_ends in_end;
        are_sums =
            running_more (λ k. two_lanes.of (items_before k)) n sums sum begun.as_many_sums begun.are_sums in_sum;
      }

  pub begun_all : (n : ℕ) (ends : List ℕ) (sums : List Lanes) → IsBegun n ends sums → n ≤ length ps →
      length ps ≤ n → IsRow content ps ends sums
  begun_all n ends sums begun most least =
      let same = begun.as_many_ends in
      let same_too = begun.as_many_sums in
      record {
        as_many_ends = omega arith;
        as_many_sums = omega arith;
        are_ends = λ i d within. begun.are_ends i d (omega arith);
        are_sums = λ i d within. begun.are_sums i d (omega arith);
      }

  -- ---- what the lists say

  module _ (ends : List ℕ) (sums : List Lanes) (row : IsRow content ps ends sums) where
    pub end_read : (k e : ℕ) → k ≢ 0 → k ≤ length ps → e ≡ get_or ends (k - 1) e → e ≡ length (items_before k)
    end_read k e some within read =
        let back : k - 1 + 1 ≡ k = omega arith in
        read ∙ row.are_ends (k - 1) e (omega arith) ∙ ap (λ n. length (items_before n)) back

    pub sum_read : (k : ℕ) (s : Lanes) → k ≢ 0 → k ≤ length ps → s ≡ get_or sums (k - 1) s →
        s ≡ two_lanes.of (items_before k)
    sum_read k s some within read =
        let back : k - 1 + 1 ≡ k = omega arith in
        read ∙ row.are_sums (k - 1) s (omega arith) ∙ ap (λ n. two_lanes.of (items_before n)) back

    before_rises : (i j : ℕ) → i ≤ j → length (items_before i) ≤ length (items_before j)
    before_rises i j low =
        let cut = ap length (flat_map-append content (take i (take j ps)) (drop i (take j ps))) in
        let sum = length-append (flat_map content (take i (take j ps))) (flat_map content (drop i (take j ps))) in
        let whole = ap (λ qs. length (flat_map content qs)) (take-append-drop i (take j ps)) in
        let front = ap (λ qs. length (flat_map content qs)) (take-take i j ps low) in
        omega arith

    -- the counts never fall
    pub ends_rise : IsNonDecreasingBy (λ e. e) ends
    ends_rise = IsNonDecreasingBy-from_default (λ e. e) ends 0 (λ i j low within.
        let same = row.as_many_ends in
        let first = row.are_ends i 0 (omega arith) in
        let second = row.are_ends j 0 (omega arith) in
        let rise = before_rises (i + 1) (j + 1) (omega arith) in
        omega arith)

    pub read_rises : (read : List ℕ) → read ≡ ends → IsNonDecreasingBy (λ e. e) read
    read_rises read same = subst (IsNonDecreasingBy (λ e. e)) (sym same) ends_rise

    -- where the nodes before k are those that end before a place
    module _ (place k : ℕ) (parted : PassFirst (λ e. leb e place) ends k) (most : k ≤ length ends) where
      pub begins_before : length (items_before k) ≤ place
      begins_before = by_count k refl where
        by_count : (n : ℕ) → k ≡ n → length (items_before k) ≤ place
        by_count zero e = rw e (omega arith)
        by_count (suc n) e =
            let same = row.as_many_ends in
            let back : n + 1 ≡ k = omega arith in
            let passed : get_or ends n 0 ≤ place = leb-true _ _ (parted.0 n 0 (omega arith) (omega arith)) in
            let is = row.are_ends n 0 (omega arith) ∙ ap (λ m. length (items_before m)) back in
            omega arith

      ends_after : k < length ps → place < length (items_before (k + 1))
      ends_after low =
          let same = row.as_many_ends in
          let fails : place < get_or ends k 0 = leb-false _ _ (parted.1 k 0 (omega arith) (omega arith)) in
          let is = row.are_ends k 0 low in
          omega arith

      there : place < length (flat_map content ps) → k < length ps
      there within = by_place (nat_lt k (length ps)) refl where
        by_place : (b : Bool) → nat_lt k (length ps) ≡ b → k < length ps
        by_place true t = ltb-true _ _ t
        by_place false t =
            let past : length ps ≤ k = ltb-false _ _ t in
            let all = ap (λ qs. length (flat_map content qs)) (take_all k ps past) in
            let begun = begins_before in
            absurd (omega arith)

      pub spot_is : place < length (flat_map content ps) →
          IsSpot content ps place k (place - length (items_before k))
      spot_is within =
          let low = there within in
          let begun = begins_before in
          record {
            node_there = low;
            place_is = omega arith;
            own_fits = λ p.
                let next = ends_after low in
                let more = length_take_more content ps k p low in
                omega arith;
          }

  -- ---- what stands before a place, and between two

  cut_at : (k : ℕ) → flat_map content ps ≡ items_before k ++ flat_map content (drop k ps)
  cut_at k = ap (flat_map content) (sym (take-append-drop k ps)) ∙ flat_map-append content (take k ps) (drop k ps)

  -- from a place that no node before k holds
  pub span_past : (k from to : ℕ) → length (items_before k) ≤ from → span from to (flat_map content ps)
      ≡ span (from - length (items_before k)) (to - length (items_before k)) (flat_map content (drop k ps))
  span_past k from to past =
      let front = items_before k in
      let back = flat_map content (drop k ps) in
      let short = length-take to front in
      let none : span from to front ≡ [] = drop_all from (take to front) (omega arith) in
      ap (span from to) (cut_at k) ∙ span_append from to front back
      ∙ ap (λ xs. xs ++ span (from - length front) (to - length front) back) none

  -- the same, of the shared nodes that are left
  pub span_shared : {T : Type 0} (v : T → P) (xs ys : List T) (k begun from to end : ℕ) → ys ≡ xs → map v xs ≡ ps →
      begun ≡ length (items_before k) → begun ≤ from → end ≡ to - begun →
      span (from - begun) end (flat_map content (map v (take (length ys - k) (drop k ys))))
      ≡ span from to (flat_map content ps)
  span_shared v xs ys k begun from to end same values is past less =
      let rest : map v (take (length ys - k) (drop k ys)) ≡ drop k ps =
      ap (map v) (take_rest ys k) ∙ map_drop v k ys ∙ ap (drop k) (ap (map v) same ∙ values) in
      (λ i. span (from - begun) (less i) (flat_map content (rest i)))
      ∙ (λ i. span (from - is i) (to - is i) (flat_map content (drop k ps)))
      ∙ sym (span_past k from to (omega arith))

  module _ (place k own : ℕ) (spot : IsSpot content ps place k own) (p : P) (read : p ≡ get_or ps k p) where
    own_within : own < length (content p)
    own_within =
        let fits = spot.own_fits p in
        let same = ap (λ q. length (content q)) read in
        omega arith

    rest_here : flat_map content (drop k ps) ≡ content p ++ flat_map content (drop (k + 1) ps)
    rest_here = ap (flat_map content) (drop_more ps k p spot.node_there)
        ∙ ap (λ q. content q ++ flat_map content (drop (k + 1) ps)) (sym read)

    -- before the place stand the nodes before, and a front of this one
    take_here : take place (flat_map content ps) ≡ items_before k ++ take own (content p)
    take_here =
        let here = own_within in
        let front = items_before k in
        let rest = flat_map content (drop (k + 1) ps) in
        ap (λ n. take n (flat_map content ps)) (sym spot.place_is)
        ∙ ap (take (length front + own)) (cut_at k ∙ ap (λ xs. front ++ xs) rest_here)
        ∙ take-append-add front (content p ++ rest) own
        ∙ ap (λ xs. front ++ xs) (take-append-le own (content p) rest (omega arith))

    pub sum_here : (front own_sum : Lanes) → front ≡ two_lanes.of (items_before k) →
        own_sum ≡ two_lanes.of (take own (content p)) →
        join_lanes front own_sum ≡ two_lanes.of (take place (flat_map content ps))
    sum_here front own_sum before here =
        (λ i. join_lanes (before i) (here i)) ∙ sym (adds_up (items_before k) (take own (content p)))
        ∙ ap two_lanes.of (sym take_here)
