-- How many parts a message has.
-- Let D be a list that has each item which only one of the two sets has. If a range has no item of D, both sets have
-- the same items in it, so the same fingerprint, and it is not asked about again. So each range that is replied to has
-- an item of D in it.
-- Call the items of D in the open ranges of a message its hits. Open ranges do not overlap, so an item lies in at most
-- one of them, and there are at most `length D` hits. A range that differs is listed, or cut into at most w parts, so
-- into at most w for each of its hits; a List, which is sent only of such a range, gets one Answer. So a reply has at
-- most w parts for each hit, and no message more than w times `length D`, or one, the opening.
-- With the symmetric difference for D and the widths of the tables for w this is the law. With all items of both sets
-- for D, and w = 1, it says that messages fit, since a range is cut into no more parts than it has own items.
-- docs/LAWS.md: Parts are few; Messages fit; Cost.
use Rattle.std.proofs.Common.{◌≡◌, ℕ, ◌+◌, ◌*◌, ◌≤◌, Bool, true, false, not, ◌&&◌, zero, suc, List, [], ◌∷◌, ◌++◌, None}
use Rattle.std.proofs.Common.{length, map, max, unwrap_or, ltb, Less, Equal, Greater, if◌then◌else◌, refl, sym, ap, ◌∙◌}
use Rattle.std.proofs.Common.{arith}
use Rattle.std.specs.List.Sorted.{IsStrictlySortedBy}
use Rattle.std.specs.declared.cmp.Ordering.{Ordering}
use Rattle.definitions.proofs.Words.{AllByRecursion, ordering_reverse, Item, item_cmp, same_item, Range, contains}
use Rattle.definitions.proofs.Words.{IsSet, has, items_in, difference, symmetric_difference, Summary, IsExact, Part}
use Rattle.definitions.proofs.Words.{Sum, Listing, Answer, Message, has_open, opening, Table, shares, width, Peer}
use Rattle.definitions.proofs.Words.{Bounds, inner_cuts, cutup, sum_of, reply_to, reply, talk, talk_from, part_bound}
use Rattle.definitions.proofs.Words.{most_parts, start, messages, initiator_of, responder_of, PartsAreFew, CostClaim}
use Rattle.definitions.proofs.Words.{CostsLittle, MessagesFit, IsHonest}
use Rattle.definitions.proofs.Lemmas.{common_steps, length-append, mul-add, mul_comm, mul-le-mul_left, ltb-true}
use Rattle.definitions.proofs.Lemmas.{ltb-false, cases_lt, or_parts, nat_list_cmp_total, length-map, list_any-append}
use Rattle.definitions.proofs.Lemmas.{IsStrictlySortedBy-filter, filter-append, item_cmp-eq, same_item-itself}
use Rattle.definitions.proofs.Lemmas.{All-append, All-every}
use Rattle.laws.proofs.Tables.{length-shares, widest-positive, length-le-sum, sum-shares_by, shares_by-positive}
use Rattle.laws.proofs.Times.{when, times, times-append, times-filter, has-times, has-filter, times_le_one, times_below}
use Rattle.laws.proofs.Times.{all_above}
use Rattle.laws.proofs.Knowledge.{reply-in_open_le}
use Rattle.laws.proofs.Openings.{items_in-whole, opening_by, opening_honest, opening_spread, opening_is, opening_rises}
use Rattle.laws.proofs.Openings.{sums_open, opening_cuts, opening_cuts-rise}
use Rattle.laws.specs.Opening.{OpeningsAreExact}
use Rattle.definitions.proofs.Words.{opening_ranges, ranges_between, whole}
use Rattle.laws.proofs.Tallies.{tally, in_open, tally-in_open, tally-in_open-sums, replies_are_honest}
use Rattle.laws.proofs.Runs.{peer_at-IsSet}
use Rattle.laws.proofs.Cuts.{length-ranges_between, flat_map-ranges}
use Rattle.laws.proofs.PeerCuts.{peer_cutup, reply_to_sum}

-- ---- sets are equal where their items are

times_least : (x y : Item) (ys : List Item) → IsSet (y ∷ ys) → item_cmp x y ≡ Less → times x (y ∷ ys) ≡ 0
unfolding IsStrictlySortedBy
times_least x y ys set e = times_below x (y ∷ ys) (e, all_above x y ys e set.0)

times_head : (x : Item) (xs : List Item) → 1 ≤ times x (x ∷ xs)
times_head x xs = omega (arith, ap (λ b. when b 1) (same_item-itself x))

tail-IsSet : (x : Item) (xs : List Item) → IsSet (x ∷ xs) → IsSet xs
unfolding IsStrictlySortedBy
tail-IsSet x xs set = set.1

pub same_set : (A B : List Item) → IsSet A → IsSet B → ((z : Item) → times z A ≡ times z B) → A ≡ B
same_set [] [] a b same = refl
same_set [] (y ∷ ys) a b same = absurd (omega (arith, same y, times_head y ys))
same_set (x ∷ xs) [] a b same = absurd (omega (arith, same x, times_head x xs))
same_set (x ∷ xs) (y ∷ ys) a b same =
    let either : (o : Ordering) → item_cmp x y ≡ o → x ∷ xs ≡ y ∷ ys =
    elim [
      | Less ↦ λ e. absurd (omega (arith, same x, times_head x xs, times_least x y ys b e))
      | Equal ↦ λ e.
          let head : x ≡ y = item_cmp-eq x y e in
          let tails : (z : Item) → times z xs ≡ times z ys =
          λ z. omega (arith, same z, ap (λ u. when (same_item z u) 1) head) in
          ap (λ u. u ∷ xs) head ∙ ap (λ us. y ∷ us) (same_set xs ys (tail-IsSet x xs a) (tail-IsSet y ys b) tails)
      | Greater ↦ λ e. absurd (omega (
        arith,
        same y,
        times_head y ys,
        times_least y x xs a (nat_list_cmp_total.antisymm y x ∙ ap ordering_reverse e),
      ))
    ] in
    either (item_cmp x y) refl

-- ---- where no item differs

-- D has each item that one of A and B has and the other lacks
pub record HasDifference (D A B : List Item) : Type 0 where
  pub covers : (z : Item) → times z D ≡ 0 → times z A ≡ times z B

HasDifference-flip : (D A B : List Item) → HasDifference D A B → HasDifference D B A
HasDifference-flip D A B h = record { covers = λ z e. sym (h.covers z e) }

times_by_has : (z : Item) (A : List Item) → IsSet A → times z A ≡ when (has A z) 1
times_by_has z A set = grind (arith, ltb-true, times_le_one, ltb-false, has-times)

agree : (a b : Bool) → (not a && b) ≡ false → (not b && a) ≡ false → a ≡ b
agree a b h k = grind arith

HasDifference-symmetric : (A B : List Item) → IsSet A → IsSet B → HasDifference (symmetric_difference A B) A B
HasDifference-symmetric A B a b = record {
  covers = λ z e.
      let none : has (symmetric_difference A B) z ≡ false =
      has-times z (symmetric_difference A B) ∙ ap (λ n. ltb 0 n) e in
      let both = or_parts _ _ (sym (list_any-append (same_item z) (difference A B) (difference B A)) ∙ none) in
      let same : has A z ≡ has B z = agree (has A z) (has B z) (sym (has-filter (λ y. not (has A y)) z B) ∙ both.1)
      (sym (has-filter (λ y. not (has B y)) z A) ∙ both.0) in
      times_by_has z A a ∙ ap (λ v. when v 1) same ∙ sym (times_by_has z B b);
}

times_none : (z : Item) (xs : List Item) → length xs ≡ 0 → times z xs ≡ 0
times_none z xs h = grind (arith, common_steps)

same_in_range : (D A B : List Item) (X : Range) → IsSet A → IsSet B → HasDifference D A B → length (items_in D X) ≡ 0 →
    items_in A X ≡ items_in B X
same_in_range D A B X a b diff empty =
    let pointwise : (z : Item) → when (contains X z) (times z A) ≡ when (contains X z) (times z B) =
    λ z.
    let out : when (contains X z) (times z D) ≡ 0 =
    sym (times-filter (contains X) z D) ∙ times_none z (items_in D X) empty in
    let either : (c : Bool) → when c (times z D) ≡ 0 → when c (times z A) ≡ when c (times z B) = grind arith in
    either (contains X z) out in
    same_set (items_in A X) (items_in B X) (IsStrictlySortedBy-filter item_cmp (contains X) A a)
    (IsStrictlySortedBy-filter item_cmp (contains X) B b)
    (λ z. times-filter (contains X) z A ∙ pointwise z ∙ sym (times-filter (contains X) z B))

-- ---- widths

length-inner_cuts : (start : ℕ) (sizes : List ℕ) → length (inner_cuts start sizes) + 1 ≤ max 1 (length sizes)
length-inner_cuts start [] = omega arith
length-inner_cuts start (s ∷ []) = omega arith
length-inner_cuts start (s ∷ t ∷ ss) = omega (arith, length-inner_cuts (start + s) (t ∷ ss))

length-cutup : (b : Bounds) (A : List Item) (X : Range) (sizes : List ℕ) →
    length (cutup b A X sizes) ≤ max 1 (length sizes)
length-cutup b A X sizes = grind (arith, length-ranges_between, length-map, length-inner_cuts)

length-cutup-shares : (b : Bounds) (A : List Item) (X : Range) (T : Table) (n : ℕ) →
    length (cutup b A X (shares T n)) ≤ width T
length-cutup-shares b A X T n =
    omega (arith, length-cutup b A X (shares T n), length-shares T n, widest-positive T.rows)

length-shares-items : (T : Table) (n : ℕ) → max 1 (length (shares T n)) ≤ max 1 n
length-shares-items T n = grind (arith, sum-shares_by, length-le-sum, shares_by-positive, cases_lt)

-- no more parts than items, or one
length-cutup-items : (b : Bounds) (A : List Item) (X : Range) (T : Table) (n : ℕ) →
    length (cutup b A X (shares T n)) ≤ max 1 n
length-cutup-items b A X T n = omega (arith, length-cutup b A X (shares T n), length-shares-items T n)

-- ---- hits

-- how many items of D are in the range of an open part
abbrev hits : {F : Type 0} → List Item → Part F → ℕ
hits D (Sum X f) = length (items_in D X)
hits D (Listing X items) = length (items_in D X)
hits D (Answer X marks items) = 0

-- a list is sent only of a range that has an item of D
abbrev IsNews : {F : Type 0} → List Item → Part F → Type 0
IsNews D (Sum X f) = Unit {0}
IsNews D (Listing X items) = 1 ≤ length (items_in D X)
IsNews D (Answer X marks items) = Unit {0}

tally-no_hits : {F : Type 0} (M : Message F) → tally (hits []) M ≡ 0
tally-no_hits [] = refl
tally-no_hits (p ∷ ps) = grind (arith, tally-no_hits ps)

tally-hits_more : {F : Type 0} (x : Item) (D : List Item) (M : Message F) →
    tally (hits (x ∷ D)) M ≡ tally (in_open x 1) M + tally (hits D) M
tally-hits_more x D [] = omega arith
tally-hits_more x D (p ∷ ps) = grind (arith, tally-hits_more x D ps)

-- where no item lies in two open ranges, there are no more hits than items
tally-hits_le : {F : Type 0} (D : List Item) (M : Message F) → ((x : Item) → tally (in_open x 1) M ≤ 1) →
    tally (hits D) M ≤ length D
tally-hits_le [] M once = omega (arith, tally-no_hits M)
tally-hits_le (x ∷ D) M once = omega (arith, tally-hits_more x D M, once x, tally-hits_le D M once)

-- ---- replies

-- a range whose fingerprints differ has an item of D
hit_from_differs : {F : Type 0} (S : Summary F) (D A B : List Item) (X : Range) (f : F) → IsExact S → IsSet A →
    IsSet B → HasDifference D A B → f ≡ S.of (items_in A X) →
    S.same (S.of (items_in B X)) f ≡ false → 1 ≤ length (items_in D X)
hit_from_differs S D A B X f exact a b diff honest differs = grind (arith, same_in_range, cases_lt)

room : (w n k : ℕ) → k ≤ w → 1 ≤ n → k ≤ w * n
room w n k h some = let more : w * 1 ≤ w * n = mul-le-mul_left w some in omega arith

sums-IsNews : {F : Type 0} (S : Summary F) (D A : List Item) (Xs : List Range) →
    AllByRecursion (IsNews D) (map (sum_of S A) Xs)
sums-IsNews S D A [] = tt
sums-IsNews S D A (X ∷ Xs) = (tt, sums-IsNews S D A Xs)

-- Q cuts a range that has items of D into no more than w parts for each of them
record CutsFew (D : List Item) (w : ℕ) (Q : Peer) : Type 0 where
  one : 1 ≤ w
  cuts : (X : Range) → 1 ≤ length (items_in D X) → length (peer_cutup Q X) ≤ w * length (items_in D X)

reply_to-few : {F : Type 0} (S : Summary F) (D : List Item) (P Q : Peer) (w : ℕ) → IsExact S → IsSet P.items →
    IsSet Q.items → HasDifference D P.items Q.items → CutsFew D w Q →
    (p : Part F) → IsHonest S P.items p → IsNews D p →
    (length (reply_to S Q p) ≤ w * hits D p) × AllByRecursion (IsNews D) (reply_to S Q p)
reply_to-few S D P Q w exact own other diff wide p honest news =
    grind (arith, hit_from_differs, reply_to_sum, length-map, sums-IsNews, room)

reply-few : {F : Type 0} (S : Summary F) (D : List Item) (P Q : Peer) (w : ℕ) → IsExact S → IsSet P.items →
    IsSet Q.items → HasDifference D P.items Q.items → CutsFew D w Q →
    (M : Message F) → AllByRecursion (IsHonest S P.items) M → AllByRecursion (IsNews D) M →
    (length (reply S Q M) ≤ w * tally (hits D) M) × AllByRecursion (IsNews D) (reply S Q M)
reply-few S D P Q w exact own other diff wide [] honest news = (omega arith, tt)
reply-few S D P Q w exact own other diff wide (p ∷ ps) honest news =
    let here = reply_to-few S D P Q w exact own other diff wide p honest.0 news.0 in
    let rest = reply-few S D P Q w exact own other diff wide ps honest.1 news.1 in (
      omega (
        arith,
        here.0,
        rest.0,
        length-append (reply_to S Q p) (reply S Q ps),
        mul-add w (hits D p) (tally (hits D) ps),
      ),
      All-append (IsNews D) (reply_to S Q p) (reply S Q ps) here.1 rest.1,
    )

-- ---- talks

talk_from-few : {F : Type 0} (S : Summary F) (D : List Item) (w b : ℕ) → IsExact S → w * length D ≤ b →
    (k : ℕ) (P Q : Peer) → IsSet P.items → IsSet Q.items → HasDifference D P.items Q.items →
    CutsFew D w P → CutsFew D w Q → (M : Message F) → length M ≤ b → AllByRecursion (IsHonest S P.items) M →
    AllByRecursion (IsNews D) M → ((x : Item) → tally (in_open x 1) M ≤ 1) →
    AllByRecursion (λ N. length N ≤ b) (talk_from S P Q M k)
talk_from-few S D w b exact bound zero P Q own other diff wide wide' M short honest news once = tt
talk_from-few S D w b exact bound (suc k) P Q own other diff wide wide' M short honest news once =
    let few = reply-few S D P Q w exact own other diff wide' M honest news in
    let total : w * tally (hits D) M ≤ w * length D = mul-le-mul_left w (tally-hits_le D M once) in
    let more = talk_from-few S D w b exact bound k Q P other own (HasDifference-flip D P.items Q.items diff) wide' wide
    (reply S Q M) (omega (arith, few.0)) (replies_are_honest S Q M) few.1
    (λ x. omega (arith, reply-in_open_le S Q x 1 other M, tally-in_open x 1 M, once x)) in (
      short,
      elim (has_open M) as (λ v. AllByRecursion (λ N. length N ≤ b)
          (if v then talk_from S Q P (reply S Q M) k else [])) [ true ↦ more | false ↦ tt ],
    )

-- from the opening on
talk-few : {F : Type 0} (S : Summary F) (D : List Item) (w b : ℕ) → IsExact S → w * length D ≤ b →
    (k : ℕ) (I R : Peer) → length (opening S I) ≤ b → IsSet I.items → IsSet R.items → HasDifference D I.items R.items →
    CutsFew D w I → CutsFew D w R → AllByRecursion (λ N. length N ≤ b) (talk S I R k)
talk-few S D w b exact bound k I R first left right diff wide wide' =
    talk_from-few S D w b exact bound k I R left right diff wide wide' (opening S I) first
    (opening_honest S I) (sums-IsNews S D I.items (opening_ranges S I))
    (λ x. omega (arith, tally-in_open-sums S I.items x 1 (opening_ranges S I), opening_spread S I left x 1))

-- it begins with no more parts than the initiator has items, or with one
pub opening_fits : {F : Type 0} (S : Summary F) (I : Peer) → length (opening S I) ≤ max 1 (length I.items)
opening_fits S I = omega (
  arith,
  length-map (opening_ranges S I) (sum_of S I.items),
  opening_by S I (λ cs. length (ranges_between [] cs None) ≤ max 1 (length I.items))
      (omega (
        arith,
        length-cutup-items I.table.bounds I.items whole I.table (length (items_in I.items whole)),
        ap length (items_in-whole I.items),
      ))
      (omega arith),
)

-- ---- what a session opens with

pub openings_are_exact : {F : Type 0} (S : Summary F) → OpeningsAreExact S
openings_are_exact S P set = record {
  first = opening_is S P;
  honest = opening_honest S P;
  rise = opening_rises S P set;
  all_open = sums_open S P.items (opening_ranges S P);
  whole = λ D is. flat_map-ranges D is [] (opening_cuts S P) None (opening_cuts-rise S P set) ∙ items_in-whole D;
  few = opening_fits S P;
}

-- ---- parts

by_width : (D : List Item) (Q : Peer) (w : ℕ) → width Q.table ≤ w → CutsFew D w Q
by_width D Q w wide = record {
  one = omega (arith, widest-positive Q.table.rows);
  cuts = λ X some. room w (length (items_in D X)) (length (peer_cutup Q X)) (omega (
    arith,
    length-cutup-shares Q.table.bounds Q.items X Q.table (length (items_in Q.items X)),
  )) some;
}

-- only the sets matter, and the widths
pub few_parts : {F : Type 0} (S : Summary F) → PartsAreFew S
few_parts S exact I R k left right =
    let D : List Item = symmetric_difference I.items R.items in
    let w : ℕ = max (width I.table) (width R.table) in
    talk-few S D w (part_bound S I R) exact (omega (arith, mul_comm w (length D))) k I R (omega arith) left right
    (HasDifference-symmetric I.items R.items left right)
    (by_width D I w (omega arith)) (by_width D R w (omega arith))

-- where D has what Q has
by_items : (D : List Item) (Q : Peer) → ((X : Range) → length (items_in Q.items X) ≤ length (items_in D X)) →
    CutsFew D 1 Q
by_items D Q holds = record {
  one = omega arith;
  cuts = λ X some. omega
      (arith, length-cutup-items Q.table.bounds Q.items X Q.table (length (items_in Q.items X)), holds X);
}

HasDifference-both : (A B : List Item) → HasDifference (A ++ B) A B
HasDifference-both A B = record { covers = λ z e. let a = times-append z A B in omega arith }

length-both : (A B : List Item) (X : Range) →
    length (items_in (A ++ B) X) ≡ length (items_in A X) + length (items_in B X)
length-both A B X = ap length (filter-append (contains X) A B) ∙ length-append (items_in A X) (items_in B X)

pub messages_fit : {F : Type 0} (S : Summary F) → MessagesFit S
messages_fit S exact I R k left right =
    let D : List Item = I.items ++ R.items in
    talk-few S D 1 (max 1 (length I.items + length R.items)) exact (omega (arith, length-append I.items R.items))
    k I R (omega (arith, opening_fits S I)) left right (HasDifference-both I.items R.items)
    (by_items D I (λ X. omega (arith, length-both I.items R.items X)))
    (by_items D R (λ X. omega (arith, length-both I.items R.items X)))

-- ---- the most parts of a message

most_parts_le : {F : Type 0} (Ms : List (Message F)) (b : ℕ) → AllByRecursion (λ M. length M ≤ b) Ms → most_parts Ms ≤ b
most_parts_le [] b h = omega arith
most_parts_le (M ∷ Ms) b h = omega (arith, h.0, most_parts_le Ms b h.1)

pub most_parts-append : {F : Type 0} (Ms Ns : List (Message F)) →
    most_parts (Ms ++ Ns) ≡ max (most_parts Ms) (most_parts Ns)
most_parts-append [] Ns = omega arith
most_parts-append (M ∷ Ms) Ns = omega (arith, most_parts-append Ms Ns)

pub cost_claim : {F : Type 0} (S : Summary F) → CostClaim S
cost_claim S exact w = All-every (CostsLittle S w) (λ s.
    let few = few_parts S exact (initiator_of w s) (responder_of w s) (s.delivered + 1)
    (peer_at-IsSet w s.initiator_node s.initiator_version)
    (peer_at-IsSet w s.responder_node (unwrap_or s.responder_version 0)) in
    record {
      few_parts = few;
      reported = most_parts_le (messages S w s) (part_bound S (initiator_of w s) (responder_of w s)) few;
    }) w.sessions
