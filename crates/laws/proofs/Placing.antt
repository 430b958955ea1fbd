-- What may follow a message: the relation, and the reading part by part.
-- Accepted is placed: by induction over the message, for both places at once, outside a partition (`Outside`) and
-- inside one that has come to a bound (`Inside`). Each part that is accepted goes to the front of the pieces that the
-- rest gives; a refusal stays, so it cannot come to a good end.
-- Placed is accepted: the pieces of the relation are read back one by one. An open part without pieces is skipped,
-- which is the right choice since no later open range begins where it does; the ranges sent do not overlap. Inside a
-- partition each Sum begins where the one before ended, and the received ranges rise.
-- docs/LAWS.md: The placing part by part is the relation.
use Rattle.std.proofs.Common.{rules, ◌≡◌, ℕ, Bool, true, false, not, ◌&&◌, List, [], ◌∷◌, ◌++◌, length, refl, sym, ap}
use Rattle.std.proofs.Common.{inl, inr, arith, if◌then◌else◌, ◌<◌, subst, ◌∙◌, map, Option, Some}
use Rattle.std.specs.Prelude.{None, fold, IsFalse, ◌==◌, bytes_eq, ⊤}
use Rattle.definitions.proofs.Words.{AllByRecursion, list_any, same_text, Item, Range, cut_range, same_range}
use Rattle.definitions.proofs.Words.{same_upper, same_item, whole, Rises, Apart, comes_before, is_below, ranges_between}
use Rattle.definitions.proofs.Words.{has, Part, Sum, Listing, Answer, Message, open_parts, IsOpening, RangesRise}
use Rattle.definitions.proofs.Words.{range_of, AreSums, FollowsAll, Placed, Place, After, Refused, next, next_sum}
use Rattle.definitions.proofs.Words.{next_answer, next_inside, finish, ends_before, placed_to, place_fault}
use Rattle.definitions.proofs.Words.{opening_fault, Follows, misplaced, stall, gap, missing_answer, mark_count}
use Rattle.definitions.proofs.Words.{answer_repeats, OpeningIsExact, PlacingIsExact}
use Rattle.definitions.proofs.Lemmas.{none_passes, list_any-none, not-false, eqb-true, and_parts, eq-eqb, false≢true}
use Rattle.definitions.proofs.Lemmas.{and_from, same_range-eq, same_item-itself, same_range-itself, below-trans}
use Rattle.definitions.proofs.Lemmas.{before-irrefl, append-nil}

-- ==== What the placing accepts part by part is placed

-- a refusal stays
refused : {F : Type 0} (code : ℕ) (M : Message F) → finish (fold next (Refused code) M) ≡ None → ⊥
refused code [] h = cc
refused code (p ∷ M) h = refused code M h

-- the rest of a partition of Z, and then what may follow the parts that are left
abbrev GoesOn : {F : Type 0} → Message F → Range → Message F → Type 0
GoesOn {F} left Z M = (cuts : List (List ℕ)) × (front : Message F) × (rest : Message F) × (M ≡ front ++ rest)
    × AreSums (cut_range Z cuts) front × FollowsAll left rest

-- the parts of M are accepted from here on
abbrev pub Accepts : {F : Type 0} → Message F → Place F → Type 0
Accepts M at = finish (fold next at M) ≡ None

abbrev Outside : {F : Type 0} → Message F → Type 0
Outside {F} M = (left : Message F) → Accepts M (After left None) → FollowsAll left M

abbrev Inside : {F : Type 0} → Message F → Type 0
Inside {F} M = (left : Message F) (Z : Range) → Accepts M (After left (Some Z)) → GoesOn left Z M

-- by cases on a test
if-cases : {X : Type 0} (P : X → Type 0) (C : Type 0) (b : Bool) (x y : X) → (b ≡ true → P x → C) →
    (b ≡ false → P y → C) → P (if b then x else y) → C
if-cases P C b x y first second h = grind arith

outside_none : {F : Type 0} → Outside {F = F} []
outside_none [] h = refl
outside_none (Sum X f ∷ left) h = ([], [], refl, inl refl, outside_none left h)
outside_none (Listing X listed ∷ left) h = cc
outside_none (Answer X marks items ∷ left) h = ([], [], refl, refl, outside_none left h)

-- a partition that has come to u
comes_to : {F : Type 0} (M : Message F) → Inside M → (left : Message F) (u y : Option (List ℕ)) →
    ends_before u y ≡ true →
    Accepts M (placed_to left u y) → (z : List ℕ) × (u ≡ Some z) × GoesOn left (record { lower = z; upper = y }) M
comes_to M ins left u y e h = grind arith

-- one Sum more of a partition of Z
one_more : {F : Type 0} (M : Message F) (left : Message F) (Z Y : Range) (g : F) → Y.lower ≡ Z.lower →
    (z : List ℕ) × (Y.upper ≡ Some z) × GoesOn left (record { lower = z; upper = Z.upper }) M →
    GoesOn left Z (Sum Y g ∷ M)
one_more M left Z Y g lower (z, upper, (cuts, front, rest, is, sums, follows)) =
    let first : Y ≡ record { lower = Z.lower; upper = Some z } = λ i. record { lower = lower i; upper = upper i } in
    (z ∷ cuts, Sum Y g ∷ front, rest, ap (λ ps. Sum Y g ∷ ps) is, (first, sums), follows)

inside_sum : {F : Type 0} (M : Message F) → Outside M → Inside M → (left : Message F) (Z Y : Range) (g : F) →
    Accepts M (next_inside left Z (Sum Y g)) → GoesOn left Z (Sum Y g ∷ M)
inside_sum M out ins left Z Y g =
    if-cases (Accepts M) _ (same_range Y Z) _ _
    (λ e h. ([], Sum Y g ∷ [], M, refl, (same_range-eq Y Z e, tt), out left h))
    (λ _. if-cases (Accepts M) _ (same_item Y.lower Z.lower && ends_before Y.upper Z.upper) _ _
    (λ e h. search (rules, and_parts, one_more, comes_to))
    (λ _ h. absurd (refused gap M h)))

inside_more : {F : Type 0} (M : Message F) → Outside M → Inside M → (p : Part F) → Inside (p ∷ M)
inside_more M out ins (Sum Y g) left Z h = inside_sum M out ins left Z Y g h
inside_more M out ins (Listing Y items) left Z h = absurd (refused gap M h)
inside_more M out ins (Answer Y marks items) left Z h = absurd (refused gap M h)

outside_answer : {F : Type 0} (M : Message F) → Outside M →
    (left : Message F) (X : Range) (listed : List Item) (Y : Range) (marks : List Bool) (items : List Item) →
    Accepts M (next_answer left X listed Y marks items) →
    FollowsAll (Listing X listed ∷ left) (Answer Y marks items ∷ M)
outside_answer M out left X listed Y marks items =
    if-cases (Accepts M) _ (not (same_range X Y)) _ _ (λ _ h. absurd (refused misplaced M h))
    (λ range. if-cases (Accepts M) _ (not (length marks == length listed)) _ _ (λ _ h. absurd (refused mark_count M h))
    (λ count. if-cases (Accepts M) _ (list_any (has listed) items) _ _ (λ _ h. absurd (refused answer_repeats M h))
    (λ fresh h.
    let is : X ≡ Y = same_range-eq X Y (not-false _ range) in (
      Answer Y marks items ∷ [],
      M,
      refl,
      (
        marks,
        items,
        ap (λ Z. Answer Z marks items ∷ []) (sym is),
        eqb-true _ _ (not-false _ count),
        none_passes (has listed) items fresh,
      ),
      out left h,
    ))))

-- the first Sum of a partition of X
cut_up : {F : Type 0} (M : Message F) (left : Message F) (X Y : Range) (f g : F) → X.lower ≡ Y.lower →
    (z : List ℕ) × (Y.upper ≡ Some z) × GoesOn left (record { lower = z; upper = X.upper }) M →
    FollowsAll (Sum X f ∷ left) (Sum Y g ∷ M)
cut_up M left X Y f g lower (z, upper, (cuts, front, rest, is, sums, follows)) =
    let first : Y ≡ record { lower = X.lower; upper = Some z } = λ i. record { lower = sym lower i; upper = upper i } in
    (Sum Y g ∷ front, rest, ap (λ ps. Sum Y g ∷ ps) is, inr (inr (z ∷ cuts, omega arith, (first, sums))), follows)

outside_sum : {F : Type 0} (M : Message F) → Inside M → (left : Message F) (X Y : Range) (f g : F) → X.lower ≡ Y.lower →
    Accepts M (next_sum left X Y) → FollowsAll (Sum X f ∷ left) (Sum Y g ∷ M)
outside_sum M ins left X Y f g lower =
    if-cases (Accepts M) _ (same_upper X.upper Y.upper) _ _ (λ _ h. absurd (refused stall M h))
    (λ _. if-cases (Accepts M) _ (ends_before Y.upper X.upper) _ _
    (λ e h. cut_up M left X Y f g lower (comes_to M ins left Y.upper X.upper e h))
    (λ _ h. absurd (refused misplaced M h)))

outside_more : {F : Type 0} (M : Message F) → Outside M → Inside M → (p : Part F) → Outside (p ∷ M)
outside_more M out ins p [] h = absurd (refused misplaced M h)
outside_more M out ins (Answer Y marks items) (Listing X listed ∷ left) h =
    outside_answer M out left X listed Y marks items h
outside_more M out ins (Sum Y g) (Listing X listed ∷ left) h = absurd (refused missing_answer M h)
outside_more M out ins (Listing Y items) (Listing X listed ∷ left) h = absurd (refused missing_answer M h)
outside_more M out ins (Listing Y items) (Sum X f ∷ left) h =
    if-cases (Accepts M) _ (same_range X Y) _ _
    (λ e h. (
      Listing Y items ∷ [],
      M,
      refl,
      inr (inl (items, ap (λ Z. Listing Z items ∷ []) (sym (same_range-eq X Y e)))),
      out left h,
    ))
    (λ _ h. ([], Listing Y items ∷ M, refl, inl refl, outside_more M out ins (Listing Y items) left h)) h
outside_more M out ins (Sum Y g) (Sum X f ∷ left) h =
    if-cases (Accepts M) _ (same_item X.lower Y.lower) _ _
    (λ e h. outside_sum M ins left X Y f g (same_text X.lower Y.lower (sym e)) h)
    (λ _ h. ([], Sum Y g ∷ M, refl, inl refl, outside_more M out ins (Sum Y g) left h)) h
outside_more M out ins (Answer Y marks items) (Sum X f ∷ left) h =
    ([], _, refl, inl refl, outside_more M out ins (Answer Y marks items) left h)
outside_more M out ins p (Answer X marks items ∷ left) h = ([], _, refl, refl, outside_more M out ins p left h)

both_sides : {F : Type 0} (M : Message F) → Outside M × Inside M
both_sides [] = (outside_none, λ left Z h. cc)
both_sides (p ∷ M) = grind (arith, both_sides M, outside_more, inside_more)

-- what is accepted part by part is placed
pub Placed-from_accepted : {F : Type 0} (sent M : Message F) → place_fault sent M ≡ None → Placed sent M
Placed-from_accepted sent M h = (both_sides M).0 (open_parts sent) h

-- ---- a first message

-- what goes on from everything to the end partitions it
opens : {F : Type 0} (M : Message F) → GoesOn [] whole M → (cuts : List (List ℕ)) × AreSums (cut_range whole cuts) M
opens {F} M (cuts, front, rest, is, sums, none) = (
  cuts,
  subst (AreSums (cut_range whole cuts)) (sym (is ∙ ap (λ ps. front ++ ps) none ∙ append-nil front)) sums,
)

pub opening-accepted : {F : Type 0} (cut : Bool) (M : Message F) → opening_fault cut M ≡ None → IsOpening cut M
opening-accepted cut [] h = absurd cc
opening-accepted cut (Listing X items ∷ M) h = absurd (refused misplaced M h)
opening-accepted cut (Answer X marks items ∷ M) h = absurd (refused misplaced M h)
opening-accepted cut (Sum Y f ∷ M) h =
    if-cases (Accepts M) _ (same_range Y whole) _ _
    (λ e one. (
      [],
      λ may. refl,
      subst (λ N. AreSums (whole ∷ []) (Sum Y f ∷ N)) (sym ((both_sides M).0 [] one)) (same_range-eq Y whole e, tt),
    ))
    (λ _. if-cases (Accepts M) _ (cut && same_item Y.lower whole.lower && ends_before Y.upper whole.upper) _ _
    (λ e more.
    let both = and_parts _ _ e in
    let parts = and_parts _ _ both.0 in
    let partition = opens (Sum Y f ∷ M) (one_more M [] whole Y f (same_text Y.lower [] (sym parts.1))
    (comes_to M (both_sides M).1 [] Y.upper None both.1 more)) in
    (partition.0, λ may. absurd (false≢true (sym may ∙ parts.0)), partition.1))
    (λ _ no. absurd (refused misplaced M no))) h

-- ==== What is placed is accepted part by part

pub false_from : (b : Bool) → (b ≡ true → ⊥) → b ≡ false
false_from b h = grind arith

-- a lower bound is not the one that it is before
other_lower : (x y : List ℕ) → comes_before x y ≡ true → bytes_eq x y ≡ false
other_lower x y h = false_from _ (λ e. let same : x ≡ y = same_text x y (sym e) in
    false≢true (sym (before-irrefl x) ∙ subst (λ z. comes_before x z ≡ true) (sym same) h))

-- the bound at the end of a chain of rising ranges is above its beginning
pub chain_below : {F : Type 0} (x : List ℕ) (cuts : List (List ℕ)) (y : Option (List ℕ)) (ps : Message F) →
    AreSums (ranges_between x cuts y) ps → RangesRise ps → is_below x y ≡ true
chain_below x [] y [] h r = absurd h
chain_below x [] y (p ∷ ps) h r = grind (arith)
chain_below x (cut ∷ cuts) y [] h r = absurd h
chain_below x (cut ∷ cuts) y (Sum Y f ∷ ps) h r = grind (arith, chain_below cut cuts y ps h.1 r.1, cut, below-trans)
chain_below x (cut ∷ cuts) y (Listing Y items ∷ ps) h r = absurd h
chain_below x (cut ∷ cuts) y (Answer Y marks items ∷ ps) h r = absurd h

if-true : {X : Type 0} (b : Bool) (x y : X) → b ≡ true → (if b then x else y) ≡ x
if-true b x y h = cc

upper_differs : (cut : List ℕ) (y : Option (List ℕ)) → is_below cut y ≡ true → same_upper (Some cut) y ≡ false
upper_differs cut None h = refl
upper_differs cut (Some y) h = other_lower cut y h

-- a partition of Z goes on to cut, or ends
next_inside-more : {F : Type 0} (left : Message F) (Z : Range) (cut : List ℕ) (f : F) → is_below cut Z.upper ≡ true →
    next (After left (Some Z)) (Sum (record { lower = Z.lower; upper = Some cut }) f)
    ≡ After left (Some (record { lower = cut; upper = Z.upper }))
next_inside-more left Z cut f h = grind (arith, upper_differs, cut, if-true, and_from, same_item-itself)

inside_accepted : {F : Type 0} (left : Message F) (z : List ℕ) (cuts : List (List ℕ)) (y : Option (List ℕ))
    (front rest : Message F) →
    AreSums (ranges_between z cuts y) front → RangesRise front → Accepts rest (After left None) →
    Accepts (front ++ rest) (After left (Some (record { lower = z; upper = y })))
inside_accepted left z [] y [] rest h r a = absurd h
inside_accepted left z [] y (Sum Y f ∷ []) rest h r a = search rules
inside_accepted left z [] y (Sum Y f ∷ p ∷ ps) rest h r a = absurd h.1
inside_accepted left z [] y (p ∷ ps) rest h r a = grind (arith)
inside_accepted left z (cut ∷ cuts) y [] rest h r a = absurd h
inside_accepted left z (cut ∷ cuts) y (Sum Y f ∷ ps) rest h r a =
    let goes : is_below cut y ≡ true = chain_below cut cuts y ps h.1 r.1 in
    subst (λ (Z : Range). Accepts (ps ++ rest) (next (After left (Some (record { lower = z; upper = y }))) (Sum Z f)))
    (sym h.0)
    (subst (Accepts (ps ++ rest)) (sym (next_inside-more left (record { lower = z; upper = y }) cut f goes))
    (inside_accepted left cut cuts y ps rest h.1 r.1 a))
inside_accepted left z (cut ∷ cuts) y (Listing Y items ∷ ps) rest h r a = absurd h
inside_accepted left z (cut ∷ cuts) y (Answer Y marks items ∷ ps) rest h r a = absurd h

-- ---- a first message

-- the parts after the first
parts_accepted : {F : Type 0} (z : List ℕ) (cuts : List (List ℕ)) (ps : Message F) →
    AreSums (ranges_between z cuts None) ps → Accepts ps (After [] (Some (record { lower = z; upper = None })))
parts_accepted z [] [] h = absurd h
parts_accepted z [] (Sum Y f ∷ []) h = search rules
parts_accepted z [] (Sum Y f ∷ p ∷ ps) h = absurd h.1
parts_accepted z [] (Listing Y items ∷ ps) h = absurd h
parts_accepted z [] (Answer Y marks items ∷ ps) h = absurd h
parts_accepted z (cut ∷ cuts) [] h = absurd h
parts_accepted z (cut ∷ cuts) (Sum Y f ∷ ps) h =
    subst (λ (Z : Range). Accepts ps (next (After [] (Some (record { lower = z; upper = None }))) (Sum Z f))) (sym h.0)
    (subst (Accepts ps) (sym (next_inside-more [] (record { lower = z; upper = None }) cut f refl))
    (parts_accepted cut cuts ps h.1))
parts_accepted z (cut ∷ cuts) (Listing Y items ∷ ps) h = absurd h
parts_accepted z (cut ∷ cuts) (Answer Y marks items ∷ ps) h = absurd h

pub accepted-opening : {F : Type 0} (cut : Bool) (M : Message F) → IsOpening cut M → opening_fault cut M ≡ None
accepted-opening cut [] ([], one, sums) = absurd sums
accepted-opening cut [] (c ∷ cs, one, sums) = absurd sums
accepted-opening cut (Listing Y items ∷ M) ([], one, sums) = absurd sums
accepted-opening cut (Listing Y items ∷ M) (c ∷ cs, one, sums) = absurd sums
accepted-opening cut (Answer Y marks items ∷ M) ([], one, sums) = absurd sums
accepted-opening cut (Answer Y marks items ∷ M) (c ∷ cs, one, sums) = absurd sums
accepted-opening cut (Sum Y f ∷ p ∷ M) ([], one, sums) = absurd sums.1
accepted-opening cut (Sum Y f ∷ []) ([], one, sums) =
    subst (λ (Z : Range). opening_fault cut (Sum Z f ∷ []) ≡ None) (sym sums.0) refl
accepted-opening false (Sum Y f ∷ M) (c ∷ cs, one, sums) = let no : c ∷ cs ≡ [] = one refl in absurd cc
accepted-opening true (Sum Y f ∷ M) (c ∷ cs, one, sums) =
    subst (λ (Z : Range). opening_fault true (Sum Z f ∷ M) ≡ None) (sym sums.0) (parts_accepted c cs M sums.1)

pub opening_exact : {F : Type 0} → OpeningIsExact F
opening_exact cut M = (opening-accepted cut M, accepted-opening cut M)

-- the first Sum of a partition of X
next_sum-first : {F : Type 0} (left : Message F) (X : Range) (cut : List ℕ) (f g : F) → is_below cut X.upper ≡ true →
    next (After (Sum X f ∷ left) None) (Sum (record { lower = X.lower; upper = Some cut }) g)
    ≡ After left (Some (record { lower = cut; upper = X.upper }))
next_sum-first left X cut f g h = search (rules, if-true, same_item-itself, cut, false_from, false≢true, before-irrefl)

-- the message does not begin with an open part at this bound
abbrev BeginsElsewhere : {F : Type 0} → List ℕ → Message F → Type 0
BeginsElsewhere x [] = ⊤
BeginsElsewhere x (Sum Y f ∷ ps) = bytes_eq x Y.lower ≡ false
BeginsElsewhere x (Listing Y items ∷ ps) = bytes_eq x Y.lower ≡ false
BeginsElsewhere x (Answer Y marks items ∷ ps) = ⊤

skipped : {F : Type 0} (left : Message F) (X : Range) (f : F) (M : Message F) → BeginsElsewhere X.lower M →
    Accepts M (After left None) → Accepts M (After (Sum X f ∷ left) None)
skipped left X f M e a = grind arith

elsewhere : {F : Type 0} (x : List ℕ) (left M : Message F) →
    AllByRecursion (λ p. bytes_eq x (range_of p).lower ≡ false) left → FollowsAll left M → BeginsElsewhere x M
elsewhere x [] M e h = subst (BeginsElsewhere x) (sym h) tt
elsewhere x (Sum Y g ∷ left) M e (front, rest, is, inl none, more) =
    subst (BeginsElsewhere x) (sym (is ∙ ap (λ ps. ps ++ rest) none)) (elsewhere x left rest e.1 more)
elsewhere x (Sum Y g ∷ left) M e (front, rest, is, inr (inl (items, one)), more) =
    subst (BeginsElsewhere x) (sym (is ∙ ap (λ ps. ps ++ rest) one)) e.0
elsewhere {F = F} x (Sum Y g ∷ left) M e (front, rest, is, inr (inr (cuts, some, sums)), more) =
    subst (BeginsElsewhere x) (sym is) (first_sum cuts front some sums)
  where
    first_sum : (cuts : List (List ℕ)) (ps : Message F) → 0 < length cuts → AreSums (cut_range Y cuts) ps →
        BeginsElsewhere x (ps ++ rest)
    first_sum [] ps some sums = absurd (omega arith)
    first_sum (cut ∷ cuts) [] some sums = absurd sums
    first_sum (cut ∷ cuts) (Sum Z f ∷ ps) some sums = subst (λ (W : Range). bytes_eq x W.lower ≡ false) (sym sums.0) e.0
    first_sum (cut ∷ cuts) (Listing Z items ∷ ps) some sums = absurd sums
    first_sum (cut ∷ cuts) (Answer Z marks items ∷ ps) some sums = absurd sums
elsewhere x (Listing Y listed ∷ left) M e (front, rest, is, (marks, items, one, count, fresh), more) =
    subst (BeginsElsewhere x) (sym (is ∙ ap (λ ps. ps ++ rest) one)) tt
elsewhere x (Answer Y marks items ∷ left) M e (front, rest, is, none, more) =
    subst (BeginsElsewhere x) (sym (is ∙ ap (λ ps. ps ++ rest) none)) (elsewhere x left rest e.1 more)

pub rises_append : {F : Type 0} (ps qs : Message F) → RangesRise (ps ++ qs) → RangesRise ps × RangesRise qs
rises_append [] qs h = (tt, h)
rises_append (p ∷ ps) qs h = let both = rises_append ps qs h.1 in ((h.0, both.0), both.1)

-- no later range begins where X does
later_elsewhere : {F : Type 0} (X : Range) (left : Message F) → Rises X →
    AllByRecursion (λ Y. IsFalse (is_below Y.lower X.upper)) (map range_of left) →
    AllByRecursion (λ p. bytes_eq X.lower (range_of p).lower ≡ false) left
later_elsewhere X [] r h = tt
later_elsewhere X (p ∷ left) r h = (
  false_from _ (λ e. let same : X.lower ≡ (range_of p).lower = same_text X.lower (range_of p).lower (sym e) in
      let clash : true ≡ false = sym (subst (λ z. is_below z X.upper ≡ true) same r) ∙ h.0 in cc),
  later_elsewhere X left r h.1,
)

next_answer-placed : {F : Type 0} (left : Message F) (X : Range) (listed items : List Item) (marks : List Bool) →
    length marks ≡ length listed → AllByRecursion (λ x. IsFalse (has listed x)) items →
    next (After (Listing X listed ∷ left) None) (Answer X marks items) ≡ After left None
next_answer-placed left X listed items marks count fresh = grind (arith, same_range-itself, eq-eqb, list_any-none)

past_answer : {F : Type 0} (left M : Message F) (X : Range) (marks : List Bool) (items : List Item) →
    Accepts M (After left None) → Accepts M (After (Answer X marks items ∷ left) None)
past_answer left [] X marks items a = a
past_answer left (p ∷ M) X marks items a = a

cut_accepted : {F : Type 0} (left : Message F) (X : Range) (f : F) (cuts : List (List ℕ)) (front rest : Message F) →
    0 < length cuts →
    AreSums (cut_range X cuts) front → RangesRise front → Accepts rest (After left None) →
    Accepts (front ++ rest) (After (Sum X f ∷ left) None)
cut_accepted left X f [] front rest some sums r a = absurd (omega arith)
cut_accepted left X f (cut ∷ cuts) [] rest some sums r a = absurd sums
cut_accepted left X f (cut ∷ cuts) (Sum Y g ∷ ps) rest some sums r a =
    let goes : is_below cut X.upper ≡ true = chain_below cut cuts X.upper ps sums.1 r.1 in
    subst (λ (Z : Range). Accepts (ps ++ rest) (next (After (Sum X f ∷ left) None) (Sum Z g))) (sym sums.0)
    (subst (Accepts (ps ++ rest)) (sym (next_sum-first left X cut f g goes))
    (inside_accepted left cut cuts X.upper ps rest sums.1 r.1 a))
cut_accepted left X f (cut ∷ cuts) (Listing Y items ∷ ps) rest some sums r a = absurd sums
cut_accepted left X f (cut ∷ cuts) (Answer Y marks items ∷ ps) rest some sums r a = absurd sums

-- what is placed after parts whose ranges do not overlap is accepted
accepted : {F : Type 0} (left M : Message F) → Apart (map range_of left) → RangesRise M → FollowsAll left M →
    Accepts M (After left None)
accepted [] M apart r h = subst (λ ms. Accepts ms (After [] None)) (sym h) refl
accepted (p ∷ left) M apart r (front, rest, is, follows, more) =
    let both = rises_append front rest (subst RangesRise is r) in
    subst (λ ms. Accepts ms (After (p ∷ left) None)) (sym is)
    (after_one p left front rest apart both.0 follows more (accepted left rest apart.2 both.1 more))
  where
    after_one : {F : Type 0} (p : Part F) (left front rest : Message F) → Apart (map range_of (p ∷ left)) →
        RangesRise front → Follows p front → FollowsAll left rest →
        Accepts rest (After left None) → Accepts (front ++ rest) (After (p ∷ left) None)
    after_one (Sum X f) left front rest apart r (inl none) more a =
        subst (λ ps. Accepts (ps ++ rest) (After (Sum X f ∷ left) None)) (sym none)
        (skipped left X f rest (elsewhere X.lower left rest (later_elsewhere X left apart.0 apart.1) more) a)
    after_one (Sum X f) left front rest apart r (inr (inl (items, one))) more a =
        subst (λ ps. Accepts (ps ++ rest) (After (Sum X f ∷ left) None)) (sym one)
        (subst (Accepts rest) (sym (if-true _ _ _ (same_range-itself X))) a)
    after_one (Sum X f) left front rest apart r (inr (inr (cuts, some, sums))) more a =
        cut_accepted left X f cuts front rest some sums r a
    after_one (Listing X listed) left front rest apart r (marks, items, one, count, fresh) more a =
        subst (λ ps. Accepts (ps ++ rest) (After (Listing X listed ∷ left) None)) (sym one)
        (subst (Accepts rest) (sym (next_answer-placed left X listed items marks count fresh)) a)
    after_one (Answer X marks items) left front rest apart r none more a =
        subst (λ ps. Accepts (ps ++ rest) (After (Answer X marks items ∷ left) None)) (sym none)
        (past_answer left rest X marks items a)

-- the placing part by part accepts exactly what is placed
pub placing_is_exact : (F : Type 0) → PlacingIsExact F
placing_is_exact F sent M apart r = (Placed-from_accepted sent M, accepted (open_parts sent) M apart r)
