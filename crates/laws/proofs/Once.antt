-- What is learned from placed messages is learned once: an item that is learned lay in an open range, and lies in none
-- afterwards.
-- Count for one item x. What a message teaches of x is at most the number of its Lists and Answers whose range has x:
-- each lists items of its range, each once, and an Answer marks items that our message listed there once. In a placed
-- message the parts that belong to one open part of ours lie in its range, and x lies in at most one of them. So the
-- Lists, Answers and Sums of the message whose range has x are at most as many as our open ranges that have x, and
-- these are at most one, since they do not overlap.
-- A Sum is what is open next. So x is taught, or may still be, at most once in all. If x was known before, it is in no
-- open range of ours, and nothing of it comes.
-- docs/LAWS.md: Nothing is learned twice.
use Rattle.std.proofs.Common.{◌≡◌, ℕ, ◌+◌, ◌≤◌, Bool, true, false, not, ◌||◌, List, [], ◌∷◌, ◌++◌, ltb, if◌then◌else◌}
use Rattle.std.proofs.Common.{refl, sym, ap, subst, ◌∙◌, inl, inr, ◌⊎◌, arith}
use Rattle.std.specs.Prelude.{IsTrue, IsFalse}
use Rattle.std.specs.List.{IsDistinct}
use Rattle.definitions.proofs.Words.{AllByRecursion, items_where_true, Item, same_item, Range, Apart, contains}
use Rattle.definitions.proofs.Words.{is_below, cut_range, same_range, IsSet, has, items_in, difference, Summary, Part}
use Rattle.definitions.proofs.Words.{Sum, Listing, Answer, Message, RangesRise, range_of, open_parts, open_ranges}
use Rattle.definitions.proofs.Words.{Profile, AreItemsOf, IsPart, AreSums, Follows, FollowsAll, Placed, reply, learn}
use Rattle.definitions.proofs.Words.{listed_in, IsHonest, lies_open, LearnsOnce}
use Rattle.definitions.proofs.Lemmas.{false≢true, lt-ltb, ltb-true, ltb-false, le-ltb, and_parts, not-true, cases_lt}
use Rattle.definitions.proofs.Lemmas.{or_cases, same_item-eq, same_item-itself, same_range-eq, upto-below}
use Rattle.laws.proofs.Times.{when, times, times-append, times-filter, has-times, times_le_one, IsDistinct-from_times}
use Rattle.laws.proofs.Cuts.{spread, spread-ranges_between}
use Rattle.laws.proofs.Knowledge.{reply-in_open_le}
use Rattle.laws.proofs.Tallies.{tally, tally-append, in_sum, in_open}
use Rattle.laws.proofs.Placing.{rises_append}
use Rattle.laws.proofs.OpenRanges.{sums-cuts}
use Rattle.laws.proofs.Ends.{parts_have_ranges}

-- ---- items of a list

when_le : (b : Bool) (n : ℕ) → when b n ≤ n
when_le b n = grind arith

when_both : (b : Bool) (m n : ℕ) → m ≤ n → when b m ≤ when b n
when_both b m n h = grind arith

-- what is in the list has what each of its items has
of_all : (P : Item → Type 0) (xs : List Item) (x : Item) → AllByRecursion P xs → has xs x ≡ true → P x
of_all P [] x all h = absurd (false≢true h)
of_all P (y ∷ ys) x all h = elim (or_cases (same_item x y) (has ys x) h) [
  | inl e ↦ subst P (sym (same_item-eq x y e)) all.0
  | inr later ↦ of_all P ys x all.1 later
]

all_of : (P : Item → Type 0) (xs : List Item) → ((x : Item) → has xs x ≡ true → P x) → AllByRecursion P xs
all_of P [] h = tt
all_of P (y ∷ ys) h =
    (h y (ap (λ b. b || has ys y) (same_item-itself y)), all_of P ys (λ x there. h x (either x there))) where
      either : (x : Item) → has ys x ≡ true → has (y ∷ ys) x ≡ true
      either x there = elim (same_item x y) as (λ b. (b || has ys x) ≡ true) [ true ↦ refl | false ↦ there ]

times-where_true : (x : Item) (marks : List Bool) (xs : List Item) → times x (items_where_true marks xs) ≤ times x xs
times-where_true x [] xs = omega arith
times-where_true x (mark ∷ marks) [] = omega arith
times-where_true x (true ∷ marks) (y ∷ ys) = omega (arith, times-where_true x marks ys)
times-where_true x (false ∷ marks) (y ∷ ys) = omega (arith, times-where_true x marks ys)

-- an item of a part, which lies in its range
times-inside : (x : Item) (X : Range) (items : List Item) → AreItemsOf X items → times x items ≤ when (contains X x) 1
times-inside x X items are = by (contains X x) refl where
  by : (b : Bool) → contains X x ≡ b → times x items ≤ when b 1
  by true e = times_le_one x items are.rises
  by false e = elim (cases_lt 0 (times x items)) [
    | inl some ↦ absurd (false≢true (sym e
        ∙ of_all (λ y. IsTrue (contains X y)) items x are.inside (has-times x items ∙ lt-ltb 0 (times x items) some)))
    | inr none ↦ none
  ]

times-items_in : (x : Item) (X : Range) (A : List Item) → IsSet A → times x (items_in A X) ≤ when (contains X x) 1
times-items_in x X A set = let e = times-filter (contains X) x A in
    let l = when_both (contains X x) (times x A) 1 (times_le_one x A set) in omega arith

times-difference_le : (x : Item) (A B : List Item) → times x (difference A B) ≤ times x A
times-difference_le x A B = let e = times-filter (λ y. not (has B y)) x A in
    let l = when_le (not (has B x)) (times x A) in omega arith

-- ---- what one message teaches

-- one where the part tells items of a range that has x
abbrev in_told : {F : Type 0} → Item → Part F → ℕ
in_told x (Sum X f) = 0
in_told x (Listing X items) = when (contains X x) 1
in_told x (Answer X marks items) = when (contains X x) 1

listed_either : {F : Type 0} (S : Summary F) (A : List Item) (sent : Message F) (X : Range) →
    AllByRecursion (IsHonest S A) sent → (listed_in sent X ≡ []) ⊎ (listed_in sent X ≡ items_in A X)
listed_either S A [] X h = inl refl
listed_either S A (Sum Y f ∷ ps) X h = listed_either S A ps X h.1
listed_either S A (Answer Y marks items ∷ ps) X h = listed_either S A ps X h.1
listed_either S A (Listing Y items ∷ ps) X h = by (listed_either S A ps X h.1) (same_range Y X) refl where
  by : (listed_in ps X ≡ []) ⊎ (listed_in ps X ≡ items_in A X) → (b : Bool) → same_range Y X ≡ b →
      ((if b then items else listed_in ps X) ≡ []) ⊎ ((if b then items else listed_in ps X) ≡ items_in A X)
  by later true e = inr (h.0 ∙ ap (λ Z. items_in A Z) (same_range-eq Y X e))
  by later false e = later

times-listed : {F : Type 0} (S : Summary F) (x : Item) (A : List Item) (sent : Message F) (X : Range) → IsSet A →
    AllByRecursion (IsHonest S A) sent → times x (listed_in sent X) ≤ when (contains X x) 1
times-listed S x A sent X set h = grind (arith, listed_either S A sent X h, times-items_in x X A set)

learn-ours_le : {F : Type 0} (S : Summary F) (Q : Profile F) (x : Item) (A : List Item) (sent M : Message F) → IsSet A →
    AllByRecursion (IsHonest S A) sent → AllByRecursion (IsPart Q) M →
    times x (learn A sent M).ours ≤ tally (in_told x) M
learn-ours_le S Q x A sent [] set h parts = omega arith
learn-ours_le S Q x A sent (Sum X f ∷ ps) set h parts = omega (arith, learn-ours_le S Q x A sent ps set h parts.1)
learn-ours_le S Q x A sent (Listing X listed ∷ ps) set h parts =
    omega (
      arith,
      times-append x (difference (items_in A X) listed) (learn A sent ps).ours,
      times-difference_le x (items_in A X) listed,
      times-items_in x X A set,
      learn-ours_le S Q x A sent ps set h parts.1,
    )
learn-ours_le S Q x A sent (Answer X marks items ∷ ps) set h parts =
    omega (
      arith,
      times-append x (items_where_true marks (listed_in sent X)) (learn A sent ps).ours,
      times-where_true x marks (listed_in sent X),
      times-listed S x A sent X set h,
      learn-ours_le S Q x A sent ps set h parts.1,
    )

learn-theirs_le : {F : Type 0} (Q : Profile F) (x : Item) (A : List Item) (sent M : Message F) →
    AllByRecursion (IsPart Q) M → times x (learn A sent M).theirs ≤ tally (in_told x) M
learn-theirs_le Q x A sent [] parts = omega arith
learn-theirs_le Q x A sent (p ∷ ps) parts =
    grind (arith, learn-theirs_le Q x A sent ps parts.1, times-append, times-difference_le, times-inside)

-- ---- the ranges of a placed message

-- one where the part's range has x
abbrev in_any : {F : Type 0} → Item → Part F → ℕ
in_any x p = when (contains (range_of p) x) 1

tally-in_any : {F : Type 0} (x : Item) (M : Message F) → tally (in_any x) M ≡ tally (in_sum x 1) M + tally (in_told x) M
tally-in_any x [] = omega arith
tally-in_any x (p ∷ ps) = grind (arith, tally-in_any x ps)

tally-open_parts : {F : Type 0} (x : Item) (M : Message F) → tally (in_open x 1) (open_parts M) ≡ tally (in_open x 1) M
tally-open_parts x [] = refl
tally-open_parts x (p ∷ ps) = grind (arith, tally-open_parts x ps)

tally-sums_any : {F : Type 0} (x : Item) (Xs : List Range) (ps : Message F) → AreSums Xs ps →
    tally (in_any x) ps ≡ spread x 1 Xs
tally-sums_any x [] [] h = refl
tally-sums_any x [] (p ∷ ps) h = absurd h
tally-sums_any x (X ∷ Xs) [] h = absurd h
tally-sums_any x (X ∷ Xs) (Sum Y f ∷ ps) h =
    omega (arith, ap (λ Z. when (contains Z x) 1) h.0, tally-sums_any x Xs ps h.1)
tally-sums_any x (X ∷ Xs) (Listing Y items ∷ ps) h = absurd h
tally-sums_any x (X ∷ Xs) (Answer Y marks items ∷ ps) h = absurd h

follows-le : {F : Type 0} (x : Item) (p : Part F) (front : Message F) → RangesRise front → Follows p front →
    tally (in_any x) front ≤ in_open x 1 p
follows-le x (Sum X f) front r (inl none) = omega (arith, ap (tally (in_any x)) none)
follows-le x (Sum X f) front r (inr (inl (items, one))) = omega (arith, ap (tally (in_any x)) one)
follows-le x (Sum X f) front r (inr (inr (cs, some, sums))) =
    omega (
      arith,
      tally-sums_any x (cut_range X cs) front sums,
      spread-ranges_between x 1 X.lower cs X.upper (sums-cuts X.lower cs X.upper front sums r),
    )
follows-le x (Listing X listed) front r (marks, items, one, count, fresh) = omega (arith, ap (tally (in_any x)) one)
follows-le x (Answer X marks items) front r none = omega (arith, ap (tally (in_any x)) none)

all-le : {F : Type 0} (x : Item) (left M : Message F) → RangesRise M → FollowsAll left M →
    tally (in_any x) M ≤ tally (in_open x 1) left
all-le x [] M r h = omega (arith, ap (tally (in_any x)) h)
all-le x (p ∷ left) M r (front, rest, is, follows, more) =
    let both = rises_append front rest (subst RangesRise is r) in
    omega (
      arith,
      ap (tally (in_any x)) is,
      tally-append (in_any x) front rest,
      follows-le x p front both.0 follows,
      all-le x left rest both.1 more,
    )

placed-le : {F : Type 0} (x : Item) (sent M : Message F) → RangesRise M → Placed sent M →
    tally (in_any x) M ≤ tally (in_open x 1) sent
placed-le x sent M r h = omega (arith, all-le x (open_parts sent) M r h, tally-open_parts x sent)

-- ---- open ranges that are apart have an item once

one_more : (b a : Bool) (n : ℕ) → a ≡ ltb 0 n → (b || a) ≡ ltb 0 (when b 1 + n)
one_more b a n h = grind arith

lies_open-tally : {F : Type 0} (x : Item) (M : Message F) → lies_open M x ≡ ltb 0 (tally (in_open x 1) M)
lies_open-tally x [] = refl
lies_open-tally x (p ∷ ps) = grind (arith, lies_open-tally x ps, one_more)

-- an item of X lies in no range after X
outside : (X Y : Range) (x : Item) → contains X x ≡ true → is_below Y.lower X.upper ≡ false → contains Y x ≡ false
outside X Y x h after = grind (arith, false≢true, upto-below, not-true, and_parts)

none_later : {F : Type 0} (X : Range) (ps : Message F) (x : Item) → contains X x ≡ true →
    AllByRecursion (λ Y. IsFalse (is_below Y.lower X.upper)) (open_ranges ps) → tally (in_open x 1) ps ≡ 0
none_later X [] x h all = refl
none_later X (Sum Y f ∷ ps) x h all =
    omega (arith, ap (λ b. when b 1) (outside X Y x h all.0), none_later X ps x h all.1)
none_later X (Listing Y items ∷ ps) x h all =
    omega (arith, ap (λ b. when b 1) (outside X Y x h all.0), none_later X ps x h all.1)
none_later X (Answer Y marks items ∷ ps) x h all = omega (arith, none_later X ps x h all)

first_or_later : {F : Type 0} (X : Range) (ps : Message F) (x : Item) →
    AllByRecursion (λ Y. IsFalse (is_below Y.lower X.upper)) (open_ranges ps) → tally (in_open x 1) ps ≤ 1 →
    when (contains X x) 1 + tally (in_open x 1) ps ≤ 1
first_or_later X ps x all few = by (contains X x) refl where
  by : (b : Bool) → contains X x ≡ b → when b 1 + tally (in_open x 1) ps ≤ 1
  by true e = omega (arith, none_later X ps x e all)
  by false e = omega arith

apart-once : {F : Type 0} (M : Message F) → Apart (open_ranges M) → (x : Item) → tally (in_open x 1) M ≤ 1
apart-once [] a x = omega arith
apart-once (Sum X f ∷ ps) a x = first_or_later X ps x a.1 (apart-once ps a.2 x)
apart-once (Listing X items ∷ ps) a x = first_or_later X ps x a.1 (apart-once ps a.2 x)
apart-once (Answer X marks items ∷ ps) a x = omega (arith, apart-once ps a x)

-- ---- what is settled, by numbers

times_apart : (x : Item) (ys : List Item) → AllByRecursion (λ y. same_item x y ≡ false) ys → times x ys ≡ 0
times_apart x [] h = refl
times_apart x (y ∷ ys) h = omega (arith, ap (λ b. when b 1) h.0, times_apart x ys h.1)

times_distinct : (x : Item) (ys : List Item) → IsDistinct same_item ys → times x ys ≤ 1
unfolding IsDistinct
times_distinct x [] h = omega arith
times_distinct x (y ∷ ys) h = by (times_distinct x ys h.1) (same_item x y) refl where
  by : times x ys ≤ 1 → (b : Bool) → same_item x y ≡ b → when b 1 + times x ys ≤ 1
  by later true e = let none =
      times_apart x ys (subst (λ z. AllByRecursion (λ y. same_item z y ≡ false) ys) (sym (same_item-eq x y e)) h.0) in
      omega arith
  by later false e = omega arith

known_le : {F : Type 0} (ys : List Item) (sent : Message F) → IsDistinct same_item ys →
    AllByRecursion (λ y. IsFalse (lies_open sent y)) ys → Apart (open_ranges sent) → (x : Item) →
    times x ys + tally (in_open x 1) sent ≤ 1
known_le ys sent once closed apart x = elim (cases_lt 0 (times x ys)) [
  | inl some ↦
      let shut : lies_open sent x ≡ false =
      of_all (λ y. IsFalse (lies_open sent y)) ys x closed (has-times x ys ∙ lt-ltb 0 (times x ys) some) in
      omega
      (arith, times_distinct x ys once, ltb-false 0 (tally (in_open x 1) sent) (sym (lies_open-tally x sent) ∙ shut))
  | inr none ↦ omega (arith, apart-once sent apart x)
]

closed_by : {F : Type 0} (ys : List Item) (M : Message F) → ((x : Item) → times x ys + tally (in_open x 1) M ≤ 1) →
    AllByRecursion (λ y. IsFalse (lies_open M y)) ys
closed_by ys M few = all_of (λ y. IsFalse (lies_open M y)) ys
    (λ y there.
    let some = ltb-true 0 (times y ys) (sym (has-times y ys) ∙ there) in
    lies_open-tally y M ∙ le-ltb 0 (tally (in_open y 1) M) (omega (arith, few y)))

pub learns_once : {F : Type 0} (S : Summary F) → LearnsOnce S
learns_once S Q P k sent M set honest apart right placed settled =
    let l = learn P.items sent M in
    let rises = parts_have_ranges Q M right in
    let few : (x : Item) → tally (in_told x) M + tally (in_open x 1) (reply S P M) ≤ tally (in_open x 1) sent =
    λ x. omega (arith, placed-le x sent M rises placed, tally-in_any x M, reply-in_open_le S P x 1 set M) in
    let ours : (x : Item) → times x (k.ours ++ l.ours) + tally (in_open x 1) (reply S P M) ≤ 1 =
    λ x. omega (
      arith,
      times-append x k.ours l.ours,
      learn-ours_le S Q x P.items sent M set honest right,
      few x,
      known_le k.ours sent settled.ours settled.ours_closed apart x,
    ) in
    let theirs : (x : Item) → times x (k.theirs ++ l.theirs) + tally (in_open x 1) (reply S P M) ≤ 1 =
    λ x. omega (
      arith,
      times-append x k.theirs l.theirs,
      learn-theirs_le Q x P.items sent M right,
      few x,
      known_le k.theirs sent settled.theirs settled.theirs_closed apart x,
    ) in
    record {
      ours = IsDistinct-from_times (k.ours ++ l.ours) (λ x. omega (arith, ours x));
      theirs = IsDistinct-from_times (k.theirs ++ l.theirs) (λ x. omega (arith, theirs x));
      ours_closed = closed_by (k.ours ++ l.ours) (reply S P M) ours;
      theirs_closed = closed_by (k.theirs ++ l.theirs) (reply S P M) theirs;
    }
