-- Honest replies are placed, and open ranges do not overlap.
-- An honest reply is placed: a Sum that differs is listed or cut by two shares or more, and an Answer marks each
-- listed item and offers none of them.
-- Apart: the pieces of one open part lie in its range, and a partition's parts do not overlap. So what a placed
-- message opens does not overlap, if what it follows does not. A reply is placed, so the same holds of replies, and by
-- induction of talks.
-- docs/LAWS.md: An honest reply is placed; Open ranges do not overlap.
use Rattle.std.proofs.Common.{◌≡◌, ℕ, Bool, true, false, not, List, [], ◌∷◌, ◌++◌, length, refl, sym, ap, inl, inr}
use Rattle.std.proofs.Common.{arith, if◌then◌else◌, ◌<◌, subst, ◌∙◌, map, ◌≤◌, IsTrue, ◌⊎◌, Option, Some, None}
use Rattle.definitions.proofs.Words.{IsSet, IsOpening, opening_ranges, whole}
use Rattle.std.specs.Prelude.{IsFalse}
use Rattle.definitions.proofs.Words.{AllByRecursion, Item, Range, cut_range, Rises, Apart, comes_before, is_below}
use Rattle.definitions.proofs.Words.{ranges_between, has, items_in, difference, Part, Sum, Listing, Answer, Message}
use Rattle.definitions.proofs.Words.{open_parts, RangesRise, range_of, is_open, open_ranges, opening, AreSums}
use Rattle.definitions.proofs.Words.{FollowsAll, Follows, CutsUp, Lists, Answers, RepliesArePlaced, RepliesAreApart}
use Rattle.definitions.proofs.Words.{PlacedAreApart, TalksAreApart, Summary, act, shares, is_split, IsRankTable, Peer}
use Rattle.definitions.proofs.Words.{inner_cuts, bound_at, cutup, sum_of, differing, answer_to, reply_to, reply}
use Rattle.definitions.proofs.Lemmas.{All-filter, not-true, false≢true, length-map, map-append, filter-append}
use Rattle.definitions.proofs.Lemmas.{below-trans, before-irrefl, not_before-trans, before-asym, upto-below, All-map}
use Rattle.definitions.proofs.Lemmas.{All-append}
use Rattle.laws.proofs.Cuts.{span, CutsRise}
use Rattle.laws.proofs.PeerCuts.{reply-rises, talk_from-All, length-items_in-le_all}
use Rattle.laws.proofs.Placing.{false_from, chain_below, rises_append}
use Rattle.laws.proofs.Openings.{sums-AreSums, sum_ranges, opening_cuts, opening_cuts-rise}

-- ==== An honest reply is placed

-- what is not listed is answered alone
not_listed : (xs listed : List Item) → AllByRecursion (λ x. IsFalse (has listed x)) (difference xs listed)
not_listed xs listed =
    All-map _ _ (λ x e. not-true _ e) (difference xs listed) (All-filter (λ x. not (has listed x)) xs)

-- two shares or more have a cut
some_cut : {X : Type 0} (g : ℕ → X) (sizes : List ℕ) → 2 ≤ length sizes → 0 < length (map g (inner_cuts 0 sizes))
some_cut g [] h = absurd (omega arith)
some_cut g (s ∷ []) h = absurd (omega arith)
some_cut g (s ∷ t ∷ ss) h = omega arith

-- a range that differs is listed or cut up
differing-Follows : {F : Type 0} (S : Summary F) (P : Peer) (X : Range) (n : ℕ) (b : Bool) →
    (IsTrue b → 2 ≤ length (shares P.table n)) →
    Lists X
    (if b then map (sum_of S P.items) (cutup P.table.bounds P.items X (shares P.table n))
    else Listing X (items_in P.items X) ∷ [])
    ⊎ CutsUp X
    (if b then map (sum_of S P.items) (cutup P.table.bounds P.items X (shares P.table n))
    else Listing X (items_in P.items X) ∷ [])
differing-Follows S P X n true h =
    inr (
      map (bound_at P.table.bounds (items_in P.items X)) (inner_cuts 0 (shares P.table n)),
      some_cut _ (shares P.table n) (h refl),
      sums-AreSums S P.items _,
    )
differing-Follows S P X n false h = inl (items_in P.items X, refl)

-- the reply to an open part is what may follow it
reply_to-Follows : {F : Type 0} (S : Summary F) (P : Peer) (f : List ℕ) → IsRankTable P.table f →
    length P.items ≤ P.table.cap →
    (X : Range) (g : F) → Follows (Sum X g) (reply_to S P (Sum X g))
reply_to-Follows S P f ranks room X g =
    let n = length (items_in P.items X) in
    let in_cap : n ≤ P.table.cap = omega (arith, length-items_in-le_all P.items X) in
    elim (S.same (S.of (items_in P.items X)) g) as (λ b. Follows (Sum X g) (if b then [] else differing S P X)) [
      | true ↦ inl refl
      | false ↦ inr (differing-Follows S P X n (is_split (act P.table n)) (λ s. (ranks.descends n in_cap s).0))
    ]

answer_to-Answers : {F : Type 0} (A : List Item) (X : Range) (listed : List Item) →
    Answers X listed (answer_to {F = F} A X listed ∷ [])
answer_to-Answers A X listed = (
  map (λ x. not (has A x)) listed,
  difference (items_in A X) listed,
  refl,
  length-map listed _,
  not_listed (items_in A X) listed,
)

-- an honest reply is placed
pub replies_are_placed : {F : Type 0} (S : Summary F) → RepliesArePlaced S
replies_are_placed S P f [] ranks room = refl
replies_are_placed S P f (Sum X g ∷ ps) ranks room = (
  reply_to S P (Sum X g),
  reply S P ps,
  refl,
  reply_to-Follows S P f ranks room X g,
  replies_are_placed S P f ps ranks room,
)
replies_are_placed S P f (Listing X listed ∷ ps) ranks room = (
  reply_to S P (Listing X listed),
  reply S P ps,
  refl,
  answer_to-Answers P.items X listed,
  replies_are_placed S P f ps ranks room,
)
replies_are_placed S P f (Answer X marks items ∷ ps) ranks room = replies_are_placed S P f ps ranks room

-- ==== What a reply opens does not overlap, and what a placed message opens does not

-- ---- ranges

-- Y begins no earlier than X and ends no later
abbrev IsPiece : Range → Range → Type 0
IsPiece X Y =
    (comes_before Y.lower X.lower ≡ false) × ((z : Item) → is_below z Y.upper ≡ true → is_below z X.upper ≡ true)

-- Y begins where u is, or after it
abbrev IsAfter : Option (List ℕ) → Range → Type 0
IsAfter u Y = is_below Y.lower u ≡ false

-- and the pieces of what is after a bound are after it
piece_after : (u : Option (List ℕ)) (X Y : Range) → IsPiece X Y → IsAfter u X → IsAfter u Y
piece_after u X Y p after = false_from _ (λ e. false≢true (sym after ∙ upto-below X.lower Y.lower u p.0 e))

itself : (X : Range) → IsPiece X X
itself X = (before-irrefl X.lower, λ z h. h)

Apart-append : (Xs Ys : List Range) → Apart Xs → Apart Ys →
    AllByRecursion (λ X. AllByRecursion (IsAfter X.upper) Ys) Xs → Apart (Xs ++ Ys)
Apart-append [] Ys a b h = b
Apart-append (X ∷ Xs) Ys a b h = (a.0, All-append (IsAfter X.upper) Xs Ys a.1 h.0, Apart-append Xs Ys a.2 b h.1)

-- ---- the ranges of a cut

ranges-after : (u : Option (List ℕ)) (x : List ℕ) (cs : List (List ℕ)) (y : Option (List ℕ)) → CutsRise x cs y →
    is_below x u ≡ false → AllByRecursion (IsAfter u) (ranges_between x cs y)
ranges-after u x [] y rise h = (h, tt)
ranges-after u x (c ∷ cs) y rise h =
    (h, ranges-after u c cs y rise.2 (false_from _ (λ e. false≢true (sym h ∙ below-trans x c u rise.0 e))))

pub ranges-Apart : (x : List ℕ) (cs : List (List ℕ)) (y : Option (List ℕ)) → is_below x y ≡ true → CutsRise x cs y →
    Apart (ranges_between x cs y)
ranges-Apart x [] y h rise = (h, tt, tt)
ranges-Apart x (c ∷ cs) y h rise =
    (rise.0, ranges-after (Some c) c cs y rise.2 (before-irrefl c), ranges-Apart c cs y rise.1 rise.2)

ranges-pieces : (x : List ℕ) (cs : List (List ℕ)) (y : Option (List ℕ)) → CutsRise x cs y →
    AllByRecursion (IsPiece (span x y)) (ranges_between x cs y)
ranges-pieces x [] y rise = (itself (span x y), tt)
ranges-pieces x (c ∷ cs) y rise =
    grind (arith, ranges-pieces c cs y rise.2, before-irrefl, below-trans, All-map, not_before-trans, before-asym)

-- ---- what belongs to one open range, and then to the others

-- ranges apart, each a piece of X
record ArePieces (X : Range) (Ys : List Range) : Type 0 where
  apart : Apart Ys
  pieces : AllByRecursion (IsPiece X) Ys

no_pieces : (X : Range) → ArePieces X []
no_pieces X = record { apart = tt; pieces = tt }

one_piece : (X : Range) → Rises X → ArePieces X (X ∷ [])
one_piece X h = record { apart = (h, tt, tt); pieces = (itself X, tt) }

cut_pieces : (X : Range) (cs : List (List ℕ)) → Rises X → CutsRise X.lower cs X.upper → ArePieces X (cut_range X cs)
cut_pieces X cs h rise =
    record { apart = ranges-Apart X.lower cs X.upper h rise; pieces = ranges-pieces X.lower cs X.upper rise }

-- for each of the ranges its pieces, in order
abbrev PiecesOf : List Range → List Range → Type 0
PiecesOf [] Zs = Zs ≡ []
PiecesOf (X ∷ Xs) Zs = (Ys : List Range) × (rest : List Range) × (Zs ≡ Ys ++ rest) × ArePieces X Ys × PiecesOf Xs rest

pieces-after : (u : Option (List ℕ)) (Xs Zs : List Range) → PiecesOf Xs Zs → AllByRecursion (IsAfter u) Xs →
    AllByRecursion (IsAfter u) Zs
pieces-after u [] Zs h b = subst (AllByRecursion (IsAfter u)) (sym h) tt
pieces-after u (X ∷ Xs) Zs (Ys, rest, is, p, more) b =
    grind (arith, pieces-after u Xs rest more b.1, All-append, All-map, piece_after)

pieces-Apart : (Xs Zs : List Range) → PiecesOf Xs Zs → Apart Xs → Apart Zs
pieces-Apart [] Zs h a = subst Apart (sym h) tt
pieces-Apart (X ∷ Xs) Zs (Ys, rest, is, p, more) a =
    grind (arith, pieces-Apart Xs rest more a.2, pieces-after, Apart-append, All-map)

-- ---- open ranges

open_ranges-append : {F : Type 0} (M N : Message F) → open_ranges (M ++ N) ≡ open_ranges M ++ open_ranges N
open_ranges-append M N =
    ap (map range_of) (filter-append is_open M N) ∙ map-append range_of (open_parts M) (open_parts N)

-- ---- placed messages

pub sums-cuts : {F : Type 0} (x : List ℕ) (cs : List (List ℕ)) (y : Option (List ℕ)) (ps : Message F) →
    AreSums (ranges_between x cs y) ps → RangesRise ps → CutsRise x cs y
sums-cuts x [] y ps h r = tt
sums-cuts x (c ∷ cs) y [] h r = absurd h
sums-cuts x (c ∷ cs) y (Sum Y f ∷ ps) h r =
    (subst Rises h.0 r.0, chain_below c cs y ps h.1 r.1, sums-cuts c cs y ps h.1 r.1)
sums-cuts x (c ∷ cs) y (Listing Y items ∷ ps) h r = absurd h
sums-cuts x (c ∷ cs) y (Answer Y marks items ∷ ps) h r = absurd h

sums-open : {F : Type 0} (Xs : List Range) (ps : Message F) → AreSums Xs ps → open_ranges ps ≡ Xs
sums-open [] [] h = refl
sums-open [] (p ∷ ps) h = absurd h
sums-open (X ∷ Xs) [] h = absurd h
sums-open (X ∷ Xs) (Sum Y f ∷ ps) h = ap (λ Z. Z ∷ open_ranges ps) h.0 ∙ ap (λ Zs. X ∷ Zs) (sums-open Xs ps h.1)
sums-open (X ∷ Xs) (Listing Y items ∷ ps) h = absurd h
sums-open (X ∷ Xs) (Answer Y marks items ∷ ps) h = absurd h

follows-pieces : {F : Type 0} (p : Part F) (front : Message F) → Rises (range_of p) → RangesRise front →
    Follows p front → ArePieces (range_of p) (open_ranges front)
follows-pieces p front h r none = grind (arith, no_pieces, one_piece, sums-open, cut_pieces, sums-cuts)

all-pieces : {F : Type 0} (left M : Message F) → Apart (map range_of left) → RangesRise M → FollowsAll left M →
    PiecesOf (map range_of left) (open_ranges M)
all-pieces [] M a r h = ap open_ranges h
all-pieces (p ∷ left) M a r (front, rest, is, follows, more) =
    let both = rises_append front rest (subst RangesRise is r) in (
      open_ranges front,
      open_ranges rest,
      ap open_ranges is ∙ open_ranges-append front rest,
      follows-pieces p front a.0 both.0 follows,
      all-pieces left rest a.2 both.1 more,
    )

pub placed_are_apart : {F : Type 0} → PlacedAreApart F
placed_are_apart sent M a r h = pieces-Apart (open_ranges sent) (open_ranges M) (all-pieces (open_parts sent) M a r h) a

-- ---- replies, which are placed

pub open-rise : {F : Type 0} (M : Message F) → Apart (open_ranges M) →
    AllByRecursion (λ p. is_open p ≡ true → Rises (range_of p)) M
open-rise [] a = tt
open-rise (Sum X g ∷ ps) a = (λ e. a.0, open-rise ps a.2)
open-rise (Listing X items ∷ ps) a = (λ e. a.0, open-rise ps a.2)
open-rise (Answer X marks items ∷ ps) a = (λ e. absurd (false≢true e), open-rise ps a)

pub replies_are_apart : {F : Type 0} (S : Summary F) → RepliesAreApart S
replies_are_apart S P f M r a = placed_are_apart M (reply S P M) a (reply-rises S P f r M (open-rise M a))
    (replies_are_placed S P f M r.ranks r.room)

-- ---- what a session opens with

pub opening_apart : {F : Type 0} (S : Summary F) (P : Peer) → IsSet P.items → Apart (open_ranges (opening S P))
opening_apart S P set = subst Apart (sym (sum_ranges S P.items (opening_ranges S P)))
    (ranges-Apart [] (opening_cuts S P) None refl (opening_cuts-rise S P set))

-- and what any first message opens, whose ranges rise
pub opens_apart : {F : Type 0} (cut : Bool) (M : Message F) → RangesRise M → IsOpening cut M → Apart (open_ranges M)
opens_apart cut M rise (cuts, one, sums) = subst Apart (sym (sums-open (cut_range whole cuts) M sums))
    (ranges-Apart [] cuts None refl (sums-cuts [] cuts None M sums rise))

pub talks_are_apart : {F : Type 0} (S : Summary F) → TalksAreApart S
talks_are_apart S I R f g k i r =
    talk_from-All S (λ N. Apart (open_ranges N)) I R (λ M a. replies_are_apart S I f M i a)
    (λ M a. replies_are_apart S R g M r a) (opening S I) k (opening_apart S I i.set)
