-- The ranges of a session's messages climb.
-- What follows one open part begins where that part does, and each next range where the one before ends; the last ends
-- where the part does. So what follows parts that do not overlap climbs from any bound that all of them are after. A
-- reply follows the open parts of what it replies to (OpenRanges), and those of a talk do not overlap.
-- docs/LAWS.md: The compact spelling.
use Rattle.std.proofs.Common.{◌≡◌, ℕ, false, List, [], ◌∷◌, ◌++◌, map, Option, Some, None, refl, sym, subst, inl, inr}
use Rattle.definitions.proofs.Words.{AllByRecursion, Range, Apart, comes_before, is_below, ranges_between, Part, Sum}
use Rattle.definitions.proofs.Words.{Listing, Answer, Message, range_of, open_parts, open_ranges, opening, Follows}
use Rattle.definitions.proofs.Words.{FollowsAll, AreSums, Summary, Peer, reply, talk}
use Rattle.definitions.proofs.Lemmas.{before-irrefl, append-nil, false≢true, All-map}
use Rattle.definitions.specs.Compact.{Climbs}
use Rattle.laws.specs.Compact.{OpeningsClimb, PlacedClimb, RepliesClimb, TalksClimb}
use Rattle.laws.proofs.PeerCuts.{talk_from-All}
use Rattle.laws.proofs.Openings.{sums-AreSums, opening_cuts}
use Rattle.laws.proofs.OpenRanges.{replies_are_placed, replies_are_apart, opening_apart}

-- x is where z is, or after it
abbrev IsFromHere : Option (List ℕ) → List ℕ → Type 0
IsFromHere z x = is_below x z ≡ false

-- so a part that begins at x may follow
begins_here : {F : Type 0} (z : Option (List ℕ)) (p : Part F) (ps : Message F) → IsFromHere z (range_of p).lower →
    Climbs (range_of p).upper ps → Climbs z (p ∷ ps)
begins_here None p ps h more = absurd (false≢true (sym h))
begins_here (Some z) p ps h more = (h, more)

sums_climb : {F : Type 0} (z : Option (List ℕ)) (x : List ℕ) (cs : List (List ℕ)) (y : Option (List ℕ))
    (ps rest : Message F) → AreSums (ranges_between x cs y) ps → IsFromHere z x → Climbs y rest → Climbs z (ps ++ rest)
sums_climb z x [] y [] rest sums h more = absurd sums
sums_climb z x [] y (Sum Y f ∷ []) rest sums h more = begins_here z (Sum Y f) rest
    (subst (λ (X : Range). IsFromHere z X.lower) (sym sums.0) h)
    (subst (λ (X : Range). Climbs X.upper rest) (sym sums.0) more)
sums_climb z x [] y (Sum Y f ∷ p ∷ ps) rest sums h more = absurd sums.1
sums_climb z x [] y (Listing Y items ∷ ps) rest sums h more = absurd sums
sums_climb z x [] y (Answer Y marks items ∷ ps) rest sums h more = absurd sums
sums_climb z x (c ∷ cs) y [] rest sums h more = absurd sums
sums_climb z x (c ∷ cs) y (Sum Y f ∷ ps) rest sums h more = begins_here z (Sum Y f) (ps ++ rest)
    (subst (λ (X : Range). IsFromHere z X.lower) (sym sums.0) h)
    (subst (λ (X : Range). Climbs X.upper (ps ++ rest)) (sym sums.0)
    (sums_climb (Some c) c cs y ps rest sums.1 (before-irrefl c) more))
sums_climb z x (c ∷ cs) y (Listing Y items ∷ ps) rest sums h more = absurd sums
sums_climb z x (c ∷ cs) y (Answer Y marks items ∷ ps) rest sums h more = absurd sums

-- what follows an open part, and then what climbs from where that ends; or what climbs from z, where nothing follows
one_climbs : {F : Type 0} (z : Option (List ℕ)) (p : Part F) (front rest : Message F) → Follows p front →
    IsFromHere z (range_of p).lower → Climbs z rest → Climbs (range_of p).upper rest → Climbs z (front ++ rest)
one_climbs z (Sum X f) front rest (inl none) h skipped more =
    subst (λ (M : Message _). Climbs z (M ++ rest)) (sym none) skipped
one_climbs z (Sum X f) front rest (inr (inl (items, is))) h skipped more =
    subst (λ (M : Message _). Climbs z (M ++ rest)) (sym is) (begins_here z (Listing X items) rest h more)
one_climbs z (Sum X f) front rest (inr (inr (cuts, some, sums))) h skipped more =
    sums_climb z X.lower cuts X.upper front rest sums h more
one_climbs z (Listing X listed) front rest (marks, items, is, count, alone) h skipped more =
    subst (λ (M : Message _). Climbs z (M ++ rest)) (sym is) (begins_here z (Answer X marks items) rest h more)
one_climbs z (Answer X marks items) front rest none h skipped more =
    subst (λ (M : Message _). Climbs z (M ++ rest)) (sym none) skipped

all_climb : {F : Type 0} (z : Option (List ℕ)) (left M : Message F) → Apart (map range_of left) →
    AllByRecursion (λ Y. IsFromHere z Y.lower) (map range_of left) → FollowsAll left M → Climbs z M
all_climb z [] M apart after none = subst (Climbs z) (sym none) tt
all_climb z (p ∷ left) M apart after (front, rest, is, follows, more) = subst (Climbs z) (sym is)
    (one_climbs z p front rest follows after.0 (all_climb z left rest apart.2 after.1 more)
    (all_climb (range_of p).upper left rest apart.2 apart.1 more))

-- nothing is before the beginning
never_before : (x : List ℕ) → comes_before x [] ≡ false
never_before [] = refl
never_before (b ∷ x) = refl

all_from : (Xs : List Range) → AllByRecursion (λ Y. IsFromHere (Some []) Y.lower) Xs
all_from [] = tt
all_from (X ∷ Xs) = (never_before X.lower, all_from Xs)

pub placed_climb : {F : Type 0} → PlacedClimb F
placed_climb sent M apart placed =
    all_climb (Some []) (open_parts sent) M apart (all_from (map range_of (open_parts sent))) placed

pub openings_climb : {F : Type 0} → OpeningsClimb F
openings_climb cut M (cuts, one, sums) =
    subst (Climbs (Some [])) (append-nil M) (sums_climb (Some []) [] cuts None M [] sums refl tt)

pub replies_climb : {F : Type 0} (S : Summary F) → RepliesClimb S
replies_climb S P f M ready apart =
    placed_climb M (reply S P M) apart (replies_are_placed S P f M ready.ranks ready.room)

opening_climbs : {F : Type 0} (S : Summary F) (P : Peer) → Climbs (Some []) (opening S P)
opening_climbs S P = subst (Climbs (Some [])) (append-nil (opening S P))
    (sums_climb (Some []) [] (opening_cuts S P) None (opening S P) []
    (sums-AreSums S P.items (ranges_between [] (opening_cuts S P) None)) refl tt)

pub talks_climb : {F : Type 0} (S : Summary F) → TalksClimb S
talks_climb {F} S I R f g k i r =
    let G : Message F → Type 0 = λ N. Apart (open_ranges N) × Climbs (Some []) N in
    All-map G (Climbs (Some [])) (λ N h. h.1) (talk S I R k)
    (talk_from-All S G I R
    (λ M h. (replies_are_apart S I f M i h.0, replies_climb S I f M i h.0))
    (λ M h. (replies_are_apart S R g M r h.0, replies_climb S R g M r h.0))
    (opening S I) k (opening_apart S I i.set, opening_climbs S I))
