-- What ranks bound: the messages of a talk, and what one end is led to compare. What the limit bounds: lists.
-- Messages are few: let the Sums of a message be under a in the speaker's set and under b in the hearer's. The reply
-- is under b - 1 in the hearer's set, and still under a in the speaker's (Cuts). So by induction at most 2 + min(2a,
-- 2b - 1) messages follow, the message itself among them: if a or b is 0 the reply has no Sums, and at most two are
-- left. The opening is under its greatest rank + 1 in the initiator's set, and under rank + 1 in the responder's.
-- Compared parts: a part that is placed lies in a range that our message opened, so it is no higher in rank than our
-- message. One end alone needs no more than that to stop (Stops).
-- Lists: a row that lists reaches no further than the limit, the rows reach the cap, and no set in a range has more
-- items than the cap. This holds of each reply, so of talks, of what one end says, and of what is called for.
-- docs/LAWS.md: A cut is exact; Open ranges do not overlap (that ranges rise); Messages are few; Lists are short; What
-- is called for is little (its lists).
use Rattle.std.proofs.Common.{◌≡◌, ℕ, zero, suc, ◌≤◌, true, List, [], ◌∷◌, length, refl, ◌+◌, ◌-◌, ◌*◌, false, min}
use Rattle.std.proofs.Common.{arith, cond, ◌<◌, ◌∙◌, Bool, Option, Some, None, sym, subst, inl, inr}
use Rattle.std.specs.Prelude.{⊤, nat_le}
use Rattle.std.specs.List.{filter}
use Rattle.definitions.proofs.Words.{AllByRecursion, list_any, list_all, Rises, Item, Range, whole, items_in, Summary}
use Rattle.definitions.proofs.Words.{Part, Sum, Listing, Answer, Message, range_of, has_open, opening, RangesRise}
use Rattle.definitions.proofs.Words.{is_open, Profile, IsPart, IsMessage, Peer, reply, talk_from, Ready, rank}
use Rattle.definitions.proofs.Words.{MessagesAreFew, IsShort, KeepLimits, ListsAreShort, RepliesAreShort}
use Rattle.definitions.proofs.Words.{EndsKeepLimits, place_fault, opening_fault, End, answers, initiator, responder}
use Rattle.definitions.proofs.Words.{Row, act_in, is_split, IsTable, keeps_limit, Accepted, AreSums, Follows}
use Rattle.definitions.proofs.Words.{FollowsAll, cut_range, open_parts}
use Rattle.definitions.proofs.Lemmas.{cond_both, false≢true, and_parts, or_cases, leb-true, leb-false, All-map}
use Rattle.definitions.proofs.Lemmas.{All-every, All-append}
use Rattle.laws.specs.Cutting.{CutsAreExact, TalksHaveRanges}
use Rattle.laws.proofs.Tables.{covers}
use Rattle.laws.proofs.Placing.{rises_append, Placed-from_accepted, opening_exact}
use Rattle.laws.proofs.OpenRanges.{sums-cuts}
use Rattle.laws.proofs.Openings.{opening_rises, opening_under, opening_under_all, opening_short, all-IsUnder}
use Rattle.definitions.proofs.Words.{opened}
use Rattle.laws.proofs.Saying.{answers-All, after-peer}
use Rattle.definitions.specs.Ends.{after, stage_fault}
use Rattle.definitions.specs.Engines.{called, called_unless, calls}
use Rattle.laws.specs.Hearing.{OwnIsShort}
use Rattle.laws.proofs.Cuts.{ranges-IsWithin, IsWithin, length-items_in-le, ranges-rise, flat_map-ranges}
use Rattle.laws.proofs.PeerCuts.{peer_cuts, peer_cutup, peer_cutup-AreCuts, peer_cutup-IsWithin, reply-each}
use Rattle.laws.proofs.PeerCuts.{reply-rises, talk_from-All, length-items_in-le_all, IsUnder, SumsUnder}
use Rattle.laws.proofs.PeerCuts.{reply-own, reply-other, reply-no_sums, within-IsUnder, IsSumUnder}

-- ==== What a cut is, and that honest ranges rise

pub cuts_are_exact : CutsAreExact
cuts_are_exact P f X r s =
    let cuts = peer_cutup-AreCuts r X s in
    record {
      sizes = cuts.counts;
      rise = λ h. ranges-rise X.lower (peer_cuts P X) X.upper h cuts.rise;
      whole = λ D set. flat_map-ranges D set X.lower (peer_cuts P X) X.upper cuts.rise;
      no_more = λ D. All-map (λ Y. IsWithin Y X) (λ Y. length (items_in D Y) ≤ length (items_in D X))
          (λ Y w. length-items_in-le D Y X w) (peer_cutup P X) (peer_cutup-IsWithin r X s);
    }

pub talks_have_ranges : {F : Type 0} (S : Summary F) → TalksHaveRanges S
talks_have_ranges {F} S I R f g k i r =
    let kept : (P : Peer) (f : List ℕ) → Ready P f → (M : Message F) → RangesRise M → RangesRise (reply S P M) =
    λ P f p M h. reply-rises S P f p M
    (All-map (λ p. Rises (range_of p)) (λ p. is_open p ≡ true → Rises (range_of p)) (λ p h e. h) M h) in
    talk_from-All S RangesRise I R (kept I f i) (kept R g r) (opening S I) k (opening_rises S I i.set)

-- so has what was read
IsPart-rises : {F : Type 0} (P : Profile F) (p : Part F) → IsPart P p → Rises (range_of p)
IsPart-rises P p h = grind arith

pub messages_have_ranges : {F : Type 0} (P : Profile F) (M : Message F) → IsMessage P M → RangesRise M
messages_have_ranges P M h = All-map (IsPart P) (λ p. Rises (range_of p)) (IsPart-rises P) M h.parts

pub parts_have_ranges : {F : Type 0} (P : Profile F) (M : Message F) → AllByRecursion (IsPart P) M → RangesRise M
parts_have_ranges P M h = All-map (IsPart P) (λ p. Rises (range_of p)) (IsPart-rises P) M h

-- ==== The talk of two peers is short

-- the sender of M is P, whose ranks there are below a, and those of Q below b
length-no_open : {F : Type 0} (S : Summary F) (P Q : Peer) (M : Message F) (k : ℕ) → has_open M ≡ false →
    length (talk_from S P Q M k) ≤ 1
length-no_open S P Q M k h = grind arith

length-no_sums : {F : Type 0} (S : Summary F) (P Q : Peer) (M : Message F) (k : ℕ) → has_open (reply S Q M) ≡ false →
    length (talk_from S P Q M k) ≤ 2
length-no_sums S P Q M k h = grind (arith, length-no_open)

length-talk_from : {F : Type 0} (S : Summary F) (P Q : Peer) (f g : List ℕ) → Ready P f → Ready Q g →
    (M : Message F) (a b k : ℕ) →
    SumsUnder f P.items a M → SumsUnder g Q.items b M → length (talk_from S P Q M k) ≤ 2 + min (2 * a) (2 * b - 1)
length-talk_from S P Q f g p q M zero b k h j =
    omega (arith, length-no_sums S P Q M k (reply-no_sums S Q f P.items M h))
length-talk_from S P Q f g p q M (suc a) zero k h j =
    omega (arith, length-no_sums S P Q M k (reply-no_sums S Q g Q.items M j))
length-talk_from S P Q f g p q M (suc a) (suc b) zero h j = omega arith
length-talk_from S P Q f g p q M (suc a) (suc b) (suc k) h j =
    let ih = length-talk_from S Q P g f q p (reply S Q M) (suc b - 1) (suc a) k (reply-own S Q g q (suc b) M j)
    (reply-other S Q P g f q p (suc a) M h) in
    elim (has_open M) as (λ c. suc (length (cond c (talk_from S Q P (reply S Q M) k) [])) ≤ 2
    + min (2 * suc a) (2 * suc b - 1)) [ true ↦ omega arith | false ↦ omega arith ]

pub messages_are_few : {F : Type 0} (S : Summary F) → MessagesAreFew S
messages_are_few S I R f g k i r =
    omega (
      arith,
      length-talk_from S I R f g i r (opening S I) (opened S f I + 1) (rank g R + 1) k (opening_under S I f)
          (opening_under_all S I R g r),
    )

-- ==== What is placed compares only parts of what the own message compared

-- a compared range has a rank below n, and where something is listed n is not 0
abbrev pub IsOpenUnder : {F : Type 0} → List ℕ → List Item → ℕ → Part F → Type 0
IsOpenUnder f A n (Sum X g) = IsUnder f A n X
IsOpenUnder f A n (Listing X items) = 0 < n
IsOpenUnder f A n (Answer X marks items) = ⊤

sums-OpenUnder : {F : Type 0} (f : List ℕ) (A : List Item) (n : ℕ) (Xs : List Range) (ps : Message F) → AreSums Xs ps →
    AllByRecursion (IsUnder f A n) Xs →
    AllByRecursion (IsOpenUnder f A n) ps
sums-OpenUnder f A n [] [] h u = tt
sums-OpenUnder f A n [] (p ∷ ps) h u = absurd h
sums-OpenUnder f A n (X ∷ Xs) [] h u = absurd h
sums-OpenUnder f A n (X ∷ Xs) (Sum Y g ∷ ps) h u =
    (subst (λ (Z : Range). IsUnder f A n Z) (sym h.0) u.0, sums-OpenUnder f A n Xs ps h.1 u.1)
sums-OpenUnder f A n (X ∷ Xs) (Listing Y items ∷ ps) h u = absurd h
sums-OpenUnder f A n (X ∷ Xs) (Answer Y marks items ∷ ps) h u = absurd h

follows-OpenUnder : {F : Type 0} {P : Peer} {f : List ℕ} → Ready P f → (n : ℕ) (p : Part F) (front : Message F) →
    RangesRise front → Follows p front →
    IsSumUnder f P.items n p → AllByRecursion (IsOpenUnder f P.items n) front
follows-OpenUnder {F} {P} {f} r n (Sum X g) front k (inl none) u =
    subst (AllByRecursion (IsOpenUnder f P.items n)) (sym none) tt
follows-OpenUnder {F} {P} {f} r n (Sum X g) front k (inr (inl (items, one))) u =
    subst (AllByRecursion (IsOpenUnder f P.items n)) (sym one) (omega arith, tt)
follows-OpenUnder {F} {P} {f} r n (Sum X g) front k (inr (inr (cs, some, sums))) u =
    let within = ranges-IsWithin X.lower cs X.upper (sums-cuts X.lower cs X.upper front sums k) in
    sums-OpenUnder f P.items n (cut_range X cs) front sums
    (All-map (λ Y. IsWithin Y X) (IsUnder f P.items n) (λ Y w. within-IsUnder r n X Y w u) (cut_range X cs) within)
follows-OpenUnder {F} {P} {f} r n (Listing X listed) front k (marks, items, one, count, fresh) u =
    subst (AllByRecursion (IsOpenUnder f P.items n)) (sym one) (tt, tt)
follows-OpenUnder {F} {P} {f} r n (Answer X marks items) front k none u =
    subst (AllByRecursion (IsOpenUnder f P.items n)) (sym none) tt

all-OpenUnder : {F : Type 0} {P : Peer} {f : List ℕ} → Ready P f → (n : ℕ) (left M : Message F) →
    SumsUnder f P.items n left → RangesRise M → FollowsAll left M →
    AllByRecursion (IsOpenUnder f P.items n) M
all-OpenUnder {F} {P} {f} r n [] M u k h = subst (AllByRecursion (IsOpenUnder f P.items n)) (sym h) tt
all-OpenUnder {F} {P} {f} r n (p ∷ left) M u k (front, rest, is, follows, more) =
    let both = rises_append front rest (subst RangesRise is k) in
    subst (AllByRecursion (IsOpenUnder f P.items n)) (sym is)
    (All-append (IsOpenUnder f P.items n) front rest (follows-OpenUnder r n p front both.0 follows u.0)
    (all-OpenUnder r n left rest u.1 both.1 more))

All-kept : {X : Type 0} (P : X → Type 0) (q : X → Bool) (xs : List X) → AllByRecursion P xs →
    AllByRecursion P (filter q xs)
All-kept P q [] h = tt
All-kept P q (x ∷ xs) h = grind (arith, All-kept P q xs h.1)

IsSumUnder-from_open : {F : Type 0} (f : List ℕ) (A : List Item) (n : ℕ) (p : Part F) → IsOpenUnder f A n p →
    IsSumUnder f A n p
IsSumUnder-from_open f A n p h = grind arith

pub has_open-under : {F : Type 0} (f : List ℕ) (A : List Item) (n : ℕ) (M : Message F) →
    AllByRecursion (IsOpenUnder f A n) M → has_open M ≡ true → 0 < n
has_open-under f A n [] h e = absurd (false≢true e)
has_open-under f A n (Sum X g ∷ ps) h e = omega (arith, h.0)
has_open-under f A n (Listing X items ∷ ps) h e = h.0
has_open-under f A n (Answer X marks items ∷ ps) h e = has_open-under f A n ps h.1 e

-- so the reply to what is heard compares ranges of lower ranks
pub reply-under : {F : Type 0} (S : Summary F) (P : Peer) (f : List ℕ) → Ready P f → (n : ℕ) (M : Message F) →
    AllByRecursion (IsOpenUnder f P.items n) M →
    SumsUnder f P.items (n - 1) (reply S P M)
reply-under S P f r n M h = reply-own S P f r n M
    (All-map (IsOpenUnder f P.items n) (IsSumUnder f P.items n) (IsSumUnder-from_open f P.items n) M h)

-- what is placed after an own message compares no ranges of higher ranks
pub placed-OpenUnder : {F : Type 0} {P : Peer} {f : List ℕ} → Ready P f → (n : ℕ) (sent M : Message F) →
    SumsUnder f P.items n sent → RangesRise M → place_fault sent M ≡ None →
    AllByRecursion (IsOpenUnder f P.items n) M
placed-OpenUnder {F} {P} {f} r n sent M h k e = all-OpenUnder r n (open_parts sent) M
    (All-kept (IsSumUnder f P.items n) is_open sent h) k (Placed-from_accepted sent M e)

-- a first message compares no range of a higher rank than that of the whole set
pub opening-OpenUnder : {F : Type 0} {P : Peer} {f : List ℕ} → Ready P f → (cut : Bool) (M : Message F) →
    opening_fault cut M ≡ None → AllByRecursion (IsOpenUnder f P.items (rank f P + 1)) M
opening-OpenUnder {F} {P} {f} r cut M e =
    let is = (opening_exact cut M).0 e in
    sums-OpenUnder f P.items (rank f P + 1) (cut_range whole is.0) M is.2
    (All-every (IsUnder f P.items (rank f P + 1)) (all-IsUnder r) (cut_range whole is.0))

-- ==== Each sender keeps its limit

listed-le : (limit top n : ℕ) (rows : List Row) → list_all (keeps_limit limit) rows ≡ true →
    list_any (λ row. nat_le top row.upto) rows ≡ true → n ≤ top →
    is_split (act_in rows n) ≡ false → n ≤ limit
listed-le limit top n [] keeps covers h s = absurd (false≢true covers)
listed-le limit top n (row ∷ rows) keeps covers h split =
    let both = and_parts (keeps_limit limit row) (list_all (keeps_limit limit) rows) keeps in
    cond_both (nat_le n row.upto) row.act (act_in rows n) (λ a. is_split a ≡ false → n ≤ limit)
    (λ e s. grind arith)
    (λ e s. elim (or_cases (nat_le top row.upto) (list_any (λ row. nat_le top row.upto) rows) covers) [
      | inl t ↦ absurd (omega (arith, leb-false n row.upto e, leb-true top row.upto t))
      | inr t ↦ listed-le limit top n rows both.1 t h s
    ]) split

-- no reply lists more than the limit
pub replies_are_short : {F : Type 0} (S : Summary F) → RepliesAreShort S
replies_are_short S P M t a room =
    reply-each S P (λ p. ⊤) (IsShort P.table.limit) (λ X g h s. All-every (λ Y. ⊤) (λ Y. tt) (peer_cutup P X))
    (λ X g h s. listed-le P.table.limit P.table.cap (length (items_in P.items X)) P.table.rows a.lists
    (covers P.table t) (omega (arith, length-items_in-le_all P.items X)) s)
    (λ X items h. tt) M (All-every (λ p. ⊤) (λ p. tt) M)

talk_from-KeepLimits : {F : Type 0} (S : Summary F) (P Q : Peer) (M : Message F) (k : ℕ) → IsTable P.table →
    Accepted P.table → IsTable Q.table → Accepted Q.table →
    length P.items ≤ P.table.cap → length Q.items ≤ Q.table.cap → AllByRecursion (IsShort P.table.limit) M →
    KeepLimits P.table.limit Q.table.limit (talk_from S P Q M k)
talk_from-KeepLimits S P Q M zero s a t b i j h = tt
talk_from-KeepLimits {F} S P Q M (suc k) s a t b i j h = (
  h,
  cond_both (has_open M) (talk_from S Q P (reply S Q M) k) [] (KeepLimits Q.table.limit P.table.limit)
      (λ e. talk_from-KeepLimits S Q P (reply S Q M) k t b s a j i (replies_are_short S Q M t b j))
      (λ e. tt),
)

pub lists_are_short : {F : Type 0} (S : Summary F) → ListsAreShort S
lists_are_short S I R k t u a b i j =
    talk_from-KeepLimits S I R (opening S I) k t a u b i j (opening_short S I I.table.limit)

pub ends_keep_limits : {F : Type 0} (S : Summary F) → EndsKeepLimits S
ends_keep_limits {F} S P Ms t a room =
    ((opening_short S P P.table.limit, said (initiator S P) refl), said (responder S P) refl) where
      said : (e : End F) → e.peer ≡ P → AllByRecursion (AllByRecursion (IsShort P.table.limit)) (answers S e Ms)
      said e is = answers-All S P (AllByRecursion (IsShort P.table.limit)) (λ M. replies_are_short S P M t a room) e Ms is

-- and of all that is called for
called-short : {F : Type 0} (S : Summary F) (P : Peer) (C : Message F → Type 0) → ((M : Message F) → C (reply S P M)) →
    (e : End F) (M : Message F) → e.peer ≡ P → AllByRecursion C (called S e M)
called-short {F} S P C each e M is = by (stage_fault e.stage M) where
  by : (o : Option ℕ) → AllByRecursion C (called_unless S e.peer M o)
  by (Some code) = tt
  by None = cond_both (has_open M) (reply S e.peer M ∷ []) [] (AllByRecursion C)
      (λ o. (subst (λ Q. C (reply S Q M)) (sym is) (each M), tt)) (λ o. tt)

calls-short : {F : Type 0} (S : Summary F) (P : Peer) (C : Message F → Type 0) → ((M : Message F) → C (reply S P M)) →
    (e : End F) (Ms : List (Message F)) → e.peer ≡ P → AllByRecursion C (calls S e Ms)
calls-short S P C each e [] is = tt
calls-short S P C each e (M ∷ Ms) is = All-append C (called S e M) (calls S (after S e M) Ms)
    (called-short S P C each e M is) (calls-short S P C each (after S e M) Ms (after-peer S e M ∙ is))

pub own_is_short : {F : Type 0} (S : Summary F) → OwnIsShort S
own_is_short {F} S P Ms t a room =
    ((opening_short S P P.table.limit, all (initiator S P) refl), all (responder S P) refl) where
      all : (e : End F) → e.peer ≡ P → AllByRecursion (AllByRecursion (IsShort P.table.limit)) (calls S e Ms)
      all e is = calls-short S P (AllByRecursion (IsShort P.table.limit)) (λ M. replies_are_short S P M t a room) e Ms is
