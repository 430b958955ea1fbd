-- Ranges that a peer cuts, and the replies that are made of them: their ranks.
-- The bounds of such a cut rise, whatever the table is: one share or none has no bound, and more add up to what there
-- is. If the table is accepted, the parts have the shares as their sizes (Cuts).
-- Call a range *under n* in a set if the rank of the number of the set's items in it is below n. A part has no more
-- items than its range, so a cut raises no rank in either set. In the set that it is made by, each share has a lower
-- rank than the whole, so the parts are under n - 1 there. This goes over from ranges to the Sums of a reply
-- (`reply-own`, `reply-other`), since what holds of the parts of a cut holds of each part of a reply (`reply-each`). A
-- message whose Sums are under 0 gets a reply without open parts (`reply-no_sums`).
-- docs/LAWS.md: A cut is exact; the ranks are those of Messages are few.
use Rattle.std.proofs.Common.{◌≡◌, ℕ, zero, suc, ◌<◌, ◌≤◌, Bool, true, false, List, [], ◌∷◌, length, refl, arith, map}
use Rattle.std.proofs.Common.{sym, subst, sum, ◌-◌}
use Rattle.std.specs.Prelude.{⊤, slice_index}
use Rattle.definitions.proofs.Words.{Rises, RangesRise, is_open, range_of, answer_to, talk_from, AllByRecursion, Item}
use Rattle.definitions.proofs.Words.{Range, contains, IsSet, items_in, inner_cuts, cutup, Peer, sum_of, reply_to, reply}
use Rattle.definitions.proofs.Words.{Table, act, shares, is_split, Summary, Part, Sum, Listing, Answer, Message}
use Rattle.definitions.proofs.Words.{has_open, IsRankTable, Ready, bound_at}
use Rattle.definitions.proofs.Lemmas.{cond_both, length-filter, count_by-le-length, All-map, All-append}
use Rattle.laws.proofs.Tables.{sum-shares_by, shares_by-positive}
use Rattle.laws.proofs.Times.{when}
use Rattle.laws.proofs.Cuts.{IsWithin, length-items_in-le, CutsRise, ranges-rise, ranges-IsWithin, AreCuts}
use Rattle.laws.proofs.Cuts.{cutup-AreCuts, spread, spread-ranges_between}

-- ==== Ranks of the ranges that are compared: a cut lowers the rank in the set that it is made by, and raises none

pub length-items_in-le_all : (A : List Item) (X : Range) → length (items_in A X) ≤ length A
length-items_in-le_all A X = omega (arith, length-filter (contains X) A, count_by-le-length (contains X) A)

pub slice_index-le : {T : Table} {f : List ℕ} → IsRankTable T f → (m n : ℕ) → m ≤ n → n ≤ T.cap →
    slice_index f m ≤ slice_index f n
slice_index-le r m n h k = r.rises m n h k

-- ---- ranges

-- the rank of X, by the items of A in it, is below n
abbrev pub IsUnder : List ℕ → List Item → ℕ → Range → Type 0
IsUnder f A n X = slice_index f (length (items_in A X)) < n

pub within-IsUnder : {P : Peer} {f : List ℕ} → Ready P f → (n : ℕ) (X Y : Range) → IsWithin Y X →
    IsUnder f P.items n X → IsUnder f P.items n Y
within-IsUnder {P} {f} r n X Y w h =
    let le = length-items_in-le P.items Y X w in
    let room = length-items_in-le_all P.items X in
    omega (
      arith,
      slice_index-le r.ranks (length (items_in P.items Y)) (length (items_in P.items X)) le (omega (arith, r.room)),
    )

-- the cut of a range by a peer whose table cuts it
abbrev pub peer_cuts : Peer → Range → List (List ℕ)
peer_cuts P X =
    map (bound_at P.table.bounds (items_in P.items X)) (inner_cuts 0 (shares P.table (length (items_in P.items X))))

abbrev pub peer_cutup : Peer → Range → List Range
peer_cutup P X = cutup P.table.bounds P.items X (shares P.table (length (items_in P.items X)))

-- whether the peer's table cuts X
abbrev pub does_split : Peer → Range → Bool
does_split P X = is_split (act P.table (length (items_in P.items X)))

pub peer_cutup-AreCuts : {P : Peer} {f : List ℕ} → Ready P f → (X : Range) → does_split P X ≡ true →
    AreCuts P.items X.lower (peer_cuts P X) X.upper (shares P.table (length (items_in P.items X)))
peer_cutup-AreCuts {P} {f} r X s =
    let n : ℕ = length (items_in P.items X) in
    let descends = r.ranks.descends n (omega (arith, length-items_in-le_all P.items X, r.room)) s in
    cutup-AreCuts P.table.bounds P.items X (shares P.table n) r.set (sum-shares_by (act P.table n) n descends.0)
    (omega (arith, descends.0)) (shares_by-positive (act P.table n) n)

-- the bounds of a cut rise, whatever the table
pub peer_cuts-rise : (P : Peer) (X : Range) → IsSet P.items → CutsRise X.lower (peer_cuts P X) X.upper
peer_cuts-rise P X set = by (shares P.table count) (sum-shares_by (act P.table count) count)
    (shares_by-positive (act P.table count) count) where
      count : ℕ
      count = length (items_in P.items X)

      by : (sizes : List ℕ) → (2 ≤ length sizes → sum sizes ≡ count) → AllByRecursion (λ s. 0 < s) sizes →
          CutsRise X.lower (map (bound_at P.table.bounds (items_in P.items X)) (inner_cuts 0 sizes)) X.upper
      by [] total positive = tt
      by (s ∷ []) total positive = tt
      by (s ∷ t ∷ ss) total positive =
          (cutup-AreCuts P.table.bounds P.items X (s ∷ t ∷ ss) set (total (omega arith)) (omega arith) positive).rise

-- so its parts do
pub peer_cutup-rises : (P : Peer) (X : Range) → IsSet P.items → Rises X → AllByRecursion Rises (peer_cutup P X)
peer_cutup-rises P X set rises = ranges-rise X.lower (peer_cuts P X) X.upper rises (peer_cuts-rise P X set)

pub spread-cutup : (x : Item) (n : ℕ) (P : Peer) (X : Range) → IsSet P.items →
    spread x n (peer_cutup P X) ≡ when (contains X x) n
spread-cutup x n P X set = spread-ranges_between x n X.lower (peer_cuts P X) X.upper (peer_cuts-rise P X set)

All-from_map : {X Y : Type 0} (P : Y → Type 0) (g : X → Y) (xs : List X) → AllByRecursion P (map g xs) →
    AllByRecursion (λ x. P (g x)) xs
All-from_map P g [] h = tt
All-from_map P g (x ∷ xs) h = (h.0, All-from_map P g xs h.1)

-- the parts have a lower rank in the set that cuts
pub own-IsUnder : {P : Peer} {f : List ℕ} → Ready P f → (n : ℕ) (X : Range) → does_split P X ≡ true →
    IsUnder f P.items n X →
    AllByRecursion (IsUnder f P.items (n - 1)) (peer_cutup P X)
own-IsUnder {P} {f} r n X s h =
    let m : ℕ = length (items_in P.items X) in
    let lower = (r.ranks.descends m (omega (arith, length-items_in-le_all P.items X, r.room)) s).1 in
    let counts = (peer_cutup-AreCuts r X s).counts in
    let below : ℕ → Type 0 = λ k. slice_index f k < slice_index f m in
    let each = All-from_map below (λ Y. length (items_in P.items Y)) (peer_cutup P X)
    (subst (λ (ks : List ℕ). AllByRecursion below ks) (sym counts) lower) in
    All-map (λ Y. slice_index f (length (items_in P.items Y)) < slice_index f m) (IsUnder f P.items (n - 1))
    (λ Y k. omega arith) (peer_cutup P X) each

pub peer_cutup-IsWithin : {P : Peer} {f : List ℕ} → Ready P f → (X : Range) → does_split P X ≡ true →
    AllByRecursion (λ Y. IsWithin Y X) (peer_cutup P X)
peer_cutup-IsWithin {P} r X s = ranges-IsWithin X.lower (peer_cuts P X) X.upper (peer_cutup-AreCuts r X s).rise

-- and no higher rank in another
pub other-IsUnder : {P Q : Peer} {f g : List ℕ} → Ready P f → Ready Q g → (n : ℕ) (X : Range) → does_split P X ≡ true →
    IsUnder g Q.items n X →
    AllByRecursion (IsUnder g Q.items n) (peer_cutup P X)
other-IsUnder {P} {Q} {f} {g} r q n X s h = All-map (λ Y. IsWithin Y X) (IsUnder g Q.items n)
    (λ Y w. within-IsUnder q n X Y w h) (peer_cutup P X) (peer_cutup-IsWithin r X s)

-- ---- messages

-- each range that is compared has a rank below n
abbrev pub IsSumUnder : {F : Type 0} → List ℕ → List Item → ℕ → Part F → Type 0
IsSumUnder f A n (Sum X g) = IsUnder f A n X
IsSumUnder f A n (Listing X items) = ⊤
IsSumUnder f A n (Answer X marks items) = ⊤

abbrev pub SumsUnder : {F : Type 0} → List ℕ → List Item → ℕ → Message F → Type 0
SumsUnder f A n M = AllByRecursion (IsSumUnder f A n) M

-- what holds of nothing, of the Sums of a cut and of the list of the range holds of the reply to a Sum
pub reply_to_sum : {F : Type 0} (S : Summary F) (P : Peer) (X : Range) (g : F) (Holds : Message F → Type 0) →
    (S.same (S.of (items_in P.items X)) g ≡ true → Holds []) →
    (S.same (S.of (items_in P.items X)) g ≡ false → does_split P X ≡ true →
    Holds (map (sum_of S P.items) (peer_cutup P X))) →
    (S.same (S.of (items_in P.items X)) g ≡ false → does_split P X ≡ false →
    Holds (Listing X (items_in P.items X) ∷ [])) →
    Holds (reply_to S P (Sum X g))
reply_to_sum S P X g Holds equal cut list = grind arith

pub All-into_map : {X Y : Type 0} (P : Y → Type 0) (g : X → Y) (xs : List X) → AllByRecursion (λ x. P (g x)) xs →
    AllByRecursion P (map g xs)
All-into_map P g [] h = tt
All-into_map P g (x ∷ xs) h = (h.0, All-into_map P g xs h.1)

-- what holds of the Sums of a cut, of the list and of the Answer holds of each part of a reply
pub reply-each : {F : Type 0} (S : Summary F) (P : Peer) (H G : Part F → Type 0) →
    ((X : Range) (g : F) → H (Sum X g) → does_split P X ≡ true →
    AllByRecursion (λ Y. G (sum_of S P.items Y)) (peer_cutup P X)) →
    ((X : Range) (g : F) → H (Sum X g) → does_split P X ≡ false → G (Listing X (items_in P.items X))) →
    ((X : Range) (items : List Item) → H (Listing X items) → G (answer_to P.items X items)) →
    (M : Message F) → AllByRecursion H M → AllByRecursion G (reply S P M)
reply-each S P H G cut list answer [] h = tt
reply-each S P H G cut list answer (Sum X g ∷ ps) h =
    All-append G (reply_to S P (Sum X g)) (reply S P ps)
    (reply_to_sum S P X g (AllByRecursion G) (λ d. tt)
    (λ d s. All-into_map G (sum_of S P.items) (peer_cutup P X) (cut X g h.0 s)) (λ d s. (list X g h.0 s, tt)))
    (reply-each S P H G cut list answer ps h.1)
reply-each S P H G cut list answer (Listing X items ∷ ps) h =
    (answer X items h.0, reply-each S P H G cut list answer ps h.1)
reply-each S P H G cut list answer (Answer X marks items ∷ ps) h = reply-each S P H G cut list answer ps h.1

-- what holds of a message and, with it, of the reply to it holds of each message of a talk
pub talk_from-All : {F : Type 0} (S : Summary F) (G : Message F → Type 0) (P Q : Peer) →
    ((M : Message F) → G M → G (reply S P M)) →
    ((M : Message F) → G M → G (reply S Q M)) → (M : Message F) (k : ℕ) → G M → AllByRecursion G (talk_from S P Q M k)
talk_from-All S G P Q p q M zero h = tt
talk_from-All S G P Q p q M (suc k) h = (
  h,
  cond_both (has_open M) (talk_from S Q P (reply S Q M) k) [] (AllByRecursion G)
      (λ e. talk_from-All S G Q P q p (reply S Q M) k (q M h)) (λ e. tt),
)

-- a reply lowers the ranks in the own set
pub reply-own : {F : Type 0} (S : Summary F) (P : Peer) (f : List ℕ) → Ready P f → (n : ℕ) (M : Message F) →
    SumsUnder f P.items n M →
    SumsUnder f P.items (n - 1) (reply S P M)
reply-own S P f r n M h =
    reply-each S P (IsSumUnder f P.items n) (IsSumUnder f P.items (n - 1)) (λ X g u s. own-IsUnder r n X s u)
    (λ X g u s. tt) (λ X items u. tt) M h

-- and raises none in the other's
pub reply-other : {F : Type 0} (S : Summary F) (P Q : Peer) (f g : List ℕ) → Ready P f → Ready Q g →
    (n : ℕ) (M : Message F) → SumsUnder g Q.items n M →
    SumsUnder g Q.items n (reply S P M)
reply-other S P Q f g r q n M h =
    reply-each S P (IsSumUnder g Q.items n) (IsSumUnder g Q.items n) (λ X e u s. other-IsUnder r q n X s u)
    (λ X e u s. tt) (λ X items u. tt) M h

-- ranges rise in a reply where those do that are open
pub reply-rises : {F : Type 0} (S : Summary F) (P : Peer) (f : List ℕ) → Ready P f → (M : Message F) →
    AllByRecursion (λ p. is_open p ≡ true → Rises (range_of p)) M →
    RangesRise (reply S P M)
reply-rises S P f r M h =
    reply-each S P (λ p. is_open p ≡ true → Rises (range_of p)) (λ p. Rises (range_of p))
    (λ X g up s. ranges-rise X.lower (peer_cuts P X) X.upper (up refl) (peer_cutup-AreCuts r X s).rise)
    (λ X g up s. up refl) (λ X items up. up refl) M h

-- the reply to a message of lists and Answers alone wants no reply
pub reply-no_sums : {F : Type 0} (S : Summary F) (P : Peer) (f : List ℕ) (A : List Item) (M : Message F) →
    SumsUnder f A 0 M → has_open (reply S P M) ≡ false
reply-no_sums S P f A [] h = refl
reply-no_sums S P f A (Sum X g ∷ ps) h = absurd (omega (arith, h.0))
reply-no_sums S P f A (Listing X items ∷ ps) h = reply-no_sums S P f A ps h.1
reply-no_sums S P f A (Answer X marks items ∷ ps) h = reply-no_sums S P f A ps h.1
