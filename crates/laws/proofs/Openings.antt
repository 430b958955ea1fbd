-- What an initiator opens with.
-- Its first message is the Sums of a cut of everything: of the cut that its table makes of it, or of one that is no cut
-- and has one part (`opening_by`). So its ranges rise, and do not overlap; they hold what everything holds; its Sums
-- are honest; each has at most the greatest of their ranks; and there are no more of them than items, or one.
-- docs/LAWS.md: What a session opens with. The laws of talks begin here.
use Rattle.std.proofs.Common.{◌≡◌, ℕ, ◌+◌, ◌<◌, ◌≤◌, Bool, true, false, List, [], ◌∷◌, length, refl, sym, ap, subst}
use Rattle.std.proofs.Common.{arith}
use Rattle.std.proofs.Common.{map, max, ◌∙◌, None, ◌&&◌}
use Rattle.std.specs.Prelude.{slice_index, IsFalse, if◌then◌else◌}
use Rattle.definitions.proofs.Words.{AllByRecursion, Item, Range, Rises, contains, whole, IsSet, items_in, Summary}
use Rattle.definitions.proofs.Words.{Part, RangesRise, range_of, has_open, open_parts, open_ranges, AreSums}
use Rattle.definitions.proofs.Words.{IsOpening, Peer, sum_of, opening, opening_ranges, opening_sizes, cutup, bound_at}
use Rattle.definitions.proofs.Words.{inner_cuts, shares, is_cut, Ready, rank, IsHonest, IsShort, opened}
use Rattle.definitions.proofs.Words.{Act, List_items, Split, Peel, act, is_split, shares_by, greatest, opening_counts}
use Rattle.definitions.proofs.Words.{opened_of, rank_by, ranks_by}
use Rattle.laws.proofs.Checks.{ranks_by-at}
use Rattle.laws.specs.Opening.{OpeningsHaveCounts, OpeningsAreLower}
use Rattle.definitions.proofs.Words.{Over, Waits, stage_after_reply, ranges_between}
use Rattle.definitions.proofs.Lemmas.{All-every, and_parts, false≢true}
use Rattle.laws.proofs.Times.{when}
use Rattle.laws.proofs.Cuts.{spread, spread-ranges_between, CutsRise, ranges-rise}
use Rattle.laws.proofs.PeerCuts.{peer_cuts, peer_cutup, peer_cuts-rise, does_split, IsUnder, SumsUnder, IsSumUnder}
use Rattle.laws.proofs.PeerCuts.{length-items_in-le_all, slice_index-le, peer_cutup-AreCuts}

pub contains-whole : (x : Item) → contains whole x ≡ true
contains-whole [] = refl
contains-whole (b ∷ bs) = refl

pub items_in-whole : (A : List Item) → items_in A whole ≡ A
items_in-whole [] = refl
items_in-whole (x ∷ xs) = ap (λ b. if b then x ∷ items_in xs whole else items_in xs whole) (contains-whole x)
    ∙ ap (λ ys. x ∷ ys) (items_in-whole xs)

-- what holds of the bounds of the table's cut and of no bounds holds of those of the first message
abbrev pub opening_cuts : {F : Type 0} → Summary F → Peer → List (List ℕ)
opening_cuts S P = map (bound_at P.table.bounds (items_in P.items whole)) (inner_cuts 0 (opening_sizes S P))

pub opening_by : {F : Type 0} (S : Summary F) (P : Peer) (G : List (List ℕ) → Type 0) → G (peer_cuts P whole) → G [] →
    G (opening_cuts S P)
opening_by S P G cut one = elim (S.may_cut && is_cut P.table.opening)
    as (λ b. G (map (bound_at P.table.bounds (items_in P.items whole))
    (inner_cuts 0 (if b then shares P.table (length (items_in P.items whole)) else [])))) [ true ↦ cut | false ↦ one ]

pub opening_cuts-rise : {F : Type 0} (S : Summary F) (P : Peer) → IsSet P.items → CutsRise [] (opening_cuts S P) None
opening_cuts-rise S P set = opening_by S P (λ cs. CutsRise [] cs None) (peer_cuts-rise P whole set) tt

-- ---- the message

All-sums : {F : Type 0} (S : Summary F) (A : List Item) (G : Part F → Type 0) (H : Range → Type 0) →
    ((X : Range) → H X → G (sum_of S A X)) → (Xs : List Range) → AllByRecursion H Xs →
    AllByRecursion G (map (sum_of S A) Xs)
All-sums S A G H each [] h = tt
All-sums S A G H each (X ∷ Xs) h = (each X h.0, All-sums S A G H each Xs h.1)

pub sums_open : {F : Type 0} (S : Summary F) (A : List Item) (Xs : List Range) →
    open_parts (map (sum_of S A) Xs) ≡ map (sum_of S A) Xs
sums_open S A [] = refl
sums_open S A (X ∷ Xs) = ap (λ M. sum_of S A X ∷ M) (sums_open S A Xs)

pub sum_ranges : {F : Type 0} (S : Summary F) (A : List Item) (Xs : List Range) →
    open_ranges (map (sum_of S A) Xs) ≡ Xs
sum_ranges S A [] = refl
sum_ranges S A (X ∷ Xs) = ap (λ Ys. X ∷ Ys) (sum_ranges S A Xs)

pub opening_honest : {F : Type 0} (S : Summary F) (P : Peer) → AllByRecursion (IsHonest S P.items) (opening S P)
opening_honest S P = All-sums S P.items (IsHonest S P.items) (λ X. Unit {0}) (λ X h. refl) (opening_ranges S P)
    (All-every (λ X. Unit {0}) (λ X. tt) (opening_ranges S P))

pub opening_short : {F : Type 0} (S : Summary F) (P : Peer) (limit : ℕ) → AllByRecursion (IsShort limit) (opening S P)
opening_short S P limit = All-sums S P.items (IsShort limit) (λ X. Unit {0}) (λ X h. tt) (opening_ranges S P)
    (All-every (λ X. Unit {0}) (λ X. tt) (opening_ranges S P))

pub opening_rises : {F : Type 0} (S : Summary F) (P : Peer) → IsSet P.items → RangesRise (opening S P)
opening_rises S P set = All-sums S P.items (λ p. Rises (range_of p)) Rises (λ X h. h) (opening_ranges S P)
    (ranges-rise [] (opening_cuts S P) None refl (opening_cuts-rise S P set))

-- each item lies in just one of its ranges
pub opening_spread : {F : Type 0} (S : Summary F) (P : Peer) → IsSet P.items → (x : Item) (n : ℕ) →
    spread x n (opening_ranges S P) ≡ n
opening_spread S P set x n = spread-ranges_between x n [] (opening_cuts S P) None (opening_cuts-rise S P set)
    ∙ ap (λ b. when b n) (contains-whole x)

-- ---- what waits for a reply to it

has_open-sums : {F : Type 0} (S : Summary F) (A : List Item) (x : List ℕ) (cs : List (List ℕ)) →
    has_open (map (sum_of S A) (ranges_between x cs None)) ≡ true
has_open-sums S A x [] = refl
has_open-sums S A x (c ∷ cs) = refl

pub opening_open : {F : Type 0} (S : Summary F) (P : Peer) → has_open (opening S P) ≡ true
opening_open S P = has_open-sums S P.items [] (opening_cuts S P)

pub opening_waits : {F : Type 0} (S : Summary F) (P : Peer) →
    Waits (opening S P) ≡ stage_after_reply (opening S P)
opening_waits {F} S P = ap Waits (sym (sums_open S P.items (opening_ranges S P)))
    ∙ ap (λ b. if b then Waits (open_parts (opening S P)) else Over) (sym (opening_open S P))

-- ---- it is a first message

pub sums-AreSums : {F : Type 0} (S : Summary F) (A : List Item) (Xs : List Range) → AreSums Xs (map (sum_of S A) Xs)
sums-AreSums S A [] = tt
sums-AreSums S A (X ∷ Xs) = (refl, sums-AreSums S A Xs)

-- where it may not be cut, it is not
not_cut : (may : Bool) (cut : Bool) (g : ℕ → List ℕ) (sizes : List ℕ) → IsFalse may →
    map g (inner_cuts 0 (if may && cut then sizes else [])) ≡ []
not_cut true cut g sizes h = absurd cc
not_cut false cut g sizes h = refl

pub opening_is : {F : Type 0} (S : Summary F) (P : Peer) → IsOpening S.may_cut (opening S P)
opening_is S P = (
  opening_cuts S P,
  (λ h. not_cut S.may_cut (is_cut P.table.opening) (bound_at P.table.bounds (items_in P.items whole))
      (shares P.table (length (items_in P.items whole))) h),
  sums-AreSums S P.items (opening_ranges S P),
)

-- ---- ranks

-- how many own items each range of a list has
abbrev counts_in : List Item → List Range → List ℕ
counts_in A Xs = map (λ X. length (items_in A X)) Xs

-- the rank of each range is at most the greatest
greatest-each : (rank : ℕ → ℕ) (A : List Item) (n : ℕ) (Xs : List Range) → greatest rank (counts_in A Xs) < n →
    AllByRecursion (λ X. rank (length (items_in A X)) < n) Xs
greatest-each rank A n [] h = tt
greatest-each rank A n (X ∷ Xs) h = (omega arith, greatest-each rank A n Xs (omega arith))

pub opening_under : {F : Type 0} (S : Summary F) (P : Peer) (f : List ℕ) →
    SumsUnder f P.items (opened S f P + 1) (opening S P)
opening_under S P f = All-sums S P.items (IsSumUnder f P.items (opened S f P + 1))
    (IsUnder f P.items (opened S f P + 1)) (λ X h. h) (opening_ranges S P)
    (greatest-each (slice_index f) P.items (opened S f P + 1) (opening_ranges S P) (omega arith))

-- no range has a rank above that of the whole set
pub all-IsUnder : {P : Peer} {f : List ℕ} → Ready P f → (X : Range) → IsUnder f P.items (rank f P + 1) X
all-IsUnder {P} {f} r X = omega (
  arith,
  slice_index-le r.ranks (length (items_in P.items X)) (length P.items) (length-items_in-le_all P.items X) r.room,
)

pub opening_under_all : {F : Type 0} (S : Summary F) (I P : Peer) (f : List ℕ) → Ready P f →
    SumsUnder f P.items (rank f P + 1) (opening S I)
opening_under_all S I P f r =
    All-sums S I.items (IsSumUnder f P.items (rank f P + 1)) (IsUnder f P.items (rank f P + 1)) (λ X h. h)
    (opening_ranges S I) (All-every (IsUnder f P.items (rank f P + 1)) (all-IsUnder r) (opening_ranges S I))

greatest-within : (rank : ℕ → ℕ) (n : ℕ) (ns : List ℕ) → 0 < n → AllByRecursion (λ k. rank k < n) ns →
    greatest rank ns < n
greatest-within rank n [] some h = some
greatest-within rank n (k ∷ ns) some h = omega (arith, h.0, greatest-within rank n ns some h.1)

All-counts : (A : List Item) (P : ℕ → Type 0) (Xs : List Range) → AllByRecursion (λ X. P (length (items_in A X))) Xs →
    AllByRecursion P (counts_in A Xs)
All-counts A P [] h = tt
All-counts A P (X ∷ Xs) h = (h.0, All-counts A P Xs h.1)

-- so it opens no range of a higher rank than that of its set
pub opened-le : {F : Type 0} (S : Summary F) (P : Peer) (f : List ℕ) → Ready P f → opened S f P ≤ rank f P
opened-le S P f r = omega (
  arith,
  greatest-within (slice_index f) (rank f P + 1) (counts_in P.items (opening_ranges S P)) (omega arith)
      (All-counts P.items (λ k. slice_index f k < rank f P + 1) (opening_ranges S P)
      (All-every (IsUnder f P.items (rank f P + 1)) (all-IsUnder r) (opening_ranges S P))),
)

-- two rank tables that agree up to the number of items
pub greatest-same : (f g : ℕ → ℕ) (A : List Item) → ((k : ℕ) → k ≤ length A → f k ≡ g k) → (Xs : List Range) →
    greatest f (counts_in A Xs) ≡ greatest g (counts_in A Xs)
greatest-same f g A same [] = refl
greatest-same f g A same (X ∷ Xs) = omega (
  arith,
  same (length (items_in A X)) (length-items_in-le_all A X),
  greatest-same f g A same Xs,
)

-- ---- what it has in its ranges

shares-listed : (a : Act) (n : ℕ) → is_split a ≡ false → shares_by a n ≡ []
shares-listed List_items n h = refl
shares-listed (Split weights) n h = absurd (false≢true (sym h))
shares-listed (Peel front) n h = absurd (false≢true (sym h))

-- by the number of all items, whether or not the row cuts
counts_of_cut : {P : Peer} {f : List ℕ} → Ready P f → (b : Bool) → does_split P whole ≡ b →
    counts_in P.items (peer_cutup P whole)
    ≡ (if b then shares P.table (length (items_in P.items whole)) else length (items_in P.items whole) ∷ [])
counts_of_cut {P} r true e = (peer_cutup-AreCuts r whole e).counts
counts_of_cut {P} r false e = ap (λ ns. counts_in P.items (cutup P.table.bounds P.items whole ns))
    (shares-listed (act P.table (length (items_in P.items whole))) (length (items_in P.items whole)) e)

counts_by : {P : Peer} {f : List ℕ} → Ready P f → (b : Bool) →
    counts_in P.items (cutup P.table.bounds P.items whole
    (if b then shares P.table (length (items_in P.items whole)) else []))
    ≡ (if b && does_split P whole then shares P.table (length (items_in P.items whole))
    else length (items_in P.items whole) ∷ [])
counts_by {P} r true = counts_of_cut r (does_split P whole) refl
counts_by r false = refl

pub openings_have_counts : {F : Type 0} (S : Summary F) → OpeningsHaveCounts S
openings_have_counts S P f r = counts_by r (S.may_cut && is_cut P.table.opening)
    ∙ ap (λ n. opening_counts S.may_cut P.table n) (ap length (items_in-whole P.items))

-- so a staircase and the table tell the greatest rank that is opened
pub opened_is : {F : Type 0} (S : Summary F) (steps : List ℕ) (P : Peer) → Ready P (ranks_by steps P.table.cap) →
    opened S (ranks_by steps P.table.cap) P ≡ opened_of S steps P
opened_is S steps P r =
    greatest-same (slice_index (ranks_by steps P.table.cap)) (rank_by steps) P.items
    (λ k le. let room = r.room in ranks_by-at steps P.table.cap k (omega arith)) (opening_ranges S P)
    ∙ ap (greatest (rank_by steps)) (openings_have_counts S P (ranks_by steps P.table.cap) r)

-- one Sum has the rank of the set, and the parts of a cut have lower ones
lower_by : {P : Peer} {f : List ℕ} → Ready P f → (b : Bool) → is_split (act P.table (length P.items)) ≡ true →
    greatest (slice_index f) (shares P.table (length P.items)) < rank f P
lower_by {P} {f} r b e =
    let (two, each) = r.ranks.descends (length P.items) r.room e in
    greatest-within (slice_index f) (rank f P) (shares P.table (length P.items)) (some (shares P.table (length P.items))
    two each) each where
      some : (ns : List ℕ) → 2 ≤ length ns → AllByRecursion (λ k. slice_index f k < rank f P) ns → 0 < rank f P
      some [] two each = absurd (omega arith)
      some (n ∷ ns) two each = omega (arith, each.0)

pub openings_are_lower : {F : Type 0} (S : Summary F) → OpeningsAreLower S
openings_are_lower S P f r = record {
  at_most = opened-le S P f r;
  one = λ e. ap (greatest (slice_index f)) (openings_have_counts S P f r
      ∙ ap (λ b. if b then shares P.table (length P.items) else length P.items ∷ []) e) ∙ alone (rank f P);
  lower = λ e. let both = and_parts _ _ e in
      subst (λ n. n < rank f P) (sym (ap (greatest (slice_index f)) (openings_have_counts S P f r
      ∙ ap (λ b. if b then shares P.table (length P.items) else length P.items ∷ []) e))) (lower_by r true both.1);
} where
  alone : (n : ℕ) → max n 0 ≡ n
  alone n = omega arith
