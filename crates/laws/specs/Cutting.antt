-- What a cut is.
--     CutsAreExact           of a range by a peer's table
--     CutsHaveRanges         its parts rise, whatever the table
--     CutsArePieces          each of its parts has the own items between two places
--     SeparatorsAreShortest  the computed separator of two items is the shortest one
--     TalksHaveRanges        each range of a talk rises
use Rattle.std.specs.Prelude.{◌≡◌, ℕ, ◌≤◌, List, [], ◌∷◌, take, drop, length, map, flat_map, IsTrue}
use Rattle.std.specs.List.{AllByRecursion}
use Rattle.definitions.specs.Items.{Item, Range, Rises, comes_before, separator, IsSeparator}
use Rattle.definitions.specs.Sets.{IsSet, items_in}
use Rattle.definitions.specs.Fingerprints.{Summary}
use Rattle.definitions.specs.Strategies.{Bounds, act, shares, is_split}
use Rattle.definitions.specs.Replies.{Peer, inner_cuts, cutup}
use Rattle.definitions.specs.Talks.{talk}
use Rattle.definitions.specs.Messages.{RangesRise}
use Rattle.definitions.specs.Theorems.{Ready}
use Rattle.laws.specs.Ranks.{IsCut}

pub record IsExactCut (P : Peer) (X : Range) (Ys : List Range) : Type 0 where
  -- the parts hold so many own items as the table says
  pub sizes : map (λ Y. length (items_in P.items Y)) Ys ≡ shares P.table (length (items_in P.items X))
  -- they rise if X does
  pub rise : Rises X → AllByRecursion Rises Ys
  -- what a set has in X is what it has in the parts, in order
  pub whole : (D : List Item) → IsSet D → flat_map (items_in D) Ys ≡ items_in D X
  -- no part has more items than X, of any list
  pub no_more : (D : List Item) → AllByRecursion (λ Y. length (items_in D Y) ≤ length (items_in D X)) Ys

abbrev pub CutsAreExact : Type 0
CutsAreExact =
    (P : Peer) (f : List ℕ) (X : Range) → Ready P f → IsTrue (is_split (act P.table (length (items_in P.items X)))) →
    IsExactCut P X (cutup P.table.bounds P.items X (shares P.table (length (items_in P.items X))))

abbrev pub CutsHaveRanges : Type 0
CutsHaveRanges =
    (P : Peer) (X : Range) → IsSet P.items → Rises X →
    AllByRecursion Rises (cutup P.table.bounds P.items X (shares P.table (length (items_in P.items X))))

-- the pieces of a list that is cut at these places, from place `from` on
abbrev pub pieces_at : ℕ → List ℕ → List Item → List (List Item)
pieces_at from [] B = drop from B ∷ []
pieces_at from (p ∷ ps) B = drop from (take p B) ∷ pieces_at p ps B

abbrev pub CutsArePieces : Type 0
CutsArePieces =
    (b : Bounds) (A : List Item) (X : Range) (sizes : List ℕ) → IsSet A → IsCut (length (items_in A X)) sizes →
    map (items_in A) (cutup b A X sizes) ≡ pieces_at 0 (inner_cuts 0 sizes) (items_in A X)

abbrev pub SeparatorsAreShortest : Type 0
SeparatorsAreShortest = (x y : Item) → IsTrue (comes_before x y) → IsSeparator x y (separator x y)

abbrev pub TalksHaveRanges : {F : Type 0} → Summary F → Type 0
TalksHaveRanges S =
    (I R : Peer) (f g : List ℕ) (k : ℕ) → Ready I f → Ready R g → AllByRecursion RangesRise (talk S I R k)
