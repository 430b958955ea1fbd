-- Fingerprints that are compared exactly, and why the premises are there.
-- The tests of fingerprints compare all that a fingerprint has, so they hold exactly of equal ones.
-- Then an example against each claim with one premise less. All of them are small enough to be computed. Bounds that
-- do not rise: a peer with two items is sent, again and again, a Sum that leads the partition back to its first item,
-- and says one message more than it may. Rows that end below the cap: a table without rows and with limit 0 lists one
-- item. A test that takes all for equal: a peer with one item and one with none end at once, and nothing is learned. A
-- test that takes none for equal: two peers with the same two items cut their range in halves, though nothing differs.
-- docs/LAWS.md: Fingerprints are compared exactly; What does not hold.
use Rattle.std.proofs.Common.{◌≡◌, true, ap, ℕ, ◌≤◌, false, List, [], ◌∷◌, Some, refl, arith}
use Rattle.std.specs.Prelude.{◌==◌}
use Rattle.std.specs.List.Sorted.{IsStrictlySortedBy}
use Rattle.std.proofs.lemmas.Slice.Eq.{bytes_eq-Decides}
use Rattle.definitions.proofs.Words.{IsNonDecreasing, IsExact, Lanes, same_lanes, two_lanes, counted_lanes, whole}
use Rattle.definitions.proofs.Words.{compact_prints}
use Rattle.definitions.proofs.Words.{IsSet, Sum, Message, Table, List_items, Split, At_items, Open_sum, list_only}
use Rattle.definitions.proofs.Words.{Descends}
use Rattle.definitions.proofs.Words.{Accepted, Peer, Ready}
use Rattle.definitions.proofs.Lemmas.{eq-eqb, and_from, false≢true}
use Rattle.laws.specs.Weaker.{InitiatorStopsAnyhow, ResponderStopsAnyhow, ListsAreShortAnyhow, KnowledgeIsExactAnyhow}
use Rattle.laws.specs.Weaker.{PartsAreFewAnyhow, count_summary, blind, wary}

-- ==== The tests of fingerprints are exact

same-lanes : (f g : Lanes) → same_lanes f g ≡ true → f ≡ g
same-lanes f g h = grind arith

lanes-same : (f g : Lanes) → f ≡ g → same_lanes f g ≡ true
lanes-same f g e = and_from (f.first == g.first) (f.second == g.second) (eq-eqb f.first g.first (ap (λ h. h.first) e))
    (eq-eqb f.second g.second (ap (λ h. h.second) e))

pub two_lanes_exact : IsExact two_lanes
two_lanes_exact f g = (same-lanes f g, lanes-same f g)

pub counted_lanes_exact : IsExact counted_lanes
counted_lanes_exact f g = grind arith

pub compact_prints_exact : IsExact compact_prints
compact_prints_exact = bytes_eq-Decides

-- ==== Why the premises are there

-- ---- bounds that do not rise

-- one item is listed, and two are cut in halves
abbrev halves : Table
halves = record {
  cap = 2;
  limit = 1;
  rounds = 1;
  rows = record { upto = 1; act = List_items } ∷ record { upto = 2; act = Split (1 ∷ 1 ∷ []) } ∷ [];
  bounds = At_items;
  opening = Open_sum;
}

abbrev pair : Peer
pair = record { table = halves; items = (1 ∷ []) ∷ (2 ∷ []) ∷ [] }

abbrev pair_ranks : List ℕ
pair_ranks = 0 ∷ 0 ∷ 1 ∷ []

pair_ranks-IsNonDecreasing : IsNonDecreasing pair_ranks
pair_ranks-IsNonDecreasing a j d h k = grind arith

pair-Descends : (n : ℕ) → n ≤ 2 → Descends halves pair_ranks n
pair-Descends n h s = grind arith

pair-IsSet : IsSet pair.items
unfolding IsStrictlySortedBy
pair-IsSet = ((refl, tt), (tt, tt))

pair-Ready : Ready pair pair_ranks
pair-Ready = record {
  ranks = record {
    size = omega arith;
    rises = λ m n h k. pair_ranks-IsNonDecreasing m n 0 h (omega arith);
    descends = pair-Descends;
  };
  set = pair-IsSet;
  room = omega arith;
}

-- a Sum of two items and one of none, of which nothing is said, and one that goes back to the first item
abbrev again : List ℕ → ℕ → Message ℕ
again x n = Sum (record { lower = x; upper = Some (5 ∷ []) }) n ∷ Sum (record { lower = 5 ∷ []; upper = Some [] }) 0
    ∷ Sum whole 99 ∷ []

pub initiator_needs_ranges : InitiatorStopsAnyhow count_summary → ⊥
initiator_needs_ranges h =
    let three = h pair pair_ranks (again [] 2 ∷ again (2 ∷ []) 1 ∷ again (2 ∷ []) 1 ∷ []) pair-Ready in
    omega arith

pub responder_needs_ranges : ResponderStopsAnyhow count_summary → ⊥
responder_needs_ranges h =
    let two = h pair pair_ranks ((Sum whole 99 ∷ []) ∷ again (2 ∷ []) 1 ∷ again (2 ∷ []) 1 ∷ []) pair-Ready in
    omega arith

-- ---- rows that end below the cap

abbrev no_rows : Table
no_rows = record { cap = 1; limit = 0; rounds = 0; rows = []; bounds = At_items; opening = Open_sum }

no_rows-Descends : (n : ℕ) → n ≤ 1 → Descends no_rows (0 ∷ 0 ∷ []) n
no_rows-Descends n h s = absurd (false≢true s)

two_zeros-IsNonDecreasing : IsNonDecreasing (0 ∷ 0 ∷ [])
two_zeros-IsNonDecreasing a j d h k = grind arith

no_rows-Accepted : Accepted no_rows
no_rows-Accepted = record {
  lists = refl;
  ranks = (
    0 ∷ 0 ∷ [],
    record {
      size = omega arith;
      rises = λ m n h k. two_zeros-IsNonDecreasing m n 0 h (omega arith);
      descends = no_rows-Descends;
    },
    omega arith,
  );
}

pub lists_need_tables : ListsAreShortAnyhow count_summary → ⊥
lists_need_tables h =
    let said = h (record { table = no_rows; items = [] }) (record { table = no_rows; items = (1 ∷ []) ∷ [] }) 2
    no_rows-Accepted no_rows-Accepted (omega arith) (omega arith) in
    omega (arith, said.1.0.0)

-- ---- a test that errs

one-IsSet : (x : List ℕ) → IsSet (x ∷ [])
unfolding IsStrictlySortedBy
one-IsSet x = (tt, tt)

none-IsSet : IsSet []
unfolding IsStrictlySortedBy
none-IsSet = tt

pub knowledge_needs_exactness : KnowledgeIsExactAnyhow blind → ⊥
knowledge_needs_exactness claim =
    let I : Peer = record { table = list_only; items = (1 ∷ []) ∷ [] } in
    let R : Peer = record { table = list_only; items = [] } in
    let wrong : false ≡ true =
    (claim I R 3 (one-IsSet (1 ∷ [])) none-IsSet (omega arith) ((λ e. e, tt), (tt, tt))).ours.same (1 ∷ []) in
    cc

-- equal sets of two items are cut in halves, though nothing differs
pub parts_need_exactness : PartsAreFewAnyhow wary → ⊥
parts_need_exactness claim =
    let said = claim pair pair 2 pair-IsSet pair-IsSet in
    omega (arith, said.1.0)
