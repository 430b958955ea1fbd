-- What holds of each run, and of each session of it.
--     Came S w                     some steps made the world
--     HasFewMessages S w s, IsWithinBound S w s, KeepsLimits S w s
--     LearnsBoth S w s, LearnsNothingWrong S w s, HasFewParts S w s
--     Holds S w s                  these six
--     ComesFrom nodes steps w      where the items of the histories come from
--     SpreadsIn S nodes steps w    an item that travels along some of the steps arrives
--     HasItemsOfRuns S w           they come from whatever run made the world
--     EndsByDeliveries S w         deliveries end each session
--     AbsorbsAll S w e v           an ended session that was absorbed below the cap
use Rattle.std.specs.Prelude.{◌≡◌, ℕ, ◌<◌, ◌≤◌, ◌||◌, ◌⊎◌, ◌++◌, List, length, slice_get, Some, IsTrue, ⊤}
use Rattle.std.specs.List.{AllByRecursion, list_any}
use Rattle.definitions.specs.Items.{Item}
use Rattle.definitions.specs.Sets.{has}
use Rattle.definitions.specs.Fingerprints.{Summary}
use Rattle.definitions.specs.Histories.{content, items_of}
use Rattle.definitions.specs.Ranks.{IsRankTable}
use Rattle.definitions.specs.Talks.{IsClear}
use Rattle.definitions.specs.Theorems.{rank, opened, CostsLittle, KeepLimits, KnowsDifference, KnowsNothingWrong}
use Rattle.definitions.specs.Theorems.{IsNode, inserts, node_of, deliveries}
use Rattle.laws.specs.Spreading.{Reaches}
use Rattle.definitions.specs.Worlds as worlds
use Rattle.definitions.specs.Worlds.{World, Node, Session, node_at, messages, has_ended, initiator_of, responder_of}
use Rattle.definitions.specs.Worlds.{initiator_knowledge, responder_knowledge, message_bound, report_of, run, start}

-- some steps made the world of nodes that may stand in a setup
pub record Came {F : Type 0} (S : Summary F) (w : World) : Type 0 where
  pub nodes : List Node
  pub steps : List worlds.Step
  pub ready : AllByRecursion IsNode nodes
  pub is : w ≡ run S (start nodes) steps

-- by whatever ranks f and g of the two tables
abbrev pub HasFewMessages : {F : Type 0} → Summary F → World → Session → Type 0
HasFewMessages S w s =
    (f g : List ℕ) → IsRankTable (initiator_of w s).table f → IsRankTable (responder_of w s).table g →
    length (messages S w s) ≤ message_bound (opened S f (initiator_of w s)) (rank g (responder_of w s))

-- the bound that is shown is one
abbrev pub IsWithinBound : {F : Type 0} → Summary F → World → Session → Type 0
IsWithinBound S w s = (bound : ℕ) → (report_of S w s).bound ≡ Some bound → length (messages S w s) ≤ bound

-- no list is longer than its sender's limit
abbrev pub KeepsLimits : {F : Type 0} → Summary F → World → Session → Type 0
KeepsLimits S w s = KeepLimits (initiator_of w s).table.limit (responder_of w s).table.limit (messages S w s)

-- once it has ended, where no unequal compared ranges share a fingerprint, each side knows both differences
abbrev pub LearnsBoth : {F : Type 0} → Summary F → World → Session → Type 0
LearnsBoth S w s =
    IsTrue (has_ended S w s) → IsClear S (initiator_of w s).items (responder_of w s).items (messages S w s) →
    KnowsDifference (initiator_knowledge S w s) (initiator_of w s).items (responder_of w s).items
    × KnowsDifference (responder_knowledge S w s) (responder_of w s).items (initiator_of w s).items

-- at any time, whether or not fingerprints clash
abbrev pub LearnsNothingWrong : {F : Type 0} → Summary F → World → Session → Type 0
LearnsNothingWrong S w s =
    KnowsNothingWrong (initiator_knowledge S w s) (initiator_of w s).items (responder_of w s).items
    × KnowsNothingWrong (responder_knowledge S w s) (responder_of w s).items (initiator_of w s).items

-- each message has at most max w0 (d w) parts, where the first has w0, and no more are shown, whether or not
-- fingerprints
-- clash
abbrev pub HasFewParts : {F : Type 0} → Summary F → World → Session → Type 0
HasFewParts S w s = CostsLittle S w s

-- all of these
pub record Holds {F : Type 0} (S : Summary F) (w : World) (s : Session) : Type 0 where
  pub few : HasFewMessages S w s
  pub bound : IsWithinBound S w s
  pub short : KeepsLimits S w s
  pub both : LearnsBoth S w s
  pub sound : LearnsNothingWrong S w s
  pub cost : HasFewParts S w s

-- each item of a history was there at the start, or was inserted
abbrev pub ComesFrom : List Node → List worlds.Step → World → Type 0
ComesFrom nodes steps w = (n : ℕ) (x : Item) → IsTrue (has (items_of (node_at w n).history) x) →
    IsTrue (list_any (λ m. has (items_of m.history) x) nodes) ⊎ IsTrue (list_any (inserts x) steps)

-- an item that a node has before some of the steps, and that travels along these to another one, is there in the end
abbrev pub SpreadsIn : {F : Type 0} → Summary F → List Node → List worlds.Step → World → Type 0
SpreadsIn S nodes steps w = (before along : List worlds.Step) (from to : ℕ) (x : Item) → before ++ along ≡ steps →
    let u = run S (start nodes) before in Reaches S u along from to →
    IsTrue (has (items_of (node_at u from).history) x) → IsTrue (has (items_of (node_at w to).history) x)

-- whatever nodes and steps made the world, each item of a history is one of theirs
abbrev pub HasItemsOfRuns : {F : Type 0} → Summary F → World → Type 0
HasItemsOfRuns S w = (nodes : List Node) (steps : List worlds.Step) →
    w ≡ run S (start nodes) steps → ComesFrom nodes steps w

-- a session that is delivered 513 times or more, one after another, has ended
abbrev pub EndsByDeliveries : {F : Type 0} → Summary F → World → Type 0
EndsByDeliveries S w = (k n : ℕ) (s : Session) → 513 ≤ n →
    let v = run S w (deliveries n k) in slice_get v.sessions k ≡ Some s → IsTrue (has_ended S v s)

-- after the Absorb of an ended session, where there is still room, the node has both versions
abbrev pub AbsorbsAll : {F : Type 0} → Summary F → World → worlds.Step → World → Type 0
AbsorbsAll S w (worlds.Insert n x) v = ⊤
AbsorbsAll S w (worlds.Open i r) v = ⊤
AbsorbsAll S w (worlds.Deliver k) v = ⊤
AbsorbsAll S w (worlds.Absorb k side) v = (s : Session) (x : Item) →
    let after = content (node_at v (node_of s side)).history in
    slice_get w.sessions k ≡ Some s → IsTrue (has_ended S w s) →
    IsClear S (initiator_of w s).items (responder_of w s).items (messages S w s) →
    length after < (node_at w (node_of s side)).table.cap →
    IsTrue (has (initiator_of w s).items x || has (responder_of w s).items x) → IsTrue (has after x)
