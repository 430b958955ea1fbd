-- How items spread among nodes that absorb what their sessions learned.
--     Leg                              some steps, and then one side of a session that was opened in them absorbs
--     Carries S w from to leg          the leg takes what the one node has to the other
--     IsWay S w from legs to           the legs lead from the one node to the other, one after another
--     Reaches S w steps from to        the steps begin with a way
--     SpreadClaim                      an item travels along it
--     UnionClaim                       where each node reaches each one, all end with all items, and with no others
use Rattle.std.specs.Prelude.{◌≡◌, ℕ, ◌<◌, ◌≤◌, false, List, [], ◌∷◌, ◌++◌, length, flat_map, slice_get, Some}
use Rattle.std.specs.Prelude.{IsTrue, ◌↔◌}
use Rattle.std.specs.List.{list_any}
use Rattle.definitions.specs.Items.{Item}
use Rattle.definitions.specs.Sets.{has}
use Rattle.definitions.specs.Fingerprints.{Summary, IsExact}
use Rattle.definitions.specs.Talks.{IsClear}
use Rattle.definitions.specs.Histories.{content, items_of}
use Rattle.definitions.specs.Worlds.{World, Session, Step, Side, Initiator, Responder, Absorb, node_at, messages}
use Rattle.definitions.specs.Worlds.{has_ended, initiator_of, responder_of, run}
use Rattle.definitions.specs.Theorems.{node_of, inserts}

abbrev pub other_side : Side → Side
other_side Initiator = Responder
other_side Responder = Initiator

-- steps of any kind, and then a side absorbs what it learned in a session
pub record Leg : Type 0 where
  pub before : List Step
  pub session : ℕ
  pub side : Side

abbrev pub steps_of : Leg → List Step
steps_of l = l.before ++ Absorb l.session l.side ∷ []

-- The session was opened in the leg and has ended, and no unequal ranges that it compared shared a fingerprint. The
-- node that absorbs it stays below its cap.
pub record Carries {F : Type 0} (S : Summary F) (w : World) (from to : ℕ) (l : Leg) : Type 0 where
  pub session : Session
  pub there : slice_get (run S w l.before).sessions l.session ≡ Some session
  pub opened : length w.sessions ≤ l.session
  pub leaves : node_of session (other_side l.side) ≡ from
  pub arrives : node_of session l.side ≡ to
  pub ended : IsTrue (has_ended S (run S w l.before) session)
  pub clear : IsClear S (initiator_of (run S w l.before) session).items (responder_of (run S w l.before) session).items
      (messages S (run S w l.before) session)
  pub room : length (content (node_at (run S w (steps_of l)) to).history) < (node_at (run S w l.before) to).table.cap

abbrev pub IsWay : {F : Type 0} → Summary F → World → ℕ → List Leg → ℕ → Type 0
IsWay S w from [] to = from ≡ to
IsWay S w from (l ∷ ls) to = (via : ℕ) × (Carries S w from via l × IsWay S (run S w (steps_of l)) via ls to)

-- the steps begin with the legs of a way
pub record Reaches {F : Type 0} (S : Summary F) (w : World) (steps : List Step) (from to : ℕ) : Type 0 where
  pub legs : List Leg
  pub rest : List Step
  pub way : IsWay S w from legs to
  pub begins : flat_map steps_of legs ++ rest ≡ steps

-- An item travels along sessions, each of which is opened after the last one was absorbed, whatever else happens
-- meanwhile.
abbrev pub SpreadClaim : {F : Type 0} → Summary F → Type 0
SpreadClaim S = IsExact S → (w : World) (steps : List Step) (from to : ℕ) (x : Item) → Reaches S w steps from to →
    IsTrue (has (items_of (node_at w from).history) x) →
    IsTrue (has (items_of (node_at (run S w steps) to).history) x)

-- Where each of these nodes reaches each other one, and nobody inserts, all of them have in the end just what some node
-- had. So it is after sessions along the edges of a tree, from its leaves to its root and back.
abbrev pub UnionClaim : {F : Type 0} → Summary F → Type 0
UnionClaim S = IsExact S → (w : World) (steps : List Step) → ((x : Item) → list_any (inserts x) steps ≡ false) →
    ((from to : ℕ) → from < length w.nodes → to < length w.nodes → Reaches S w steps from to) →
    (n : ℕ) (x : Item) → n < length w.nodes →
    IsTrue (has (items_of (node_at (run S w steps) n).history) x)
    ↔ ((m : ℕ) × ((m < length w.nodes) × IsTrue (has (items_of (node_at w m).history) x)))
