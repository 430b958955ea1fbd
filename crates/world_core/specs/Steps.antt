-- Steps and answers, as the definitions have them.
--     side_of s, step_of e, did_of d
--     added_in d                       how many items an insert put in
--     absorbing w n node items         the world after items that are put into a node
--     IsCutShort S w e v               the world v after a step that memory cut short
use Rattle.std.specs.Prelude.{◌≡◌, ℕ, List, take, slice_get, Option, Some, None, IsTrue}
use Rattle.definitions.specs.Items.{Item}
use Rattle.definitions.specs.Fingerprints.{Summary}
use Rattle.definitions.specs.Sets.{set_of}
use Rattle.definitions.specs.Theorems.{node_of}
use Rattle.definitions.specs.Worlds as worlds
use Rattle.definitions.specs.Worlds.{World, Session, Node, node_at, has_ended, initiator_knowledge, responder_knowledge}
use Rattle.definitions.specs.Worlds.{with_history, Absorbing, absorb_all}
use Rattle.ends_core.specs.declared.side.Side.{Side}
use Rattle.ends_core.specs.declared.side.Side.TheVariants as sides
use Rattle.world_core.specs.declared.step.Step.{Step}
use Rattle.world_core.specs.declared.step.Step.TheVariants as steps
use Rattle.world_core.specs.declared.step.Did.{Did}
use Rattle.world_core.specs.declared.step.Did.TheVariants as did

abbrev pub side_of : Side → worlds.Side
side_of sides.Initiator = worlds.Initiator
side_of sides.Responder = worlds.Responder

abbrev pub step_of : Step → worlds.Step
step_of (steps.Insert n x) = worlds.Insert n x
step_of (steps.Open i r) = worlds.Open i r
step_of (steps.Deliver k) = worlds.Deliver k
step_of (steps.Absorb k side) = worlds.Absorb k (side_of side)

abbrev pub did_of : Did → worlds.Did
did_of did.Idle = worlds.Idle
did_of (did.Added version) = worlds.Added version
did_of did.Already = worlds.Already
did_of did.Full = worlds.Full
did_of (did.Opened session) = worlds.Opened session
did_of did.Sent = worlds.Sent
did_of did.Over = worlds.Over
did_of (did.Absorbed added) = worlds.Absorbed added

-- how many items an insert put in, unless there is no room
abbrev pub added_in : worlds.Did → Option ℕ
added_in worlds.Idle = Some 0
added_in (worlds.Added version) = Some 1
added_in worlds.Already = Some 0
added_in worlds.Full = None
added_in (worlds.Opened session) = Some 0
added_in worlds.Sent = Some 0
added_in worlds.Over = Some 0
added_in (worlds.Absorbed added) = Some 0

-- what a side of a session learned, in rising order
abbrev pub theirs_of : {F : Type 0} → Summary F → World → Session → worlds.Side → List Item
theirs_of S w s worlds.Initiator = set_of (initiator_knowledge S w s).theirs
theirs_of S w s worlds.Responder = set_of (responder_knowledge S w s).theirs

-- what putting these items into the node makes of its history
abbrev pub absorbed_at : World → ℕ → List Item → Absorbing
absorbed_at w n items = absorb_all (node_at w n).table.cap (node_at w n).history items

-- the world after these items
abbrev pub absorbing : World → ℕ → Node → List Item → World
absorbing w n node items = with_history w n node (absorb_all node.table.cap node.history items).history

-- the session has ended, and only the first of the items that the side learned were put in
abbrev pub AbsorbsSome : {F : Type 0} → Summary F → World → ℕ → worlds.Side → World → Type 0
AbsorbsSome S w k side v = (s : Session) × (n : ℕ) × (slice_get w.sessions k ≡ Some s)
    × IsTrue (has_ended S w s)
    × (v ≡ absorbing w (node_of s side) (node_at w (node_of s side)) (take n (theirs_of S w s side)))

-- where memory ran out nothing is changed, but that the Absorb of an ended session keeps what it put in before
abbrev pub IsCutShort : {F : Type 0} → Summary F → World → worlds.Step → World → Type 0
IsCutShort S w (worlds.Insert n x) v = v ≡ w
IsCutShort S w (worlds.Open i r) v = v ≡ w
IsCutShort S w (worlds.Deliver k) v = v ≡ w
IsCutShort S w (worlds.Absorb k side) v = AbsorbsSome S w k side v
