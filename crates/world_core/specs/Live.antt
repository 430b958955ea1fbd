-- What a world keeps of its sessions beside what the definitions say: their ends, the message made last, and the most
-- parts of a message.
--     session_of l, kept_of l, made l
--     IsKept S w l, IsRunning S nodes lives    what holds of each world
--     beginning S i r node, heard_by S l node  a session that is opened; one whose message made last is heard
use Rattle.std.specs.Prelude.{◌≡◌, ℕ, ◌+◌, List, length, max, map, Option, Some, None, IfSome, option_map, unwrap_or}
use Rattle.std.specs.Prelude.{if◌then◌else◌, ⊤}
use Rattle.std.specs.List.{AllByRecursion}
use Rattle.definitions.specs.Fingerprints.{Summary}
use Rattle.definitions.specs.Messages.{Message}
use Rattle.definitions.specs.Replies.{opening}
use Rattle.definitions.specs.Ends.{Answer, Replies, Ends, Refuses, answer, initiator, responder}
use Rattle.definitions.specs.Theorems.{IsNode}
use Rattle.definitions.specs.Worlds as worlds
use Rattle.definitions.specs.Worlds.{World, Node, node_at}
use Rattle.laws.specs.Growing.{is_even}
use Rattle.laws.specs.Sessions.{Kept, Keeps}
use Rattle.ends_core.specs.EndStates.{EndState, HasNone}
use Rattle.ends_core.specs.Turns.{end_after, fresh}
use Rattle.world_core.specs.Nodes.{newest}
use Rattle.world_core.specs.Runs.{Came}
use Rattle.world_core.specs.declared.session.RunSession.{RunSession}

abbrev pub session_of : {F : Type 0} → RunSession F → worlds.Session
session_of l = record {
  initiator_node = l.initiator_node;
  responder_node = l.responder_node;
  initiator_version = l.initiator_version;
  responder_version = l.responder_version;
  delivered = l.delivered;
}

abbrev pub kept_of : {F : Type 0} → RunSession F → Kept F
kept_of l =
    record { initiator = l.first.end; responder = option_map (λ h. h.end) l.second; last = l.last; parts = l.parts }

-- how many messages both ends sent
abbrev pub made : {F : Type 0} → RunSession F → ℕ
made l = (kept_of l).initiator.sent + unwrap_or (option_map (λ e. e.sent) (kept_of l).responder) 0

-- ---- what holds of each world

-- the ends and the last message are the session's, and the ends have the staircases of their nodes and hold no part
pub record IsKept {F : Type 0} (S : Summary F) (w : World) (l : RunSession F) : Type 0 where
  pub keeps : Keeps S w (session_of l) (kept_of l)
  pub first : l.first.steps ≡ (node_at w l.initiator_node).steps
  pub second : IfSome l.second (λ h. h.steps ≡ (node_at w l.responder_node).steps)
  pub first_none : HasNone l.first
  pub second_none : IfSome l.second HasNone

abbrev pub world_of : {F : Type 0} → List Node → List (RunSession F) → World
world_of nodes lives = record { nodes = nodes; sessions = map session_of lives }

pub record IsRunning {F : Type 0} (S : Summary F) (nodes : List Node) (lives : List (RunSession F)) : Type 0 where
  pub ready : AllByRecursion IsNode nodes
  pub kept : AllByRecursion (IsKept S (world_of nodes lives)) lives
  pub came : Came S (world_of nodes lives)

-- ---- a session's steps

-- a session that is opened at a node
abbrev pub beginning : {F : Type 0} → Summary F → ℕ → ℕ → Node → RunSession F
beginning S i r node = record {
  initiator_node = i;
  responder_node = r;
  initiator_version = length node.history;
  responder_version = None;
  delivered = 0;
  first = fresh node.steps (initiator S (newest node));
  second = None;
  last = opening S (newest node);
  parts = length (opening S (newest node));
}

-- the responder; where there is none it begins at its node
abbrev pub responder_from : {F : Type 0} → Summary F → Node → Option (EndState F) → EndState F
responder_from S node (Some h) = h
responder_from S node None = fresh node.steps (responder S (newest node))

-- who hears the message made last
abbrev pub hearer : {F : Type 0} → Summary F → RunSession F → Node → EndState F
hearer S l node = if is_even l.delivered then responder_from S node l.second else l.first

-- no message is refused
abbrev pub IsTaken : {F : Type 0} → Answer F → Type 0
IsTaken (Replies N) = ⊤
IsTaken Ends = ⊤
IsTaken (Refuses code) = ⊥

-- the message made last, after this answer
abbrev pub last_by : {F : Type 0} → Message F → Answer F → Message F
last_by last (Replies N) = N
last_by last Ends = last
last_by last (Refuses code) = last

-- and the most parts of a message
abbrev pub parts_by : {F : Type 0} → ℕ → Answer F → ℕ
parts_by n (Replies N) = max n (length N)
parts_by n Ends = n
parts_by n (Refuses code) = n

abbrev pub did_by : {F : Type 0} → Answer F → worlds.Did
did_by (Replies N) = worlds.Sent
did_by Ends = worlds.Over
did_by (Refuses code) = worlds.Over

-- one message more was delivered, which was answered so
abbrev pub advanced : {F : Type 0} → RunSession F → ℕ → Answer F → RunSession F
advanced l newest a = record l {
  responder_version = Some (unwrap_or l.responder_version newest);
  delivered = l.delivered + 1;
  last = last_by l.last a;
  parts = parts_by l.parts a;
}

abbrev pub heard_by_responder : {F : Type 0} → Summary F → RunSession F → Node → RunSession F
heard_by_responder S l node = record l { second = Some (end_after S (responder_from S node l.second) l.last) }

abbrev pub heard_by_initiator : {F : Type 0} → Summary F → RunSession F → RunSession F
heard_by_initiator S l = record l { first = end_after S l.first l.last }

-- the session after the delivery of the message made last
abbrev pub heard_by : {F : Type 0} → Summary F → RunSession F → Node → RunSession F
heard_by S l node =
    advanced (if is_even l.delivered then heard_by_responder S l node else heard_by_initiator S l) (length node.history)
    (answer S (hearer S l node).end l.last)
