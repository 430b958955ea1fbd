-- What has to be kept of a session of a world, so that it can go on and be shown: two ends, the message made last, and
-- the most parts of a message.
--     Kept, Keeps S w s k        what is kept, and that it is the session's
--     SessionsOpen, SessionsGoOn, SessionsStay, SessionsTell      how it begins, what a delivery makes of it, that no
--                                                                 other step touches it, and what it tells
--     SessionsKeepNodes          it speaks of the nodes alone
use Rattle.std.specs.Prelude.{◌≡◌, ℕ, ◌+◌, ◌<◌, ◌≤◌, Bool, true, false, ◌&&◌, length, max, slice_get, Option, Some}
use Rattle.std.specs.Prelude.{None, IfSome, option_map, unwrap_or, if◌then◌else◌, ◌↔◌}
use Rattle.std.specs.List.{AllByRecursion}
use Rattle.definitions.specs.Fingerprints.{Summary, IsExact}
use Rattle.definitions.specs.Messages.{Message, has_open}
use Rattle.definitions.specs.Replies.{Peer, opening, reply}
use Rattle.definitions.specs.Talks.{nothing}
use Rattle.definitions.specs.Ends.{End, Replies, Ends, initiator, responder, answer, after, initiator_at, responder_at}
use Rattle.definitions.specs.Ends.{is_over}
use Rattle.definitions.specs.Worlds.{World, Session, Step, node_at, peer_at, initiator_of, responder_of, messages}
use Rattle.definitions.specs.Worlds.{has_ended, initiator_knowledge, responder_knowledge, after_delivery, step}
use Rattle.definitions.specs.Cost.{most_parts}
use Rattle.definitions.specs.Theorems.{IsNode}
use Rattle.laws.specs.Growing.{is_even}

pub record Kept (F : Type 0) : Type 0 where
  pub initiator : End F
  -- None until the first message is delivered
  pub responder : Option (End F)
  -- the message made last
  pub last : Message F
  -- the greatest number of parts of a message
  pub parts : ℕ

-- what is kept is what the world says of the session
pub record Keeps {F : Type 0} (S : Summary F) (w : World) (s : Session) (k : Kept F) : Type 0 where
  pub initiator_there : s.initiator_node < length w.nodes
  pub responder_there : s.responder_node < length w.nodes
  pub initiator_version : s.initiator_version ≤ length (node_at w s.initiator_node).history
  pub responder_version : IfSome s.responder_version (λ v. v ≤ length (node_at w s.responder_node).history)
  pub unheard : (s.responder_version ≡ None) ↔ (s.delivered ≡ 0)
  pub initiator : k.initiator ≡ initiator_at S (initiator_of w s) (responder_of w s) s.delivered
  pub responder : k.responder
      ≡ option_map (λ v. responder_at S (initiator_of w s) (responder_of w s) s.delivered) s.responder_version
  -- the message made last is the next to be delivered, until each message was
  pub last : has_ended S w s ≡ false → slice_get (messages S w s) s.delivered ≡ Some k.last
  pub parts : k.parts ≡ most_parts (messages S w s)

-- what is kept of a session that is opened
abbrev pub kept_at_opening : {F : Type 0} → Summary F → Peer → Kept F
kept_at_opening S I = record {
  initiator = initiator S I;
  responder = None;
  last = opening S I;
  parts = length (opening S I);
}

abbrev pub SessionsOpen : {F : Type 0} → Summary F → Type 0
SessionsOpen S = (w : World) (i r : ℕ) → i < length w.nodes → r < length w.nodes →
    let s : Session = record {
      initiator_node = i;
      responder_node = r;
      initiator_version = length (node_at w i).history;
      responder_version = None;
      delivered = 0;
    } in
    Keeps S w s (kept_at_opening S (initiator_of w s))

-- the responder's end at a delivery: at the first it begins, with the newest version
abbrev pub responder_now : {F : Type 0} → Summary F → World → Session → Kept F → End F
responder_now S w s k =
    unwrap_or k.responder (responder S (peer_at w s.responder_node (length (node_at w s.responder_node).history)))

-- who hears the message made last
abbrev pub hearer_now : {F : Type 0} → Summary F → World → Session → Kept F → End F
hearer_now S w s k = if is_even s.delivered then responder_now S w s k else k.initiator

-- what is kept after a delivery, whose hearer is then e, which made the message N, and after which no message has
-- more parts than n
abbrev pub kept_after : {F : Type 0} → Session → Kept F → End F → Message F → ℕ → Kept F
kept_after s k e N n =
    if is_even s.delivered then record { initiator = k.initiator; responder = Some e; last = N; parts = n }
    else record { initiator = e; responder = k.responder; last = N; parts = n }

-- the message made last is heard, and not refused: its reply is made, or the session has ended
pub record GoesOnBy {F : Type 0} (S : Summary F) (w : World) (s : Session) (k : Kept F) : Type 0 where
  -- it is a reply where the message has an open part
  pub replied : (N : Message F) → answer S (hearer_now S w s k) k.last ≡ Replies N →
      Keeps S w (after_delivery w s) (kept_after s k (after S (hearer_now S w s k) k.last) N (max k.parts (length N)))
      × (has_ended S w (after_delivery w s) ≡ false)
  pub ended : answer S (hearer_now S w s k) k.last ≡ Ends →
      Keeps S w (after_delivery w s) (kept_after s k (after S (hearer_now S w s k) k.last) k.last k.parts)
      × (has_ended S w (after_delivery w s) ≡ true)
  pub taken : answer S (hearer_now S w s k) k.last
      ≡ (if has_open k.last then Replies (reply S (hearer_now S w s k).peer k.last) else Ends)

abbrev pub SessionsGoOn : {F : Type 0} → Summary F → Type 0
SessionsGoOn {F} S = IsExact S → (w : World) (s : Session) (k : Kept F) → AllByRecursion IsNode w.nodes →
    Keeps S w s k → has_ended S w s ≡ false → GoesOnBy S w s k

-- no step touches what is kept of a session but its own delivery (which changes its numbers), and nodes stay nodes
pub record StaysAfter {F : Type 0} (S : Summary F) (w : World) (e : Step) : Type 0 where
  pub nodes : AllByRecursion IsNode w.nodes → AllByRecursion IsNode (step S w e).0.nodes
  pub count : length (step S w e).0.nodes ≡ length w.nodes
  pub kept : (s : Session) (k : Kept F) → Keeps S w s k → Keeps S (step S w e).0 s k

abbrev pub SessionsStay : {F : Type 0} → Summary F → Type 0
SessionsStay S = (w : World) (e : Step) → StaysAfter S w e

-- what is kept speaks of the nodes alone
abbrev pub SessionsKeepNodes : {F : Type 0} → Summary F → Type 0
SessionsKeepNodes {F} S = (w v : World) (s : Session) (k : Kept F) → v.nodes ≡ w.nodes → Keeps S w s k → Keeps S v s k

-- the session is over for both
abbrev pub both_over : {F : Type 0} → Kept F → Bool
both_over k = is_over k.initiator.stage && unwrap_or (option_map (λ e. is_over e.stage) k.responder) false

-- what is kept tells what the world says of the session
pub record Tells {F : Type 0} (S : Summary F) (w : World) (s : Session) (k : Kept F) : Type 0 where
  pub ended : has_ended S w s ≡ both_over k
  pub initiator : k.initiator.peer ≡ initiator_of w s
  pub responder : IfSome k.responder (λ e. e.peer ≡ responder_of w s)
  pub initiator_learned : k.initiator.learned ≡ initiator_knowledge S w s
  pub responder_learned : unwrap_or (option_map (λ e. e.learned) k.responder) nothing ≡ responder_knowledge S w s
  pub count : k.initiator.sent + unwrap_or (option_map (λ e. e.sent) k.responder) 0 ≡ length (messages S w s)
  -- and there are no more deliveries than messages
  pub delivered : s.delivered ≤ length (messages S w s)

abbrev pub SessionsTell : {F : Type 0} → Summary F → Type 0
SessionsTell {F} S =
    IsExact S → (w : World) (s : Session) (k : Kept F) → AllByRecursion IsNode w.nodes → Keeps S w s k → Tells S w s k
