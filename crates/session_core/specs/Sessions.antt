-- A session as plain data, and what it says of all bytes that were pushed and all bytes that were taken.
--     TalkState, SessionState            an end, how its session stands, and what it has to say; and the stream
--     due P t                            the bytes that are due: texts, and one fault frame where this side refuses
--     all_made P t                       what it has to say once all texts are made
--     hearing_at state h                 how the session stands, as a stream is heard
--     beginning, opened, noted, refused_by, with_outbox, finished     what single calls make of it
--     feed_of W f piece, IsFed           what a feed makes of a piece, and the event that it completes, if any
--     IsBegun W n pushed events          n bytes came after the last whole frame
--     Hears S P t e u, HearsIf           what one event makes of it
--     Tells S P s c pushed taken         the end, the refusal, the text and the counts are those of the definitions
--     Goes, Stays                        it goes on; or what comes later counts no more
--     Knows S P s c pushed taken         all of it
--     Begins S P a s c                   nothing was pushed, it is open, and it listens
--     Pushes S P c bytes d               whatever was pushed before, these bytes were pushed after it
--     Takes S P c bytes d                whatever was taken before, these bytes were taken after it
--     speaker_of S side P                the side of a role
use Rattle.std.specs.Prelude.{◌≡◌, ℕ, ◌⊎◌, Bool, true, false, List, [], ◌∷◌, ◌++◌, flat_map, Option, Some, None}
use Rattle.std.specs.Prelude.{IsTrue, if◌then◌else◌, ⊤, ◌+◌, ◌-◌, ◌^◌, min, length}
use Rattle.definitions.specs.Fingerprints.{Summary}
use Rattle.definitions.specs.Items.{IsBytes}
use Rattle.definitions.specs.Messages.{Message}
use Rattle.definitions.specs.Replies.{Peer}
use Rattle.definitions.specs.Refusals.{truncated}
use Rattle.definitions.specs.Wire.{Profile, session_text, message_text, fault_text, Event}
use Rattle.definitions.specs.Streams.{Before_hello, Fed, feed}
use Rattle.definitions.specs.Ends.{End, is_over, is_live}
use Rattle.definitions.specs.Engines.{Speaker, initiating, responding}
use Rattle.definitions.specs.Hearing.{Hearing, Goes_on, Over_at, Peer_refused, Refused_for, hear_now, hears, hearing_to}
use Rattle.definitions.specs.Worlds.{Side}
use Rattle.definitions.specs.Worlds as worlds
use Rattle.laws.specs.Hearing.{adds}
use Rattle.strategy_check.specs.Checked.{Checked}
use Rattle.wire_core.specs.Feeds.{StreamState, Holds, fed_into, fault_at}
use Rattle.wire_core.specs.Events.{event_value}
use Rattle.wire_core.specs.declared.event.Event as declared
use Rattle.ends_core.specs.EndStates.{EndState}
use Rattle.ends_core.specs.Sides.{said_to, session_at}
use Rattle.ends_core.specs.Sizes.{plus}
use Rattle.session_core.specs.Outboxes.{OutboxState, outbox_state, made}
use Rattle.session_core.specs.Written.{IsLaid}
use Rattle.session_core.specs.declared.state.State.{State}
use Rattle.session_core.specs.declared.state.State.TheVariants as states

pub record TalkState (F : Type 0) : Type 0 where
  -- the end, and what it took of a message that has not ended
  pub held : EndState F
  pub outbox : OutboxState F
  pub state : State
  -- the text of its refusal is made
  pub told : Bool

pub record SessionState (F : Type 0) : Type 0 where
  pub talk : TalkState F
  pub feed : StreamState
  -- the peer's bytes have ended
  pub over : Bool
  -- how many bytes came after the last whole frame
  pub begun : ℕ

abbrev pub is_open : State → Bool
is_open states.Open = true
is_open states.Ended = false
is_open (states.Refused code) = false
is_open (states.PeerRefused code) = false

-- ---- what is due

-- by which this side refuses, if it does
abbrev pub frame_of : State → List ℕ
frame_of states.Open = []
frame_of states.Ended = []
frame_of (states.Refused code) = fault_text code
frame_of (states.PeerRefused code) = []

abbrev pub frame_due : State → Bool → List ℕ
frame_due state told = if told then [] else frame_of state

abbrev pub due : {F : Type 0} → Profile F → TalkState F → List ℕ
due W t = t.outbox.ready ++ (flat_map (message_text W) t.outbox.later ++ frame_due t.state t.told)

abbrev pub all_made : {F : Type 0} → Profile F → TalkState F → OutboxState F
all_made W t = made W t.outbox (frame_due t.state t.told)

-- ---- what single calls make of it

abbrev pub beginning : {F : Type 0} → EndState F → OutboxState F → TalkState F
beginning h o = record { held = h; outbox = o; state = states.Open; told = false }

abbrev pub opened : {F : Type 0} → EndState F → OutboxState F → SessionState F
opened h o = record {
  talk = beginning h o;
  feed = record { standing = Before_hello; kept = [] };
  over = false;
  begun = 0;
}

abbrev pub noted : {F : Type 0} → TalkState F → TalkState F
noted t = if is_over t.held.end.stage then record t { state = states.Ended } else t

abbrev pub refused_by : {F : Type 0} → TalkState F → ℕ → TalkState F
refused_by t code = record t { state = states.Refused code; told = false }

abbrev pub with_outbox : {F : Type 0} → TalkState F → OutboxState F → Bool → TalkState F
with_outbox t o told = record t { outbox = o; told = told }

abbrev pub with_talk : {F : Type 0} → SessionState F → TalkState F → SessionState F
with_talk c t = record c { talk = t }

-- no more bytes come: before the session's end that is a refusal
abbrev pub cut_off : {F : Type 0} → TalkState F → TalkState F
cut_off t = if is_open t.state then refused_by t truncated else t

abbrev pub finished : {F : Type 0} → SessionState F → SessionState F
finished c = record c { talk = cut_off c.talk; over = true }

-- ---- one event

abbrev pub hearing_at : {F : Type 0} → State → EndState F → Hearing F
hearing_at states.Open h = Goes_on h.end h.taken
hearing_at states.Ended h = Over_at h.end
hearing_at (states.Refused code) h = Refused_for code
hearing_at (states.PeerRefused code) h = Peer_refused code

abbrev pub said_by : {F : Type 0} → EndState F → Event F → List (Message F)
said_by h e = adds h.taken e

abbrev pub events_of : {F : Type 0} → Option (declared.Event F) → List (Event F)
events_of None = []
events_of (Some e) = event_value e ∷ []

-- what a feed makes of a piece
abbrev pub feed_of : {F : Type 0} → Profile F → StreamState → List ℕ → Fed F
feed_of W f piece = feed W f.standing (f.kept ++ piece)

-- nothing is kept after an event
abbrev pub IsWhole : {F : Type 0} → Option (declared.Event F) → StreamState → Type 0
IsWhole None g = ⊤
IsWhole (Some e) g = g.kept ≡ []

-- the feed took the piece, which completed this event or none
abbrev pub IsFed : {F : Type 0} → Profile F → StreamState → List ℕ → Option (declared.Event F) → StreamState → Type 0
IsFed W f piece event g =
    (feed_of W f piece ≡ fed_into (events_of event) g) × (fault_at g.standing ≡ None) × IsWhole event g

-- how many bytes came after the last whole frame, where so many did before a piece of this length
abbrev pub begun_after : {F : Type 0} → Option (declared.Event F) → ℕ → ℕ → ℕ
begun_after None n count = plus n count
begun_after (Some e) n count = 0

-- the bytes pushed are whole frames, with these events, and then so many bytes
pub record IsBegun {F : Type 0} (W : Profile F) (n : ℕ) (pushed : List ℕ) (events : List (Event F)) : Type 0 where
  pub front : List ℕ
  pub back : List ℕ
  pub split : pushed ≡ front ++ back
  pub after : StreamState
  pub whole : Holds W after front events × (after.kept ≡ [])
  pub counted : n ≡ min (length back) (2 ^ 64 - 1)

module _ {F : Type 0} (S : Summary F) (W : Profile F) where
  -- it is heard, and what it calls for is due
  pub record Hears (t : TalkState F) (e : Event F) (u : TalkState F) : Type 0 where
    pub heard : hearing_at u.state u.held ≡ hear_now S t.held.end t.held.taken e
    pub due_then : due W u ≡ due W t ++ (flat_map (message_text W) (said_by t.held e) ++ frame_of u.state)
    pub later : u.outbox ≡ outbox_state t.outbox.ready t.outbox.ends (t.outbox.later ++ said_by t.held e)
    pub sent : u.held.end.sent ≡ t.held.end.sent + length (said_by t.held e)

  -- an event, if there is one
  abbrev pub HearsIf : TalkState F → Option (declared.Event F) → TalkState F → Type 0
  HearsIf t None u = u ≡ t
  HearsIf t (Some e) u = Hears t (event_value e) u

  -- ---- all bytes

  -- a session that goes on, or has ended, has this end
  abbrev pub IsEnd : State → End F → End F → Type 0
  IsEnd states.Open e f = (e ≡ f) × IsTrue (is_live f.stage)
  IsEnd states.Ended e f = (e ≡ f) × IsTrue (is_over f.stage)
  IsEnd (states.Refused code) e f = ⊤
  IsEnd (states.PeerRefused code) e f = ⊤

  -- what the session tells of the bytes that were pushed and of those that were taken
  pub record Tells (s : Speaker F) (c : SessionState F) (pushed taken : List ℕ) : Type 0 where
    -- whether it goes on, has ended, or who refused and why: a refusal of this side is the first fault of the bytes
    pub heard : hearing_to S W s c.over pushed ≡ hearing_at c.talk.state c.talk.held
    -- the end is the one that the messages in these bytes make
    pub end : IsEnd c.talk.state c.talk.held.end (session_at S W s pushed)
    -- what was taken and what is due: a hello, all that is said to these bytes, and one fault frame for a refusal
    pub text : taken ++ due W c.talk ≡ session_text W (said_to S W s pushed) ++ frame_of c.talk.state
    -- how many messages are said, and where each of them is
    pub sent : c.talk.held.end.sent ≡ length (said_to S W s pushed)
    pub laid : IsLaid W (said_to S W s pushed) (length taken) c.talk.outbox

  pub record Goes (s : Speaker F) (c : SessionState F) (pushed : List ℕ) : Type 0 where
    pub events : List (Event F)
    pub holds : Holds W c.feed pushed events
    pub heard : hears S s events ≡ Goes_on c.talk.held.end c.talk.held.taken
    pub fine : fault_at c.feed.standing ≡ None
    pub listens : c.over ≡ false
    pub begun : IsBegun W c.begun pushed events

  -- whatever comes later, the same was heard and said
  abbrev pub Lasts : Speaker F → TalkState F → List ℕ → Type 0
  Lasts s t pushed = (later : List ℕ) (over : Bool) → IsBytes later →
      (hearing_to S W s over (pushed ++ later) ≡ hearing_at t.state t.held)
      × (said_to S W s (pushed ++ later) ≡ said_to S W s pushed)

  abbrev pub Stays : Speaker F → SessionState F → List ℕ → Type 0
  Stays s c pushed = IsTrue c.over ⊎ Lasts s c.talk pushed

  abbrev pub GoesOn : Bool → Speaker F → SessionState F → List ℕ → Type 0
  GoesOn true s c pushed = Goes s c pushed
  GoesOn false s c pushed = Stays s c pushed

  pub record Knows (s : Speaker F) (c : SessionState F) (pushed taken : List ℕ) : Type 0 where
    pub are_bytes : IsBytes pushed
    pub tells : Tells s c pushed taken
    pub goes_on : GoesOn (is_open c.talk.state) s c pushed

  -- nothing was pushed, and it listens
  pub record Begins (a : Checked) (s : Speaker F) (c : SessionState F) : Type 0 where
    pub knows : Knows s c [] []
    pub goes : c.talk.state ≡ states.Open
    pub listens : c.over ≡ false
    pub peer : c.talk.held.end.peer ≡ s.start.peer
    pub steps : c.talk.held.steps ≡ a.steps

  -- whatever was pushed and taken before, these bytes were pushed after it
  abbrev pub Pushes : SessionState F → List ℕ → SessionState F → Type 0
  Pushes c bytes d = (s : Speaker F) (pushed taken : List ℕ) → is_live s.start.stage ≡ true →
      Knows s c pushed taken → Knows s d (pushed ++ bytes) taken

  -- whatever was pushed and taken before, these bytes were taken after it
  abbrev pub Takes : SessionState F → List ℕ → SessionState F → Type 0
  Takes c bytes d = (s : Speaker F) (pushed taken : List ℕ) → Knows s c pushed taken →
      Knows s d pushed (taken ++ bytes)

abbrev pub speaker_of : {F : Type 0} → Summary F → Side → Peer → Speaker F
speaker_of S worlds.Initiator P = initiating S P
speaker_of S worlds.Responder P = responding S P
