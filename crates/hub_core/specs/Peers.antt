-- What is known of a peer, by all bytes that were read of it and all that were written to it.
--     Knowing P phase pushed taken        all of it, where its session speaks of P
--     Goes old new unread left held holds read said lost      what a call does: the bytes read are pushed and those
--                                         written are taken, in order; lost were read and not pushed
--     GoesSo .. result                    nothing was lost, and the bytes are counted, unless the call failed
--     LeavesOff phase r w result          why a call left off, and which way failed where one did
--     CountsSo p q now result             when it was heard, and how many bytes came since our last message
--     IsChosen phase came                 the session is of the profile that these bytes choose
--     over_in phase                       whether it was told that the input is over
--     EndsPhase old new last              it was told so only where the last read found the end
--     Opens P old new                     the session of a greeting was opened
--     version_after phase was given       the version that a peer's session speaks of then
--     kept_in, sent_in, bound_in          what it keeps in memory, how many messages were said to it, and may be
--     written_in, Writes                  how many of them were written whole: of all that is said to the bytes read,
--                                         just the first so many end within those that were written
--     owes, state_in, goes_on, Learns     whether text is made and not written, how its session stands, whether it goes
--                                         on, and what it has learned
--     PeerState, IsFresh, kept, woken     a peer, one that has just come, one whose stream is ready again
--     is_from origin p                    it comes from this origin
use Rattle.std.specs.Prelude.{◌≡◌, ◌⊎◌, ℕ, ◌+◌, ◌-◌, ◌^◌, ◌&&◌, min, nat_eq, nat_lt, Bool, true, false, List, [], ◌++◌}
use Rattle.std.specs.Prelude.{length, if◌then◌else◌, Option, Some, None, Result, Ok, Err}
use Rattle.std.specs.Io.KnownBytes.{Consumes, Appends}
use Rattle.std.specs.Io.Take.{take_inner, take_limit}
use Rattle.std.specs.declared.io.traits.Take.{Take}
use Rattle.definitions.specs.Fingerprints.{Summary, two_lanes, counted_lanes, compact_prints}
use Rattle.definitions.specs.Ranks.{rank_by}
use Rattle.definitions.specs.Replies.{Peer}
use Rattle.definitions.specs.Talks.{Knowledge}
use Rattle.definitions.specs.Wire.{Profile, two_lane_profile, counted_profile, compact_profile}
use Rattle.definitions.specs.Engines.{responding}
use Rattle.ends_core.specs.Sides.{said_to}
use Rattle.session_core.specs.Kept.{kept_by}
use Rattle.session_core.specs.Outboxes.{unwritten}
use Rattle.session_core.specs.Written.{IsWritten}
use Rattle.session_core.specs.Sessions.{SessionState, Knows, is_open}
use Rattle.session_core.specs.declared.state.State.{State}
use Rattle.session_core.specs.declared.state.State.TheVariants as states
use Rattle.session_core.specs.Links.{count_of, Fails, StandsAt}
use Rattle.session_core.specs.Polls.{Poll}
use Rattle.session_core.specs.declared.fault.LinkFault.{LinkFault}
use Rattle.session_core.specs.declared.polled.Last.{Last}
use Rattle.session_core.specs.declared.polled.Last.TheVariants as lasts
use Rattle.session_core.specs.declared.pumped.Pumped.{Pumped}
use Rattle.hub_core.specs.Greetings.{is_counted, is_compact, told}
use Rattle.hub_core.specs.Steps.{LeavesGreeting}
use Rattle.hub_core.specs.declared.phase.Phase.{Phase}
use Rattle.hub_core.specs.declared.phase.Phase.TheVariants as phases

abbrev pub Knowing : Peer → Phase → List ℕ → List ℕ → Type 0
Knowing P (phases.Greeting g) pushed taken = (pushed ≡ g.came) × (taken ≡ told g)
Knowing P (phases.Plain c) pushed taken = Knows two_lanes two_lane_profile (responding two_lanes P) c.value pushed taken
Knowing P (phases.Counted c) pushed taken =
    Knows counted_lanes counted_profile (responding counted_lanes P) c.value pushed taken
Knowing P (phases.Compact c) pushed taken =
    Knows compact_prints compact_profile (responding compact_prints P) c.value pushed taken

pub record Goes (old new : Phase) (unread left held holds : Option (List ℕ)) (read said lost : List ℕ) : Type 0 where
  pub consumed : Consumes unread left (read ++ lost)
  pub appended : Appends held holds said
  -- whatever was read and written before, this was read and written after it
  pub knows : (P : Peer) (pushed taken : List ℕ) → Knowing P old pushed taken →
      Knowing P new (pushed ++ read) (taken ++ said)

abbrev pub GoesSo : Phase → Phase → Option (List ℕ) → Option (List ℕ) → Option (List ℕ) → Option (List ℕ) →
    Result Pumped LinkFault → Type 0
GoesSo old new unread left held holds (Ok s) = (read said : List ℕ) × Goes old new unread left held holds read said []
    × (s.read ≡ count_of read) × (s.written ≡ count_of said)
GoesSo old new unread left held holds (Err f) =
    (read said lost : List ℕ) × Goes old new unread left held holds read said lost

-- ---- why a call left off

abbrev pub LeavesOff : Phase → Last → Last → Result Pumped LinkFault → Type 0
LeavesOff (phases.Greeting g) r w result = LeavesGreeting g r w result
LeavesOff (phases.Plain c) r w (Ok s) = StandsAt two_lane_profile s.pause c.value r w s.read s.written
LeavesOff (phases.Counted c) r w (Ok s) = StandsAt counted_profile s.pause c.value r w s.read s.written
LeavesOff (phases.Compact c) r w (Ok s) = StandsAt compact_profile s.pause c.value r w s.read s.written
LeavesOff (phases.Plain c) r w (Err f) = Fails {X = Pumped} (Err f) r w
LeavesOff (phases.Counted c) r w (Err f) = Fails {X = Pumped} (Err f) r w
LeavesOff (phases.Compact c) r w (Err f) = Fails {X = Pumped} (Err f) r w

-- ---- the profile

abbrev pub IsChosen : Phase → List ℕ → Type 0
IsChosen (phases.Greeting g) came = ⊥
IsChosen (phases.Plain c) came = (is_counted came ≡ false) × (is_compact came ≡ false)
IsChosen (phases.Counted c) came = is_counted came ≡ true
IsChosen (phases.Compact c) came = is_compact came ≡ true

abbrev pub over_in : Phase → Bool
over_in (phases.Greeting g) = g.over
over_in (phases.Plain c) = c.value.over
over_in (phases.Counted c) = c.value.over
over_in (phases.Compact c) = c.value.over

abbrev pub EndsPhase : Phase → Phase → Last → Type 0
EndsPhase old new last = over_in new ≡ true → (over_in old ≡ true) ⊎ (last ≡ lasts.Ended)

-- its input is over where that of the greeting was; where it was open already nothing has changed
abbrev pub Opens : Peer → Phase → Phase → Type 0
Opens P (phases.Greeting g) new = Knowing P new g.came (told g) × IsChosen new g.came × (over_in new ≡ g.over)
Opens P (phases.Plain c) new = new ≡ phases.Plain c
Opens P (phases.Counted c) new = new ≡ phases.Counted c
Opens P (phases.Compact c) new = new ≡ phases.Compact c

-- a session that is opened speaks of this version, and one that was open of the one it spoke of
abbrev pub version_after : Phase → ℕ → ℕ → ℕ
version_after (phases.Greeting g) was given = given
version_after (phases.Plain c) was given = was
version_after (phases.Counted c) was given = was
version_after (phases.Compact c) was given = was

-- ---- what a peer has

-- the bytes that came, or what the session keeps
abbrev pub kept_in : Phase → ℕ
kept_in (phases.Greeting g) = min (length g.came) (2 ^ 64 - 1)
kept_in (phases.Plain c) = kept_by c.value
kept_in (phases.Counted c) = kept_by c.value
kept_in (phases.Compact c) = kept_by c.value

abbrev pub sent_in : Phase → ℕ
sent_in (phases.Greeting g) = 0
sent_in (phases.Plain c) = c.value.talk.held.end.sent
sent_in (phases.Counted c) = c.value.talk.held.end.sent
sent_in (phases.Compact c) = c.value.talk.held.end.sent

abbrev pub written_in : Phase → ℕ
written_in (phases.Greeting g) = 0
written_in (phases.Plain c) = c.value.talk.held.end.sent - unwritten c.value.talk.outbox
written_in (phases.Counted c) = c.value.talk.held.end.sent - unwritten c.value.talk.outbox
written_in (phases.Compact c) = c.value.talk.held.end.sent - unwritten c.value.talk.outbox

abbrev pub WritesOf : {F : Type 0} → Summary F → Profile F → SessionState F → ℕ → Type 0
WritesOf S W c n = (P : Peer) (pushed taken : List ℕ) → Knows S W (responding S P) c pushed taken →
    IsWritten W (said_to S W (responding S P) pushed) taken n

abbrev pub Writes : Phase → ℕ → Type 0
Writes (phases.Greeting g) n = n ≡ 0
Writes (phases.Plain c) n = WritesOf two_lanes two_lane_profile c.value n
Writes (phases.Counted c) n = WritesOf counted_lanes counted_profile c.value n
Writes (phases.Compact c) n = WritesOf compact_prints compact_profile c.value n

-- how many messages its session says at most
abbrev pub bound_in : Phase → ℕ
bound_in (phases.Greeting g) = 0
bound_in (phases.Plain c) = rank_by c.value.talk.held.steps (length c.value.talk.held.end.peer.items) + 1
bound_in (phases.Counted c) = rank_by c.value.talk.held.steps (length c.value.talk.held.end.peer.items) + 1
bound_in (phases.Compact c) = rank_by c.value.talk.held.steps (length c.value.talk.held.end.peer.items) + 1

-- text of its session is made and not written
abbrev pub owes : Phase → Bool
owes (phases.Greeting g) = false
owes (phases.Plain c) = nat_lt 0 (length c.value.talk.outbox.ready)
owes (phases.Counted c) = nat_lt 0 (length c.value.talk.outbox.ready)
owes (phases.Compact c) = nat_lt 0 (length c.value.talk.outbox.ready)

abbrev pub state_in : Phase → Option State
state_in (phases.Greeting g) = None
state_in (phases.Plain c) = Some c.value.talk.state
state_in (phases.Counted c) = Some c.value.talk.state
state_in (phases.Compact c) = Some c.value.talk.state

-- its session is opened and goes on
abbrev pub goes_on : Phase → Bool
goes_on (phases.Greeting g) = false
goes_on (phases.Plain c) = is_open c.value.talk.state
goes_on (phases.Counted c) = is_open c.value.talk.state
goes_on (phases.Compact c) = is_open c.value.talk.state

-- its session has ended, and has learned this
abbrev pub Learns : Phase → Knowledge → Type 0
Learns (phases.Greeting g) k = ⊥
Learns (phases.Plain c) k = (c.value.talk.state ≡ states.Ended) × (k ≡ c.value.talk.held.end.learned)
Learns (phases.Counted c) k = (c.value.talk.state ≡ states.Ended) × (k ≡ c.value.talk.held.end.learned)
Learns (phases.Compact c) k = (c.value.talk.state ≡ states.Ended) × (k ≡ c.value.talk.held.end.learned)

pub record PeerState (I O : Type 0) : Type 0 where
  -- so many bytes are read of it at most
  pub reader : Poll (Take I)
  pub writer : Poll O
  pub phase : Phase
  -- the version of the set that its session speaks of
  pub version : ℕ
  pub serial : ℕ
  -- when a byte of it was last read or written, and when it came, in milliseconds
  pub heard : ℕ
  pub arrived : ℕ
  -- how many bytes came since our last message
  pub long : ℕ
  -- how many bytes its reader keeps
  pub waits : ℕ
  -- where it comes from, if that is counted
  pub origin : Option ℕ

-- what is counted for it
abbrev pub kept : {I O : Type 0} → PeerState I O → ℕ
kept p = min (kept_in p.phase + p.waits) (2 ^ 64 - 1)

abbrev pub is_same : ℕ → Option ℕ → Bool
is_same origin None = false
is_same origin (Some own) = nat_eq own origin

abbrev pub is_from : {I O : Type 0} → ℕ → PeerState I O → Bool
is_from origin p = is_same origin p.origin

-- when it was heard, and how many bytes came since our last message, after a step made now
abbrev pub heard_by : ℕ → Pumped → ℕ → ℕ
heard_by heard s now = if nat_eq s.read 0 && nat_eq s.written 0 then heard else now

abbrev pub long_by : ℕ → Pumped → Bool → ℕ
long_by long s is_same = if is_same then min (long + s.read) (2 ^ 64 - 1) else 0

abbrev pub CountsSo : {I O : Type 0} → PeerState I O → PeerState I O → ℕ → Result Pumped LinkFault → Type 0
CountsSo p q now (Ok s) = (q.heard ≡ heard_by p.heard s now)
    × (q.long ≡ long_by p.long s (nat_eq (sent_in q.phase) (sent_in p.phase)))
CountsSo p q now (Err f) = (q.heard ≡ p.heard) × (q.long ≡ p.long)

-- one that has just come
abbrev pub fresh : {I O : Type 0} → Take I → O → ℕ → ℕ → PeerState I O
fresh reader writer serial now = record {
  reader = record { way = reader; last = lasts.Unknown };
  writer = record { way = writer; last = lasts.Unknown };
  phase = phases.Greeting (record { came = []; said = 0; over = false });
  version = 0;
  serial = serial;
  heard = now;
  arrived = now;
  long = 0;
  waits = 0;
  origin = None;
}

pub record IsFresh {I O : Type 0} (reader : I) (writer : O) (most serial now : ℕ) (p : PeerState I O) : Type 0 where
  pub way : Take I
  pub inner : take_inner way ≡ reader
  pub limit : take_limit way ≡ most
  pub is : p ≡ fresh way writer serial now

-- both ways of the stream are ready again
abbrev pub woken : {I O : Type 0} → PeerState I O → PeerState I O
woken p = record p {
  reader = record p.reader { last = lasts.Unknown };
  writer = record p.writer { last = lasts.Unknown };
}
