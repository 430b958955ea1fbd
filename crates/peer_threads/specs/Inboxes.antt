-- What came in, and which events of it were handed out.
--     InboxState                       a stream, the bytes of it that wait to be fed, and the number of reads
--     HasRead b bytes es               these bytes were read, and these events of them were handed out
--     IsFaulty over bytes es code      these are all events of the stream, and this is its fault
--     IsUnread s bytes es side         no more is read, since the reader failed, or was read as often as it may be
--     StopsAt s bytes es stop          why no more events come, where the reader tells this
--     Next s b bytes es result         what the next event is, or why there is none
--     SoFar b Q                        what holds of whatever was read and handed out so far
--     Reads unread left b Q            what is read now, after what was read before
--     ReadOn unread left               some bytes were read, or none
--     Counts before after b c          the reader was read no more often than the inbox counts, which stops at 2^32
--     Held, Fetched                    what the bytes that wait give, and what one read gives
use Rattle.std.specs.Prelude.{◌≡◌, ℕ, ◌+◌, ◌≤◌, ◌^◌, ◌⊎◌, List, [], ◌∷◌, ◌++◌, length, Bool, Option, Some, None}
use Rattle.std.specs.Prelude.{Result, Ok, Err, IsTrue}
use Rattle.std.specs.Io.KnownBytes.{Consumes}
use Rattle.definitions.specs.Items.{IsBytes}
use Rattle.definitions.specs.Accounts.{Seen}
use Rattle.definitions.specs.Refusals.{truncated}
use Rattle.definitions.specs.Wire.{Profile, Event}
use Rattle.definitions.specs.Streams.{Before_hello, Faulted, Fed, feed}
use Rattle.wire_core.specs.Events.{event_value}
use Rattle.wire_core.specs.Feeds.{StreamState, Holds, fault_at}
use Rattle.wire_core.specs.declared.event.Event as declared
use Rattle.session_table.specs.declared.outcome.Direction.{Direction}
use Rattle.session_table.specs.declared.outcome.Direction.TheVariants as directions
use Rattle.peer_threads.specs.declared.stop.Stop.{Stop}
use Rattle.peer_threads.specs.declared.stop.Stop.TheVariants as stops

pub record InboxState : Type 0 where
  pub feed : StreamState
  pub waiting : List ℕ
  pub reads : ℕ

-- some bytes were read, or none
abbrev pub ReadOn : Option (List ℕ) → Option (List ℕ) → Type 0
ReadOn unread left = (bytes : List ℕ) × IsBytes bytes × Consumes unread left bytes

abbrev pub Counts : ℕ → ℕ → InboxState → InboxState → Type 0
Counts before after b c = (after + b.reads ≤ before + c.reads) × (c.reads ≤ 2 ^ 32)

module _ {F : Type 0} (W : Profile F) where
  -- the stream of all that was read
  abbrev pub stream : List ℕ → Fed F
  stream bytes = feed W Before_hello bytes

  -- the events that were handed out begin those of the stream
  abbrev pub Begins : List ℕ → List (Event F) → Type 0
  Begins bytes es = (more : List (Event F)) × ((stream bytes).events ≡ es ++ more)

  pub record HasRead (b : InboxState) (bytes : List ℕ) (es : List (Event F)) : Type 0 where
    -- what was fed, and its events
    pub fed : List ℕ
    pub split : bytes ≡ fed ++ b.waiting
    pub fits : IsBytes fed
    pub holds : Holds W b.feed fed es
    -- the events of all that was read
    pub more : List (Event F)
    pub events : (stream bytes).events ≡ es ++ more
    -- each read gave a byte, and each event took one
    pub counted : b.reads ≤ length bytes
    pub took : length es ≤ length fed

  -- these are all events of the stream, which has a fault of this code, or has none and has ended (3)
  pub record IsFaulty (over : Bool) (bytes : List ℕ) (es : List (Event F)) (code : ℕ) : Type 0 where
    pub events : (stream bytes).events ≡ es
    pub fault : ((stream bytes).to ≡ Faulted code)
        ⊎ ((code ≡ truncated) × IsTrue over × (fault_at (stream bytes).to ≡ None))

  -- the reader gave an error, or was read as often as it may be
  abbrev pub IsUnread : Seen → List ℕ → List (Event F) → Direction → Type 0
  IsUnread s bytes es side = (side ≡ directions.Read) × (IsTrue s.failed ⊎ (2 ^ 32 ≤ length bytes)) × Begins bytes es

  -- an inbox alone never finds that the peer refused: that is an event
  abbrev pub StopsAt : Seen → List ℕ → List (Event F) → Stop → Type 0
  StopsAt s bytes es (stops.PeerRefused code) = ⊥
  StopsAt s bytes es (stops.Refused code) = IsFaulty s.ended bytes es code
  StopsAt s bytes es (stops.Io side) = IsUnread s bytes es side
  StopsAt s bytes es stops.Memory = Begins bytes es

  abbrev pub Next : Seen → InboxState → List ℕ → List (Event F) → Result (declared.Event F) Stop → Type 0
  Next s b bytes es (Ok e) = HasRead b bytes (es ++ event_value e ∷ [])
  Next s b bytes es (Err stop) = StopsAt s bytes es stop

  -- whatever was read and handed out so far
  abbrev pub SoFar : InboxState → (List ℕ → List (Event F) → Type 0) → Type 0
  SoFar b Q = (bytes : List ℕ) (es : List (Event F)) → IsBytes bytes → HasRead b bytes es → Q bytes es

  -- what is read now, after whatever was read before
  abbrev pub Reads : Option (List ℕ) → Option (List ℕ) → InboxState → (List ℕ → List (Event F) → Type 0) → Type 0
  Reads unread left b Q = SoFar b (λ before es.
      (bytes : List ℕ) × IsBytes bytes × Consumes unread left bytes × Q (before ++ bytes) es)

  -- ---- steps

  -- the first event of the bytes that wait, if there is one
  abbrev pub Held : Seen → InboxState → List ℕ → List (Event F) → Result (Option (declared.Event F)) Stop → Type 0
  Held s b bytes es (Ok None) = HasRead b bytes es
  Held s b bytes es (Ok (Some e)) = HasRead b bytes (es ++ event_value e ∷ [])
  Held s b bytes es (Err stop) = StopsAt s bytes es stop

  -- a read that gives no byte tells the end, where all bytes were fed
  abbrev pub FetchStops : Seen → InboxState → List ℕ → List (Event F) → Stop → Type 0
  FetchStops s b bytes es (stops.PeerRefused code) = ⊥
  FetchStops s b bytes es (stops.Refused code) = Holds W b.feed bytes es × (code ≡ truncated) × IsTrue s.ended
  FetchStops s b bytes es (stops.Io side) = IsUnread s bytes es side
  FetchStops s b bytes es stops.Memory = ⊥

  abbrev pub Fetched : Seen → InboxState → List ℕ → List (Event F) → Result (Unit {0}) Stop → Type 0
  Fetched s b bytes es (Ok x) = HasRead b bytes es
  Fetched s b bytes es (Err stop) = FetchStops s b bytes es stop
