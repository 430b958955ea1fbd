-- Laws of the compact spelling.
--     UnitsComeBack, UnitsHaveOneSpelling, UnitsStandFirm      of one unit
--     UnpackingIsExact, MessagesMeanFrames                     of bytes and of messages
--     FramesAreBytes, PiecesJoin, PiecesAdd, KeptIsShort, FramesBegin, StreamsBegin
--                                                              of bytes that come in pieces
--     FaultsKeepNumbers, FramesAreHeard, StreamsAreHeard       of a session that reads the frames
--     PackingIsExact, MessagesArePacked, StreamsComeBack, PackingJoins, PackingUndoes, SameFramesSameBytes
--                                                              of frames that are written
--     MessagesComeBack, MessagesHaveOneSpelling                of one message and nothing else
--     OpeningsClimb, PlacedClimb, RepliesClimb, TalksClimb     of messages, whose ranges climb
use Rattle.std.specs.Prelude.{◌≡◌, ◌⊎◌, ℕ, ◌+◌, ◌<◌, ◌≤◌, List, [], ◌∷◌, ◌++◌, length, drop, nat_lt, if◌then◌else◌}
use Rattle.std.specs.Prelude.{flat_map, Bool, Option, Some, None, Ok, Err, IfSome}
use Rattle.std.specs.List.{AllByRecursion}
use Rattle.definitions.specs.Items.{IsBytes, IsLower, Apart}
use Rattle.definitions.specs.Fingerprints.{Summary}
use Rattle.definitions.specs.Messages.{Message, open_ranges}
use Rattle.definitions.specs.Replies.{Peer, reply}
use Rattle.definitions.specs.Placing.{Placed, IsOpening}
use Rattle.definitions.specs.Talks.{talk}
use Rattle.definitions.specs.Theorems.{Ready}
use Rattle.definitions.specs.Wire.{Profile, IsMessage, message_text, event_text, max_body, max_parts, Event, Came}
use Rattle.definitions.specs.Wire.{Ended, Failed, Stream, HasEvent}
use Rattle.definitions.specs.Reading.{event_at}
use Rattle.definitions.specs.Streams.{Fed, Before_hello, In_message, Faulted, Meaning_over, stays, with_event, feed}
use Rattle.definitions.specs.Streams.{message_in}
use Rattle.definitions.specs.Refusals.{too_many_parts}
use Rattle.definitions.specs.Compact.{unit_text, units_text, come_to, IsUnit, AreUnits, Climbs, compact_message}
use Rattle.definitions.specs.CompactReading.{unit_at, max_field}
use Rattle.definitions.specs.Packing.{Unpacked, with_unit, unpack, begun_text, after_units, faulty_text, event_frame}
use Rattle.definitions.specs.Packing.{frames_of, stream_of, pack, with_text}

-- a message may have come to it
abbrev pub IsFrom : Option (List ℕ) → Type 0
IsFrom z = IfSome z IsLower

-- ---- one unit

-- it is read back, whatever follows
abbrev pub UnitsComeBack : {F : Type 0} → Profile F → Type 0
UnitsComeBack {F} P = (z : Option (List ℕ)) → IsFrom z → (e : Event F) (rest : List ℕ) → IsUnit P z e →
    unit_at P z (unit_text P z e ++ rest) ≡ Ok (Some (e, rest))

-- what is read is a unit, spelled so
abbrev pub UnitsHaveOneSpelling : {F : Type 0} → Profile F → Type 0
UnitsHaveOneSpelling {F} P = (z : Option (List ℕ)) → IsFrom z → (bytes : List ℕ) → IsBytes bytes →
    (e : Event F) (rest : List ℕ) → unit_at P z bytes ≡ Ok (Some (e, rest)) →
    IsUnit P z e × (bytes ≡ unit_text P z e ++ rest)

-- with more bytes a unit stays the unit, and a fault the fault
abbrev pub UnitsStandFirm : {F : Type 0} → Profile F → Type 0
UnitsStandFirm {F} P = (z : Option (List ℕ)) → IsFrom z → (bytes more : List ℕ) → IsBytes bytes →
    ((e : Event F) (rest : List ℕ) → unit_at P z bytes ≡ Ok (Some (e, rest)) →
    unit_at P z (bytes ++ more) ≡ Ok (Some (e, rest ++ more)))
    × ((code : ℕ) → unit_at P z bytes ≡ Err code → unit_at P z (bytes ++ more) ≡ Err code)

-- ---- bytes and messages

-- the bound that units come to
abbrev pub come_through : {F : Type 0} → Option (List ℕ) → List (Event F) → Option (List ℕ)
come_through z [] = z
come_through z (e ∷ es) = come_through (come_to z e) es

-- after the units stands what is kept and is no whole one, or what has this fault
abbrev pub Stops : {F : Type 0} → Profile F → List ℕ → Unpacked F → Type 0
Stops P left u = ((u.fault ≡ None) × (u.kept ≡ left) × (unit_at P u.to left ≡ Ok None))
    ⊎ ((code : ℕ) × (u.fault ≡ Some code) × (u.kept ≡ []) × (unit_at P u.to left ≡ Err code))

-- bytes are the text of the units that are found, and of what is none
abbrev pub UnpackingIsExact : {F : Type 0} → Profile F → Type 0
UnpackingIsExact P = (z : Option (List ℕ)) → IsFrom z → (bytes : List ℕ) → IsBytes bytes →
    (let u = unpack P z bytes in AreUnits P z u.events × (u.to ≡ come_through z u.events)
    × (left : List ℕ) × (bytes ≡ units_text P z u.events ++ left) × Stops P left u)

-- a message whose ranges climb means its frames, whatever follows
abbrev pub MessagesMeanFrames : {F : Type 0} → Profile F → Type 0
MessagesMeanFrames {F} P = (M : Message F) (rest : List ℕ) → IsMessage P M → Climbs (Some []) M →
    IsBytes (compact_message P M ++ rest) →
    frames_of P (Some []) (compact_message P M ++ rest) ≡ message_text P M ++ frames_of P (Some []) rest

-- ---- pieces

abbrev pub with_units : {F : Type 0} → List (Event F) → Unpacked F → Unpacked F
with_units [] u = u
with_units (e ∷ es) u = with_unit e (with_units es u)

-- what is kept of bytes and more bytes mean the rest of what the whole means; where a fault was found, that is all
abbrev pub PiecesJoin : {F : Type 0} → Profile F → Type 0
PiecesJoin P = (z : Option (List ℕ)) → IsFrom z → (bytes more : List ℕ) → IsBytes bytes → IsBytes more →
    (let u = unpack P z bytes in
    (u.fault ≡ None → unpack P z (bytes ++ more) ≡ with_units u.events (unpack P u.to (u.kept ++ more)))
    × (u.fault ≡ None →
    frames_of P z (bytes ++ more) ≡ flat_map (event_frame P) u.events ++ frames_of P u.to (u.kept ++ more))
    × ((code : ℕ) → u.fault ≡ Some code → unpack P z (bytes ++ more) ≡ u))

-- what is kept of a unit that has not all come is short
abbrev pub KeptIsShort : {F : Type 0} → Profile F → Type 0
KeptIsShort P = (z : Option (List ℕ)) (bytes : List ℕ) →
    (unit_at P z bytes ≡ Ok None → length bytes < max_field + 138)
    × (IsFrom z → IsBytes bytes → length (unpack P z bytes).kept < max_field + 138)

-- the same for a reader of pieces: what a piece adds to the frames, and where it then stands
abbrev pub PiecesAdd : {F : Type 0} → Profile F → Type 0
PiecesAdd P = (z : Option (List ℕ)) → IsFrom z → (bytes more : List ℕ) → IsBytes bytes → IsBytes more →
    (let u = unpack P z bytes in let next = unpack P u.to (u.kept ++ more) in let all = unpack P z (bytes ++ more) in
    (u.fault ≡ None → (frames_of P z (bytes ++ more)
    ≡ frames_of P z bytes ++ drop (length (begun_text u.kept)) (frames_of P u.to (u.kept ++ more)))
    × (all.to ≡ next.to) × (all.kept ≡ next.kept) × (all.fault ≡ next.fault))
    × ((code : ℕ) → u.fault ≡ Some code → frames_of P z (bytes ++ more) ≡ frames_of P z bytes))

abbrev pub Begins : List ℕ → List ℕ → Type 0
Begins front whole = (rest : List ℕ) × (whole ≡ front ++ rest)

-- they are bytes
abbrev pub FramesAreBytes : {F : Type 0} → Profile F → Type 0
FramesAreBytes P = (z : Option (List ℕ)) → IsFrom z → (bytes : List ℕ) → IsBytes bytes → IsBytes (frames_of P z bytes)

-- what a beginning means is a beginning
abbrev pub FramesBegin : {F : Type 0} → Profile F → Type 0
FramesBegin P = (z : Option (List ℕ)) → IsFrom z → (bytes more : List ℕ) → IsBytes bytes → IsBytes more →
    Begins (frames_of P z bytes) (frames_of P z (bytes ++ more))

-- so it is of a stream with its hello
abbrev pub StreamsBegin : {F : Type 0} → Profile F → Type 0
StreamsBegin P = (bytes more : List ℕ) → IsBytes bytes → IsBytes more →
    Begins (stream_of P bytes) (stream_of P (bytes ++ more))

-- ---- a session that reads the frames

-- it refuses the frames of a fault with that number, whatever follows
abbrev pub FaultsKeepNumbers : {F : Type 0} → Profile F → Type 0
FaultsKeepNumbers P = (z : Option (List ℕ)) (bytes : List ℕ) (code : ℕ) → unit_at P z bytes ≡ Err code →
    (parts : ℕ) (more : List ℕ) → event_at P Stream parts (faulty_text code ++ more) ≡ Err code

-- what is fed of the frames of units, of what is kept after them and of a fault that was found
abbrev pub fed_units : {F : Type 0} → ℕ → List (Event F) → Option ℕ → List ℕ → Fed F
fed_units parts [] (Some code) kept = stays (Faulted code) []
fed_units parts [] None kept = stays (In_message parts) (begun_text kept)
fed_units parts (Came p ∷ es) fault kept =
    if nat_lt parts max_parts then with_event (Came p) (fed_units (parts + 1) es fault kept)
    else stays (Faulted too_many_parts) []
fed_units parts (Ended ∷ es) fault kept = with_event Ended (fed_units 0 es fault kept)
fed_units parts (Failed code ∷ es) fault kept = with_event (Failed code) (stays Meaning_over [])

abbrev pub FramesAreHeard : {F : Type 0} → Profile F → Type 0
FramesAreHeard P = (z : Option (List ℕ)) → IsFrom z → (parts : ℕ) (bytes : List ℕ) → IsBytes bytes →
    (let u = unpack P z bytes in
    feed P (In_message parts) (frames_of P z bytes) ≡ fed_units parts u.events u.fault u.kept)

abbrev pub StreamsAreHeard : {F : Type 0} → Profile F → Type 0
StreamsAreHeard P = (bytes : List ℕ) → IsBytes bytes →
    (let u = unpack P (Some []) bytes in
    feed P Before_hello (stream_of P (P.hello ++ bytes)) ≡ fed_units 0 u.events u.fault u.kept)

-- ---- frames that are written

-- the event has a frame
abbrev pub HasFrame : {F : Type 0} → Profile F → Event F → Type 0
HasFrame P e = HasEvent P Stream e × (length (event_text P e) ≤ max_body)

-- the frames of events are packed as their units, whatever follows
abbrev pub PackingIsExact : {F : Type 0} → Profile F → Type 0
PackingIsExact {F} P = (z : Option (List ℕ)) (es : List (Event F)) (rest : List ℕ) → AllByRecursion (HasFrame P) es →
    pack P z (flat_map (event_frame P) es ++ rest) ≡ with_text (units_text P z es) (pack P (come_through z es) rest)

abbrev pub MessagesArePacked : {F : Type 0} → Profile F → Type 0
MessagesArePacked {F} P = (M : Message F) (rest : List ℕ) → IsMessage P M →
    pack P (Some []) (message_text P M ++ rest) ≡ with_text (compact_message P M) (pack P (Some []) rest)

-- messages whose ranges climb mean what was packed
abbrev pub StreamsComeBack : {F : Type 0} → Profile F → Type 0
StreamsComeBack {F} P = (Ms : List (Message F)) → AllByRecursion (IsMessage P) Ms →
    AllByRecursion (Climbs (Some [])) Ms → IsBytes (flat_map (compact_message P) Ms) →
    ((pack P (Some []) (flat_map (message_text P) Ms)).text ≡ flat_map (compact_message P) Ms)
    × (frames_of P (Some []) (flat_map (compact_message P) Ms) ≡ flat_map (message_text P) Ms)

-- frames may come in pieces: what is kept of a piece and the next one are packed as the rest
abbrev pub PackingJoins : {F : Type 0} → Profile F → Type 0
PackingJoins P = (z : Option (List ℕ)) (frames more : List ℕ) → IsBytes frames →
    (let p = pack P z frames in pack P z (frames ++ more) ≡ with_text p.text (pack P p.to (p.kept ++ more)))

-- packing what bytes mean gives them back, up to the last whole unit
abbrev pub PackingUndoes : {F : Type 0} → Profile F → Type 0
PackingUndoes P = (z : Option (List ℕ)) → IsFrom z → (bytes : List ℕ) → IsBytes bytes →
    (let u = unpack P z bytes in pack P z (frames_of P z bytes)
    ≡ record { text = units_text P z u.events; to = u.to; kept = after_units u.fault u.kept })

-- so bytes that mean the same frames are the same up to there
abbrev pub SameFramesSameBytes : {F : Type 0} → Profile F → Type 0
SameFramesSameBytes P = (z : Option (List ℕ)) → IsFrom z → (a b : List ℕ) → IsBytes a → IsBytes b →
    frames_of P z a ≡ frames_of P z b → units_text P z (unpack P z a).events ≡ units_text P z (unpack P z b).events

-- ---- one message and nothing else

-- it is read back
abbrev pub MessagesComeBack : {F : Type 0} → Profile F → Type 0
MessagesComeBack {F} P = (M : Message F) → IsMessage P M → Climbs (Some []) M → IsBytes (compact_message P M) →
    message_in P (frames_of P (Some []) (compact_message P M)) ≡ Ok M

-- and what is read as a message is its one spelling
abbrev pub MessagesHaveOneSpelling : {F : Type 0} → Profile F → Type 0
MessagesHaveOneSpelling {F} P = (bytes : List ℕ) → IsBytes bytes → (M : Message F) →
    message_in P (frames_of P (Some []) bytes) ≡ Ok M →
    IsMessage P M × Climbs (Some []) M × (bytes ≡ compact_message P M)

-- ---- the messages of a session climb

-- a first message does
abbrev pub OpeningsClimb : (F : Type 0) → Type 0
OpeningsClimb F = (cut : Bool) (M : Message F) → IsOpening cut M → Climbs (Some []) M

-- and a placed message, where what was sent opens ranges that do not overlap
abbrev pub PlacedClimb : (F : Type 0) → Type 0
PlacedClimb F = (sent M : Message F) → Apart (open_ranges sent) → Placed sent M → Climbs (Some []) M

-- so does a reply to such a message
abbrev pub RepliesClimb : {F : Type 0} → Summary F → Type 0
RepliesClimb {F} S =
    (P : Peer) (f : List ℕ) (M : Message F) → Ready P f → Apart (open_ranges M) → Climbs (Some []) (reply S P M)

-- and each message of a talk
abbrev pub TalksClimb : {F : Type 0} → Summary F → Type 0
TalksClimb S = (I R : Peer) (f g : List ℕ) (k : ℕ) → Ready I f → Ready R g →
    AllByRecursion (Climbs (Some [])) (talk S I R k)
