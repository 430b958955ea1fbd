-- The laws of the compact spelling, each from the lemmas before it.
-- A reading in the sense of CompactBounds says three things of units: they come back, they have one spelling, and with
-- more bytes they stay what they are. What bytes mean, in pieces too, is CompactFrames; what a session hears of them
-- CompactHeard; what is written CompactPacked, and that it undoes what is read CompactUndone.
-- docs/LAWS.md: The compact spelling.
use Rattle.std.proofs.Common.{ℕ, List, ◌++◌, refl, ◌∙◌, ap}
use Rattle.definitions.proofs.Words.{Profile, IsProfile}
use Rattle.definitions.specs.Compact.{unit_text}
use Rattle.definitions.specs.Packing.{Unpacked, unpack, frames_in}
use Rattle.laws.specs.Compact.{UnitsComeBack, UnitsHaveOneSpelling, UnitsStandFirm, UnpackingIsExact}
use Rattle.laws.specs.Compact.{MessagesMeanFrames, PiecesJoin, FramesBegin, StreamsBegin, FaultsKeepNumbers}
use Rattle.laws.specs.Compact.{FramesAreHeard, StreamsAreHeard, PackingIsExact, MessagesArePacked, StreamsComeBack}
use Rattle.laws.specs.Compact.{PackingUndoes, SameFramesSameBytes, FramesAreBytes, MessagesComeBack, PackingJoins}
use Rattle.laws.specs.Compact.{KeptIsShort, PiecesAdd, MessagesHaveOneSpelling}
use Rattle.laws.proofs.CompactBounds.{given_more}
use Rattle.laws.proofs.CompactUnits.{unit_reads}
use Rattle.laws.proofs.CompactFrames.{frames_added, ends_with, unpack_good, message_means, unpack_more, frames_more}
use Rattle.laws.proofs.CompactFrames.{faulty_more, frames_begin, streams_begin}
use Rattle.laws.proofs.CompactHeard.{faulty_refused, frames_heard, streams_heard}
use Rattle.laws.proofs.CompactPacked.{pack_joined, events_packed, message_packed, messages_packed, messages_mean}
use Rattle.laws.proofs.CompactShort.{unit_kept, kept_short}
use Rattle.laws.proofs.CompactUndone.{undone, same_units, frames_are_bytes, message_back, message_only}

pub units_back : {F : Type 0} (P : Profile F) → IsProfile P → UnitsComeBack P
units_back P real z low e rest unit = (unit_reads P real z low).back e (unit_text P z e) rest (unit, refl)

pub units_spelled : {F : Type 0} (P : Profile F) → IsProfile P → UnitsHaveOneSpelling P
units_spelled P real z low bytes fits e rest is =
    let o = (unit_reads P real z low).only bytes e rest fits is in
    (o.1.0, o.2 ∙ ap (λ (t : List ℕ). t ++ rest) o.1.1)

pub units_firm : {F : Type 0} (P : Profile F) → IsProfile P → UnitsStandFirm P
units_firm P real z low bytes more fits = (
  λ e rest is. given_more (unit_reads P real z low) bytes more e rest fits is,
  λ code is. (unit_reads P real z low).firm bytes more code fits is,
)

pub unpacking_exact : {F : Type 0} (P : Profile F) → IsProfile P → UnpackingIsExact P
unpacking_exact P real z low bytes fits =
    let g = unpack_good P real z bytes low fits in (g.units, g.to, g.left, g.is, g.ends)

pub messages_mean_frames : {F : Type 0} (P : Profile F) → IsProfile P → MessagesMeanFrames P
messages_mean_frames P real M rest right climbs fits = message_means P real M rest right climbs fits

pub pieces_join : {F : Type 0} (P : Profile F) → IsProfile P → PiecesJoin P
pieces_join P real z low bytes more fits fits2 = (
  λ none. unpack_more P real z bytes more low fits fits2 none,
  λ none. frames_more P real z bytes more low fits fits2 none,
  λ code is. faulty_more P real z bytes more low fits fits2 code is,
)

pub frames_begun : {F : Type 0} (P : Profile F) → IsProfile P → FramesBegin P
frames_begun P real z low bytes more fits fits2 = frames_begin P real z bytes more low fits fits2

pub streams_begun : {F : Type 0} (P : Profile F) → IsProfile P → StreamsBegin P
streams_begun P real bytes more fits fits2 = streams_begin P real bytes more fits fits2

pub faults_numbered : {F : Type 0} (P : Profile F) → IsProfile P → FaultsKeepNumbers P
faults_numbered P real z bytes code is parts more = faulty_refused P real z bytes code is parts more

pub all_frames_heard : {F : Type 0} (P : Profile F) → IsProfile P → FramesAreHeard P
all_frames_heard P real z low parts bytes fits = frames_heard P real z parts bytes low fits

pub all_streams_heard : {F : Type 0} (P : Profile F) → IsProfile P → StreamsAreHeard P
all_streams_heard P real bytes fits = streams_heard P real bytes fits

pub packing_exact : {F : Type 0} (P : Profile F) → IsProfile P → PackingIsExact P
packing_exact P real z es rest has = events_packed P real z es rest has

pub all_messages_packed : {F : Type 0} (P : Profile F) → IsProfile P → MessagesArePacked P
all_messages_packed P real M rest right = message_packed P real M rest right

pub streams_back : {F : Type 0} (P : Profile F) → IsProfile P → StreamsComeBack P
streams_back P real Ms right climbs fits =
    (messages_packed P real Ms right, messages_mean P real Ms right climbs fits)

pub packing_undoes : {F : Type 0} (P : Profile F) → IsProfile P → PackingUndoes P
packing_undoes P real z low bytes fits = undone P real z bytes low fits

pub same_frames_same_bytes : {F : Type 0} (P : Profile F) → IsProfile P → SameFramesSameBytes P
same_frames_same_bytes P real z low a b fits fits2 same = same_units P real z a b low fits fits2 same

pub all_frames_bytes : {F : Type 0} (P : Profile F) → IsProfile P → FramesAreBytes P
all_frames_bytes P real z low bytes fits = frames_are_bytes P real z bytes low fits

pub messages_back : {F : Type 0} (P : Profile F) → IsProfile P → MessagesComeBack P
messages_back P real M right climbs fits = message_back P real M right climbs fits

pub messages_spelled : {F : Type 0} (P : Profile F) → IsProfile P → MessagesHaveOneSpelling P
messages_spelled P real bytes fits M is = message_only P real bytes fits M is

pub pieces_add : {F : Type 0} (P : Profile F) → IsProfile P → PiecesAdd P
pieces_add {F} P real z low bytes more fits fits2 = (
  λ none.
      let u : Unpacked F = unpack P z bytes in
      let e = ends_with u.events (unpack P u.to (u.kept ++ more)) in
      let joined = unpack_more P real z bytes more low fits fits2 none in (
        frames_added P real z bytes more low fits fits2 none,
        ap (λ (v : Unpacked F). v.to) joined ∙ e.0,
        ap (λ (v : Unpacked F). v.kept) joined ∙ e.1,
        ap (λ (v : Unpacked F). v.fault) joined ∙ e.2,
      ),
  λ code is. ap (frames_in P) (faulty_more P real z bytes more low fits fits2 code is),
)

pub packing_joins : {F : Type 0} (P : Profile F) → IsProfile P → PackingJoins P
packing_joins P real z frames more fits = pack_joined P real z frames more fits

pub all_kept_short : {F : Type 0} (P : Profile F) → IsProfile P → KeptIsShort P
all_kept_short P real z bytes =
    (λ is. unit_kept P real z bytes is, λ low fits. kept_short P real z bytes low fits)
