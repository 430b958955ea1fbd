-- Pieces that several texts have.
--     seconds_text millis      thousandths of a second as seconds to three places
--     address_text address        an address, or `-`
--     known_text n             a number, or `-`
--     profile_text p           a wire profile
--     spoken_text p            a wire profile, or `-`
--     which_text w             the shard, or the directory, that a session spoke of, if it did of one
--     bounds_text X            the bounds of a range in hex: those that it has
--     has_bound X              whether it has one
--     session_text v           the session of a visit: its serial, or `-`, and the shard and the bounds that it spoke
--                              of
--     reason_text between e    how a visit ended, as a word, and after `between` the number of a refusal
--     named_ending_text e      how a visit ended, for a person: the number and the name of a refusal
--     turn_text t              how a turn with a partner ended, as words
--     fault_text t             how the last one was that did not end, or `-`
--     cell_text c              a value as a page has it
use Rattle.std.specs.Prelude.{ℕ, ◌/◌, ◌%◌, List, [], ◌∷◌, ◌++◌, codes, Option, Some, None}
use Rattle.std.specs.Prelude.{Bool, true, false, ◌||◌}
use Rattle.std.specs.Fmt.{decimal}
use Rattle.std.specs.Net.Text.{socket_text}
use Rattle.std.specs.declared.net.socket_addr.SocketAddr.{SocketAddr}
use Rattle.hex.specs.Hex.{encode_lower}
use Rattle.definitions.specs.Items.{Range}
use Rattle.shard_core.specs.declared.selector.Which.{Which}
use Rattle.shard_core.specs.declared.selector.Which.TheVariants.{Shard, Directory}
use Rattle.session_table.specs.Names.{session_refusal_name}
use Rattle.session_table.specs.declared.outcome.Direction.TheVariants.{Read, Write}
use Rattle.watch_core.specs.declared.endings.Ending.{Ending}
use Rattle.watch_core.specs.declared.endings.Ending.TheVariants as endings
use Rattle.watch_core.specs.declared.pieces.Cell.{Cell}
use Rattle.watch_core.specs.declared.pieces.Cell.TheVariants as cells
use Rattle.watch_core.specs.declared.profile.SpokenProfile.{SpokenProfile}
use Rattle.watch_core.specs.declared.profile.SpokenProfile.TheVariants as profiles
use Rattle.watch_core.specs.declared.turn.Turn.{Turn}
use Rattle.watch_core.specs.declared.turn.Turn.TheVariants as turns
use Rattle.watch_core.specs.declared.visit.Visit.{Visit}

abbrev pub seconds_text : ℕ → List ℕ
seconds_text millis = decimal (millis / 1000) ++ (codes "." ++ (decimal (millis / 100 % 10)
    ++ (decimal (millis / 10 % 10) ++ decimal (millis % 10))))

abbrev pub address_text : Option SocketAddr → List ℕ
address_text None = codes "-"
address_text (Some address) = socket_text address

abbrev pub known_text : Option ℕ → List ℕ
known_text None = codes "-"
known_text (Some n) = decimal n

abbrev pub profile_text : SpokenProfile → List ℕ
profile_text profiles.One = codes "1"
profile_text profiles.Two = codes "2"
profile_text profiles.Compact = codes "compact"

abbrev pub spoken_text : Option SpokenProfile → List ℕ
spoken_text None = codes "-"
spoken_text (Some profile) = profile_text profile

abbrev pub which_text : Option Which → List ℕ
which_text None = []
which_text (Some (Shard shard)) = codes " shard=" ++ decimal shard
which_text (Some Directory) = codes " shard=directory"

-- the start and the end are no bounds
abbrev pub lower_text : List ℕ → List ℕ
lower_text [] = []
lower_text (byte ∷ bytes) = codes " from=" ++ encode_lower (byte ∷ bytes)

abbrev pub upper_text : Option (List ℕ) → List ℕ
upper_text None = []
upper_text (Some bytes) = codes " to=" ++ encode_lower bytes

abbrev pub bounds_text : Range → List ℕ
bounds_text X = lower_text X.lower ++ upper_text X.upper

abbrev pub is_after_start : List ℕ → Bool
is_after_start [] = false
is_after_start (byte ∷ bytes) = true

abbrev pub is_before_end : Option (List ℕ) → Bool
is_before_end None = false
is_before_end (Some bytes) = true

abbrev pub has_bound : Range → Bool
has_bound X = is_after_start X.lower || is_before_end X.upper

abbrev pub session_text : Visit → List ℕ
session_text v = known_text v.serial ++ (which_text v.which ++ bounds_text v.range)

abbrev pub reason_text : List ℕ → Ending → List ℕ
reason_text between endings.Ended = codes "ended"
reason_text between (endings.Refused code) = codes "refused" ++ (between ++ decimal code)
reason_text between (endings.PeerRefused code) = codes "peer_refused" ++ (between ++ decimal code)
reason_text between (endings.Io Read) = codes "io_read"
reason_text between (endings.Io Write) = codes "io_write"
reason_text between endings.Memory = codes "memory"

abbrev pub named_ending_text : Ending → List ℕ
named_ending_text endings.Ended = codes "ended"
named_ending_text (endings.Refused code) = decimal code ++ (codes " " ++ session_refusal_name code)
named_ending_text (endings.PeerRefused code) =
    codes "peer refused " ++ (decimal code ++ (codes " " ++ session_refusal_name code))
named_ending_text (endings.Io Read) = codes "io read"
named_ending_text (endings.Io Write) = codes "io write"
named_ending_text endings.Memory = codes "memory"

abbrev pub turn_text : Turn → List ℕ
turn_text turns.Ended = codes "ended"
turn_text turns.NotReached = codes "not reached"
turn_text turns.CutOff = codes "cut off"
turn_text (turns.Refuses code) = codes "refused " ++ (decimal code ++ (codes " " ++ session_refusal_name code))
turn_text (turns.IsRefused code) = codes "peer refused " ++ (decimal code ++ (codes " " ++ session_refusal_name code))

abbrev pub fault_text : Option Turn → List ℕ
fault_text None = codes "-"
fault_text (Some t) = turn_text t

abbrev pub cell_text : Cell → List ℕ
cell_text (cells.Text text) = text.now
cell_text (cells.Number n) = decimal n
cell_text (cells.Known n) = known_text n
cell_text (cells.Profile profile) = spoken_text profile
cell_text (cells.Address address) = address_text address
cell_text (cells.Ending ending) = named_ending_text ending
cell_text (cells.Fault t) = fault_text t
cell_text (cells.Seconds millis) = seconds_text millis
