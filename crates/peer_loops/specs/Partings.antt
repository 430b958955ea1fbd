-- What comes of a peer that is let go.
--     broken_by parting owes sent        the outcome of a session that did not come to its end
--     broken_at parting phase            the same of a peer: what it sent is what was written whole
--     TellsOf state parting phase v o    the outcome of a session that stands so
--     Tells parting phase version o      a session that refused, or whose peer did, says so, whatever came after it;
--                                        one that ended and was said whole says what it has learned, and of which
--                                        version; any other is broken; and each says as sent what was written whole
--     may_be_told phase                  whether the peer may be told of a fault: its session is not over, and no text
--                                        of it is made and not written
--     told_number parting phase          the number of which it is told
--     PutsInOf id says own o v w     what was learned is put into the log, where the session is in the table
--     shown_in which o                   the outcome of which the board is told: over the directory no items are found
use Rattle.std.specs.Prelude.{◌≡◌, ℕ, Bool, true, false, Option, Some, None, if◌then◌else◌}
use Rattle.session_table.specs.declared.session.SessionId.{SessionId}
use Rattle.definitions.specs.Refusals.{no_memory}
use Rattle.definitions.specs.Talks.{Knowledge, nothing}
use Rattle.shard_core.specs.declared.shard.OneShard.{OneShard}
use Rattle.shard_core.specs.declared.selector.Which.{Which}
use Rattle.shard_core.specs.declared.selector.Which.TheVariants.{Shard, Directory}
use Rattle.session_table.specs.declared.outcome.Direction.TheVariants as directions
use Rattle.session_table.specs.declared.outcome.Outcome.{Outcome}
use Rattle.session_table.specs.declared.outcome.Outcome.TheVariants as outcomes
use Rattle.version_lock.specs.declared.view.View.{View}
use Rattle.peer_threads.specs.Workers.{PutsInBy, Says}
use Rattle.session_core.specs.declared.state.State.{State}
use Rattle.session_core.specs.declared.state.State.TheVariants as states
use Rattle.session_core.specs.declared.fault.LinkFault.TheVariants as faults
use Rattle.hub_core.specs.Peers.{Learns, owes, state_in, written_in}
use Rattle.hub_core.specs.declared.phase.Phase.{Phase}
use Rattle.peer_loops.specs.declared.ending.Parting.{Parting}
use Rattle.peer_loops.specs.declared.ending.Parting.TheVariants as partings

-- the first bit: it waited for a write
abbrev pub broken_by : Parting → Bool → ℕ → Outcome
broken_by (partings.Failed faults.Read) b sent = outcomes.Io directions.Read sent
broken_by (partings.Failed faults.Write) b sent = outcomes.Io directions.Write sent
broken_by (partings.Failed faults.Memory) b sent = outcomes.Memory sent
broken_by (partings.Refuses code) b sent = outcomes.Refused code sent
broken_by partings.Over b sent = outcomes.Io (if b then directions.Write else directions.Read) sent
broken_by partings.TimeIsOver b sent = outcomes.Io (if b then directions.Write else directions.Read) sent

abbrev pub broken_at : Parting → Phase → Outcome
broken_at parting phase = broken_by parting (owes phase) (written_in phase)

abbrev pub TellsEnded : Parting → Phase → ℕ → Outcome → Type 0
TellsEnded partings.Over phase version o =
    (k : Knowledge) × Learns phase k × (o ≡ outcomes.Ended k (written_in phase) version)
TellsEnded (partings.Failed f) phase version o = o ≡ broken_at (partings.Failed f) phase
TellsEnded partings.TimeIsOver phase version o = o ≡ broken_at partings.TimeIsOver phase
TellsEnded (partings.Refuses code) phase version o = o ≡ broken_at (partings.Refuses code) phase

abbrev pub TellsOf : Option State → Parting → Phase → ℕ → Outcome → Type 0
TellsOf (Some (states.Refused code)) parting phase version o = o ≡ outcomes.Refused code (written_in phase)
TellsOf (Some (states.PeerRefused code)) parting phase version o = o ≡ outcomes.PeerRefused code (written_in phase)
TellsOf (Some states.Ended) parting phase version o = TellsEnded parting phase version o
TellsOf (Some states.Open) parting phase version o = o ≡ broken_at parting phase
TellsOf None parting phase version o = o ≡ broken_at parting phase

abbrev pub Tells : Parting → Phase → ℕ → Outcome → Type 0
Tells parting phase version o = TellsOf (state_in phase) parting phase version o

abbrev pub goes_on_in : Option State → Bool
goes_on_in None = true
goes_on_in (Some states.Open) = true
goes_on_in (Some states.Ended) = false
goes_on_in (Some (states.Refused code)) = false
goes_on_in (Some (states.PeerRefused code)) = false

abbrev pub may_be_told : Phase → Bool
may_be_told phase = if owes phase then false else goes_on_in (state_in phase)

abbrev pub told_number : Parting → Phase → Option ℕ
told_number partings.Over phase = None
told_number (partings.Failed faults.Read) phase = None
told_number (partings.Failed faults.Write) phase = None
told_number (partings.Failed faults.Memory) phase = if may_be_told phase then Some no_memory else None
told_number partings.TimeIsOver phase = None
told_number (partings.Refuses code) phase = Some code

abbrev pub PutsInOf : Option SessionId → Says → Option OneShard → Outcome → View → View → Type 0
PutsInOf None gate own o v w = w ≡ v
PutsInOf (Some id) gate own o v w = PutsInBy gate id.serial own o v w

abbrev pub found_none : Outcome → Outcome
found_none (outcomes.Ended learned sent version) = outcomes.Ended nothing sent version
found_none (outcomes.Refused code sent) = outcomes.Refused code sent
found_none (outcomes.PeerRefused code sent) = outcomes.PeerRefused code sent
found_none (outcomes.Io side sent) = outcomes.Io side sent
found_none (outcomes.Memory sent) = outcomes.Memory sent

abbrev pub shown_in : Option Which → Outcome → Outcome
shown_in None o = o
shown_in (Some (Shard number)) o = o
shown_in (Some Directory) o = found_none o
