-- How the reader fared while an outcome came to be.
--     most_reads                           the count of a watched reader stops here
--     WasReadOut start reads               it was read 2^32 times since the count stood at start
--     InStep start reads count             each of so many reads that were counted is among those since then
--     IsNoBreak stop                       neither the reader nor the writer failed
--     HasFared start failed reads o        the reader failed only where the outcome says so; or it was read so often
--     StopFares, Fares                     the same of a stop, and of what a call answers
--     FaresOn, StepsOn                     a call fares so, and keeps in step, after so many reads and as many counted
--     rest_of b                            what is left to be read and fed: each event makes it less
use Rattle.std.specs.Prelude.{◌≡◌, ℕ, ◌+◌, ◌-◌, ◌*◌, ◌≤◌, ◌^◌, ◌⊎◌, min, false, Bool, length, Result, Ok, Err}
use Rattle.std.specs.Prelude.{IsTrue, OnOk, ⊤}
use Rattle.session_table.specs.declared.outcome.Outcome.{Outcome}
use Rattle.session_table.specs.declared.outcome.Outcome.TheVariants as outcomes
use Rattle.session_table.specs.declared.outcome.Direction.{Direction}
use Rattle.session_table.specs.declared.outcome.Direction.TheVariants as directions
use Rattle.peer_threads.specs.declared.stop.Stop.{Stop}
use Rattle.peer_threads.specs.declared.stop.Stop.TheVariants as stops
use Rattle.peer_threads.specs.Inboxes.{InboxState}

abbrev pub most_reads : ℕ
most_reads = 2 ^ 64 - 1

abbrev pub WasReadOut : ℕ → ℕ → Type 0
WasReadOut start reads = min (start + 2 ^ 32) most_reads ≤ reads

-- where a session breaks off on the side of the reader, that has failed or was read as often as it may be; on the other
-- side it has not failed
abbrev pub SideFares : ℕ → Bool → ℕ → Direction → Type 0
SideFares start failed reads directions.Read = IsTrue failed ⊎ WasReadOut start reads
SideFares start failed reads directions.Write = failed ≡ false

abbrev pub HasFared : ℕ → Bool → ℕ → Outcome → Type 0
HasFared start failed reads (outcomes.Ended learned sent version) = failed ≡ false
HasFared start failed reads (outcomes.Refused code sent) = failed ≡ false
HasFared start failed reads (outcomes.PeerRefused code sent) = failed ≡ false
HasFared start failed reads (outcomes.Memory sent) = failed ≡ false
HasFared start failed reads (outcomes.Io side sent) = SideFares start failed reads side

-- ---- on the way

abbrev pub InStep : ℕ → ℕ → ℕ → Type 0
InStep start reads count = min (start + count) most_reads ≤ reads

-- neither the reader nor the writer failed
abbrev pub IsNoBreak : Stop → Type 0
IsNoBreak (stops.Refused code) = ⊤
IsNoBreak (stops.PeerRefused code) = ⊤
IsNoBreak stops.Memory = ⊤
IsNoBreak (stops.Io side) = ⊥

abbrev pub StopFares : ℕ → Bool → ℕ → Stop → Type 0
StopFares start failed reads (stops.Refused code) = failed ≡ false
StopFares start failed reads (stops.PeerRefused code) = failed ≡ false
StopFares start failed reads stops.Memory = failed ≡ false
StopFares start failed reads (stops.Io side) = SideFares start failed reads side

abbrev pub Fares : {X : Type 0} → ℕ → Bool → ℕ → Result X Stop → Type 0
Fares start failed reads (Ok x) = failed ≡ false
Fares start failed reads (Err stop) = StopFares start failed reads stop

-- of a call before which so many reads were made, and so many of them counted, wherever the count began
abbrev pub FaresOn : {X : Type 0} → ℕ → ℕ → Bool → ℕ → Result X Stop → Type 0
FaresOn made counted failed reads r = (start : ℕ) → InStep start made counted → Fares start failed reads r

abbrev pub StepsOn : {X : Type 0} → ℕ → ℕ → ℕ → ℕ → Result X Stop → Type 0
StepsOn made counted reads count r = (start : ℕ) → InStep start made counted → OnOk r (InStep start reads count)

abbrev pub rest_of : InboxState → ℕ
rest_of b = (2 ^ 32 - b.reads) * 65537 + length b.waiting
