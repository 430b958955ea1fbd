-- How a reader fares, step by step.
--
-- The inbox counts each read before it is made, and the reader counts it too, up to its greatest number. So while the
-- two keep in step, an inbox that has counted 2^32 reads tells that the reader was read so often. A stop at an event
-- is no break of the reader: only a read that fails, or the count, makes one.
use Rattle.std.proofs.Common.{◌≡◌, ℕ, ◌+◌, ◌<◌, ◌≤◌, ◌^◌, Bool, false, List, length, drop, Option, Some, None}
use Rattle.std.proofs.Common.{Result, Ok, Err, IfErr, IfSome, inl, inr, sym, ap, subst, arith}
use Rattle.std.proofs.lemmas.List.{length-drop}
use Rattle.definitions.specs.Fingerprints.{Summary}
use Rattle.definitions.specs.Messages.{Message}
use Rattle.definitions.specs.Wire.{Profile, Event}
use Rattle.ends_core.specs.EndStates.{EndState}
use Rattle.io_core.specs.Watch.{one_more}
use Rattle.wire_core.specs.Feeds.{StreamState}
use Rattle.wire_core.specs.Nexts.{TakesNext}
use Rattle.wire_core.specs.declared.event.Event as declared
use Rattle.peer_threads.specs.declared.stop.Stop.{Stop}
use Rattle.peer_threads.specs.declared.stop.Stop.TheVariants as stops
use Rattle.peer_threads.specs.Stops.{outcome_of}
use Rattle.peer_threads.specs.Senders.{SenderState}
use Rattle.peer_threads.specs.Underway.{Unsaid, Refuses, StopsBy}
use Rattle.peer_threads.specs.Listening.{WasReadOut, SideFares, HasFared, InStep, IsNoBreak, StopFares, Fares}

pub steps-on : (start reads count : ℕ) → InStep start reads count → InStep start (one_more reads) (count + 1)
steps-on start reads count step = omega (arith, step)

pub starts-out : (start : ℕ) → InStep start start 0
starts-out start = omega arith

pub read-out : (start reads count : ℕ) → 2 ^ 32 ≤ count → InStep start reads count → WasReadOut start reads
read-out start reads count all step = omega (arith, all, step)

-- no break
pub unbroken : (start reads : ℕ) (failed : Bool) (stop : Stop) → IsNoBreak stop → failed ≡ false →
    StopFares start failed reads stop
unbroken start reads failed (stops.Refused code) quiet fine = fine
unbroken start reads failed (stops.PeerRefused code) quiet fine = fine
unbroken start reads failed stops.Memory quiet fine = fine
unbroken start reads failed (stops.Io side) quiet fine = absurd quiet

pub fares-unbroken : {X : Type 0} (start reads : ℕ) (failed : Bool) (r : Result X Stop) → IfErr r IsNoBreak →
    failed ≡ false → Fares start failed reads r
fares-unbroken start reads failed (Ok x) quiet fine = fine
fares-unbroken start reads failed (Err stop) quiet fine = unbroken start reads failed stop quiet fine

pub fares-by : {X : Type 0} (start reads : ℕ) (failed : Bool) (r : Result X Stop) (stop : Stop) → r ≡ Err stop →
    StopFares start failed reads stop → Fares start failed reads r
fares-by start reads failed r stop is fared = subst (λ x. Fares start failed reads x) (sym is) fared

-- an event that stops the session
pub refuses-fares : {F : Type 0} (S : Summary F) (h : EndState F) (e : Event F) (stop : Stop) (start reads : ℕ)
    (failed : Bool) → Refuses S h e stop → failed ≡ false → StopFares start failed reads stop
refuses-fares S h e (stops.Refused code) start reads failed x fine = fine
refuses-fares S h e (stops.PeerRefused code) start reads failed x fine = fine
refuses-fares S h e stops.Memory start reads failed x fine = fine
refuses-fares S h e (stops.Io side) start reads failed x fine = absurd x

pub unsaid-fares : {F : Type 0} (W : Profile F) (o p : SenderState) (held holds : Option (List ℕ)) (broken : Bool)
    (Ms : List (Message F)) (stop : Stop) (start reads : ℕ) (failed : Bool) →
    Unsaid W o p held holds broken Ms stop → failed ≡ false → StopFares start failed reads stop
unsaid-fares W o p held holds broken Ms (stops.Refused code) start reads failed x fine = fine
unsaid-fares W o p held holds broken Ms (stops.PeerRefused code) start reads failed x fine = fine
unsaid-fares W o p held holds broken Ms stops.Memory start reads failed x fine = fine
unsaid-fares W o p held holds broken Ms (stops.Io side) start reads failed x fine =
    subst (SideFares start failed reads) (sym x.0) fine

pub event-fares : {F : Type 0} (S : Summary F) (W : Profile F) (h : EndState F) (e : Event F) (o p : SenderState)
    (held holds : Option (List ℕ)) (broken : Bool) (stop : Stop) (start reads : ℕ) (failed : Bool) →
    StopsBy S W h e o p held holds broken stop → failed ≡ false → StopFares start failed reads stop
event-fares S W h e o p held holds broken stop start reads failed (inl x) fine =
    refuses-fares S h e stop start reads failed x.0 fine
event-fares S W h e o p held holds broken stop start reads failed (inr x) fine =
    unsaid-fares W o p held holds broken _ stop start reads failed x fine

-- the outcome of a stop
pub outcome-fares : (start reads sent : ℕ) (failed : Bool) (stop : Stop) → StopFares start failed reads stop →
    HasFared start failed reads (outcome_of sent stop)
outcome-fares start reads sent failed (stops.Refused code) fared = fared
outcome-fares start reads sent failed (stops.PeerRefused code) fared = fared
outcome-fares start reads sent failed stops.Memory fared = fared
outcome-fares start reads sent failed (stops.Io side) fared = fared

-- an event takes a byte of those that wait
pub event-takes : {F : Type 0} (W : Profile F) (old new : StreamState) (rest now : List ℕ) (taken : ℕ)
    (made : Option (declared.Event F)) → TakesNext W old rest (Ok (taken, made)) new → now ≡ drop taken rest →
    IfSome made (λ e. length now < length rest)
event-takes W old new rest now taken None fed is = tt
event-takes W old new rest now taken (Some e) fed is =
    omega (arith, fed.0, fed.1, ap (λ (l : List ℕ). length l) is, length-drop taken rest)
