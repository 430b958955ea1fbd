-- What a feed holds, call after call.
use Rattle.std.proofs.Common.{◌≡◌, ℕ, ◌+◌, ◌<◌, Result, Ok, Err, List, [], ◌∷◌, ◌++◌, length, sym, ap, subst, ◌∙◌}
use Rattle.std.proofs.lemmas.List.{append-nil}
use Rattle.definitions.specs.Items.{IsBytes}
use Rattle.definitions.specs.Wire.{Profile, max_body, Event}
use Rattle.definitions.specs.Streams.{Standing, Before_hello, Fed, feed, stays, Means}
use Rattle.laws.specs.Codec.{FeedIsExact}
use Rattle.laws.specs.Parts.{FeedsJoin, FeedsRest, joined}
use Rattle.wire_core.specs.Events.{event_values}
use Rattle.wire_core.specs.Standings.{put_after}
use Rattle.wire_core.specs.Feeds.{StreamState, fed_into, events_since, Continues, UnlessMemory}
use Rattle.wire_core.specs.declared.event.Event as declared
use Rattle.wire_core.specs.declared.fault.DecodeError.{DecodeError}
use Rattle.wire_core.specs.declared.fault.DecodeError.TheVariants as errors

pub held_joined : {F : Type 0} (P : Profile F) → FeedsJoin P → (old : StreamState) (piece : List ℕ) → IsBytes piece →
    (before after : List (Event F)) (new : StreamState) →
    put_after before (feed P old.standing (old.kept ++ piece)) ≡ fed_into after new →
    Continues P old piece new
held_joined {F} P join old piece right before after new fed bytes events fits holds =
    let b : Fed F = feed P old.standing (old.kept ++ piece) in
    let to = ap (λ (f : Fed F). f.to) fed in
    let kept = ap (λ (f : Fed F). f.kept) fed in
    join Before_hello bytes piece fits right
    ∙ ap (λ (a : Fed F). joined a (feed P a.to (a.kept ++ piece))) holds
    ∙ (λ i. record { events = events ++ b.events; to = to i; kept = kept i })

-- bytes that are only kept
pub kept_alone : {F : Type 0} (P : Profile F) (events : List (Event F)) (old : StreamState) (piece kept : List ℕ) →
    kept ≡ old.kept ++ piece → feed P old.standing kept ≡ stays old.standing kept →
    put_after events (feed P old.standing (old.kept ++ piece))
    ≡ fed_into events (record { standing = old.standing; kept = kept })
kept_alone P events old piece kept is waits =
    ap (λ (bytes : List ℕ). put_after events (feed P old.standing bytes)) (sym is)
    ∙ ap (put_after events) waits
    ∙ (λ i. record { events = append-nil events i; to = old.standing; kept = kept })

pub kept_few : {F : Type 0} (P : Profile F) → FeedsRest P → (standing : Standing) (kept : List ℕ) → IsBytes kept →
    feed P standing kept ≡ stays standing kept → length kept < 4 + max_body
kept_few {F} P rests standing kept fits read =
    let r = rests standing kept fits in
    subst (λ (t : List ℕ). length t < 4 + max_body) (ap (λ (f : Fed F). f.kept) read) r.2

pub unless_so : {X : Type 0} (r : Result X DecodeError) (A B : Type 0) → (A → B) → UnlessMemory r A → UnlessMemory r B
unless_so (Ok x) A B goes a = goes a
unless_so (Err (errors.Fault f)) A B goes a = goes a
unless_so (Err errors.Memory) A B goes a = tt

-- ---- what is held means these events

events_after : {F : Type 0} (old new : List (declared.Event F)) (events : List (Event F)) →
    event_values old ++ events ≡ event_values new → events ≡ events_since old new
events_after [] new events h = h
events_after (x ∷ old) [] events h = absurd cc
events_after (x ∷ old) (y ∷ new) events h =
    let rest : event_values old ++ events ≡ event_values new = cc in
    events_after old new events rest

pub held_means : {F : Type 0} (P : Profile F) → FeedIsExact P → (from : Standing) (bytes : List ℕ) → IsBytes bytes →
    (old new : List (declared.Event F)) (state : StreamState) →
    put_after (event_values old) (feed P from bytes) ≡ fed_into (event_values new) state →
    Means P from (events_since old new) bytes state.standing state.kept
held_means {F} P exact from bytes fits old new state fed =
    let a : Fed F = feed P from bytes in
    let events = events_after old new a.events (ap (λ (f : Fed F). f.events) fed) in
    let to = ap (λ (f : Fed F). f.to) fed in
    let kept = ap (λ (f : Fed F). f.kept) fed in
    let same : a ≡ fed_into (events_since old new) state =
    λ i. record { events = events i; to = to i; kept = kept i } in
    subst (λ (f : Fed F). Means P from f.events bytes f.to f.kept) same
    ((exact from bytes).0 fits)
