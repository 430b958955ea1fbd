-- What it means that a reading is exact.
use Rattle.std.specs.Prelude.{◌≡◌, ℕ, List, [], ◌++◌, Result, Ok, Err}
use Rattle.definitions.specs.Items.{IsBytes}
use Rattle.definitions.specs.Messages.{Message}
use Rattle.definitions.specs.Wire.{Profile, Spells, Event, Input, Says}
use Rattle.definitions.specs.Faults.{FaultyBody, FaultyFrame, FaultyMessage, Stands}
use Rattle.definitions.specs.Reading.{event_in, event_at}
use Rattle.definitions.specs.Streams.{message_in, Standing, Fed, feed, Means}

-- r is Ok of what is good and Err of what is bad; and of nothing else, if these are bytes
abbrev pub Exactly : {B : Type 0} → List ℕ → Result B ℕ → (B → Type 0) → (ℕ → Type 0) → Type 0
Exactly {B} bytes r Good Bad = ((y : B) → Good y → r ≡ Ok y) × ((e : ℕ) → Bad e → r ≡ Err e)
    × (IsBytes bytes → ((y : B) → r ≡ Ok y → Good y) × ((e : ℕ) → r ≡ Err e → Bad e))

abbrev pub FieldIsExact : {A : Type 0} → (A → List ℕ) → (A → Type 0) → (List ℕ → ℕ → Type 0) →
    (List ℕ → Result (A × List ℕ) ℕ) → Type 0
FieldIsExact text IsRight No read =
    (bytes : List ℕ) → Exactly bytes (read bytes) (λ p. IsRight p.0 × (bytes ≡ text p.0 ++ p.1)) (No bytes)

abbrev pub BodyIsExact : {F : Type 0} → Profile F → Type 0
BodyIsExact P = (input : Input) (bytes : List ℕ) →
    Exactly bytes (event_in P input bytes) (Says P input bytes) (FaultyBody P input bytes)

abbrev pub NextIsExact : {F : Type 0} → Profile F → Type 0
NextIsExact P = (input : Input) (parts : ℕ) (bytes : List ℕ) →
    Exactly bytes (event_at P input parts bytes) (Stands P input parts bytes) (FaultyFrame P input parts bytes)

abbrev pub MessageIsExact : {F : Type 0} → Profile F → Type 0
MessageIsExact P = (bytes : List ℕ) → Exactly bytes (message_in P bytes) (λ M. Spells P M bytes) (FaultyMessage P bytes)

-- a spelling of a message begins no other
abbrev pub SpellingsStandAlone : {F : Type 0} → Profile F → Type 0
SpellingsStandAlone {F} P =
    (M N : Message F) (bytes more : List ℕ) → Spells P M bytes → Spells P N (bytes ++ more) → (more ≡ []) × (M ≡ N)

abbrev pub IsFed : {F : Type 0} → Fed F → List (Event F) → Standing → List ℕ → Type 0
IsFed fed events to kept = (fed.events ≡ events) × (fed.to ≡ to) × (fed.kept ≡ kept)

-- what a stream is fed is what its bytes mean, and nothing else is
abbrev pub FeedIsExact : {F : Type 0} → Profile F → Type 0
FeedIsExact {F} P = (from : Standing) (bytes : List ℕ) →
    (IsBytes bytes → (let fed = feed P from bytes in Means P from fed.events bytes fed.to fed.kept))
    × ((events : List (Event F)) (to : Standing) (kept : List ℕ) → Means P from events bytes to kept →
    IsFed (feed P from bytes) events to kept)
