-- A part is its range, and the fields after it.
use Rattle.std.proofs.Common.{◌≡◌, ℕ, ◌/◌, ◌≤◌, List, [], ◌∷◌, Bool, false, Option, Some, None, Result, Ok, Err, sym}
use Rattle.std.proofs.Common.{ap, ◌∙◌}
use Rattle.std.proofs.Common.{arith}
use Rattle.std.specs.Prelude.{nat_lt}
use Rattle.definitions.proofs.Lemmas.{le-ltb}
use Rattle.definitions.specs.Items.{Range}
use Rattle.definitions.specs.Messages.{Part}
use Rattle.definitions.specs.Wire.{Profile}
use Rattle.definitions.specs.CompactReading.{Reading, ◌>>=◌, gives, byte_from, upper_from, fields_from, body_from}
use Rattle.definitions.specs.CompactReading.{skipped_from}
use Rattle.laws.proofs.CompactBounds.{given_is}
use Rattle.compact_core.specs.Readings.{Stops, range_from}
use Rattle.compact_core.specs.declared.stop.Stop.{Stop}
use Rattle.compact_core.specs.declared.stop.Stop.TheVariants as stops
use Rattle.compact_core.proofs.Fields.{regroup}

body_is : {F : Type 0} (P : Profile F) (z : List ℕ) (head : ℕ) (bytes : List ℕ) →
    body_from P z head bytes ≡ (range_from z head bytes >>= (λ X. fields_from P (head / 64) X.0 X.1))
body_is P z head bytes = sym (regroup (upper_from z head bytes) (λ y. gives (record { lower = z; upper = y.0 }) y.1)
    (λ X. fields_from P (head / 64) X.0 X.1))

pub body_given : {F : Type 0} (P : Profile F) (z : List ℕ) (head : ℕ) (bytes rest : List ℕ) (X : Range) →
    range_from z head bytes ≡ gives X rest → body_from P z head bytes ≡ fields_from P (head / 64) X rest
body_given P z head bytes rest X read =
    body_is P z head bytes ∙ ap (λ (r : Reading Range). r >>= (λ X. fields_from P (head / 64) X.0 X.1)) read

pub body_stops : {F : Type 0} (P : Profile F) (z : List ℕ) (head : ℕ) (bytes : List ℕ) (stop : Stop) →
    Stops stop (range_from z head bytes) → Stops stop (body_from P z head bytes)
body_stops P z head bytes stops.Unfinished read =
    body_is P z head bytes ∙ ap (λ (r : Reading Range). r >>= (λ X. fields_from P (head / 64) X.0 X.1)) read
body_stops P z head bytes (stops.Fault f) read =
    body_is P z head bytes ∙ ap (λ (r : Reading Range). r >>= (λ X. fields_from P (head / 64) X.0 X.1)) read

pub skipped_is : {F : Type 0} (P : Profile F) (z bytes rest : List ℕ) (head : ℕ) → byte_from bytes ≡ gives head rest →
    64 ≤ head → skipped_from P z bytes ≡ body_from P z head rest
skipped_is P z [] rest head read le = absurd cc
skipped_is P z (b ∷ bytes) rest head read le =
    let same = given_is b head bytes rest read in
    let high : nat_lt head 64 ≡ false = le-ltb head 64 le in
    (λ i. skipped_from P z (same.0 i ∷ same.1 i)) ∙ rw high
