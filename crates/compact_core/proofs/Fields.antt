-- A field is its bytes, and what they hold.
use Rattle.std.proofs.Common.{◌≡◌, ℕ, ◌+◌, ◌≤◌, ◌<◌, List, [], ◌∷◌, ◌++◌, Bool, Option, Some, None, Result, Ok, Err}
use Rattle.std.proofs.Common.{refl}
use Rattle.std.proofs.Common.{sym, ap, ◌∙◌, arith, rules, length}
use Rattle.std.specs.Prelude.{nat_lt}
use Rattle.definitions.specs.Items.{Item, Range, IsRange, IsBytes}
use Rattle.definitions.specs.Messages.{Listing, Answer}
use Rattle.definitions.specs.Wire.{Profile, IsProfile, IsPart}
use Rattle.definitions.specs.Refusals.{frame_length}
use Rattle.definitions.specs.CompactReading.{Reading, ◌>>=◌, gives, but_not, bytes_from, number_from, max_field, all_of}
use Rattle.definitions.specs.CompactReading.{held_from, field_from, listing_in, answer_in}
use Rattle.laws.proofs.CompactParts.{fields_reads}
use Rattle.wire_core.specs.Refused.{fault_number}
use Rattle.compact_core.specs.Readings.{Stops, Fails, in_field, field_bytes_from}
use Rattle.compact_core.specs.declared.stop.Stop.{Stop}
use Rattle.compact_core.specs.declared.stop.Stop.TheVariants as stops
use Rattle.compact_core.specs.declared.stop.ReadError.{ReadError}
use Rattle.compact_core.specs.declared.stop.ReadError.TheVariants as errors

pub regroup : {A B C : Type 0} (r : Reading A) (f : A × List ℕ → Reading B) (g : B × List ℕ → Reading C) →
    ((r >>= f) >>= g) ≡ (r >>= (λ x. f x >>= g))
regroup (Ok (Some x)) f g = refl
regroup (Ok None) f g = refl
regroup (Err code) f g = refl

pub field_is : {A : Type 0} (inside : List ℕ → Reading A) (bytes : List ℕ) →
    field_from inside bytes ≡ (field_bytes_from bytes >>= (λ f. all_of (inside f.0) f.1))
field_is {A} inside bytes =
    let hold : List ℕ × List ℕ → Reading A = λ f. all_of (inside f.0) f.1 in
    let held : ℕ × List ℕ → Reading (List ℕ) = λ m. bytes_from m.0 m.1 in
    sym (regroup (number_from bytes) (λ n. but_not (nat_lt max_field n.0) frame_length n >>= held) hold
    ∙ (λ i. number_from bytes >>= (λ n. regroup (but_not (nat_lt max_field n.0) frame_length n) held hold i)))

pub field_given : {A : Type 0} (inside : List ℕ → Reading A) (bytes field rest left : List ℕ) (x : A) →
    field_bytes_from bytes ≡ gives field rest → inside field ≡ gives x left → field_from inside bytes ≡ gives x rest
field_given {A} inside bytes field rest left x here holds =
    let hold : List ℕ × List ℕ → Reading A = λ f. all_of (inside f.0) f.1 in
    field_is inside bytes ∙ ap (λ (r : Reading (List ℕ)). r >>= hold) here ∙ ap (λ (r : Reading A). all_of r rest) holds

pub field_stops : {A : Type 0} (inside : List ℕ → Reading A) (bytes field rest : List ℕ) (e : ReadError) →
    field_bytes_from bytes ≡ gives field rest → Fails e (inside field) → Fails (in_field e) (field_from inside bytes)
field_stops inside bytes field rest errors.Memory here stops = tt
field_stops {A} inside bytes field rest (errors.Stop stops.Unfinished) here stop =
    let hold : List ℕ × List ℕ → Reading A = λ f. all_of (inside f.0) f.1 in
    field_is inside bytes ∙ ap (λ (r : Reading (List ℕ)). r >>= hold) here ∙ ap (λ (r : Reading A). all_of r rest) stop
field_stops {A} inside bytes field rest (errors.Stop (stops.Fault f)) here stop =
    let hold : List ℕ × List ℕ → Reading A = λ f. all_of (inside f.0) f.1 in
    field_is inside bytes ∙ ap (λ (r : Reading (List ℕ)). r >>= hold) here ∙ ap (λ (r : Reading A). all_of r rest) stop

pub field_short : {A : Type 0} (inside : List ℕ → Reading A) (bytes : List ℕ) (stop : Stop) →
    Stops stop (field_bytes_from bytes) → Stops stop (field_from inside bytes)
field_short {A} inside bytes stops.Unfinished here =
    let hold : List ℕ × List ℕ → Reading A = λ f. all_of (inside f.0) f.1 in
    field_is inside bytes ∙ ap (λ (r : Reading (List ℕ)). r >>= hold) here
field_short {A} inside bytes (stops.Fault f) here =
    let hold : List ℕ × List ℕ → Reading A = λ f. all_of (inside f.0) f.1 in
    field_is inside bytes ∙ ap (λ (r : Reading (List ℕ)). r >>= hold) here

-- what is read is a part
pub list_is_part : {F : Type 0} (P : Profile F) → IsProfile P → (X : Range) → IsRange X → (bytes rest : List ℕ) →
    IsBytes bytes → (xs : List Item) → field_from (listing_in P X) bytes ≡ gives (Listing X xs) rest →
    IsPart P (Listing X xs)
list_is_part P real X right bytes rest fits xs read =
    let o = (fields_reads P real 2 X right (omega arith) (omega arith)).only bytes (Listing X xs) rest fits read in
    let good = o.1 in good.part

pub answer_is_part : {F : Type 0} (P : Profile F) → IsProfile P → (X : Range) → IsRange X → (bytes rest : List ℕ) →
    IsBytes bytes → (marks : List Bool) (xs : List Item) →
    field_from (answer_in P X) bytes ≡ gives (Answer X marks xs) rest → IsPart P (Answer X marks xs)
answer_is_part P real X right bytes rest fits marks xs read =
    let o = (fields_reads P real 3 X right (omega arith) (omega arith)).only bytes (Answer X marks xs) rest fits read in
    let good = o.1 in good.part
