-- What was read is a part.
use Rattle.std.proofs.Common.{◌≡◌, ℕ, ◌<◌, ◌≤◌, true, List, [], ◌∷◌, length, Result, Ok, Err, refl, ap, ◌∙◌, arith}
use Rattle.std.proofs.Common.{rules}
use Rattle.std.specs.Prelude.{nat_lt}
use Rattle.definitions.specs.Items.{IsBytes}
use Rattle.definitions.specs.Messages.{Part}
use Rattle.definitions.specs.Wire.{Profile, Event, Input, IsPart, Came, One_message, max_body}
use Rattle.definitions.specs.Refusals.{trailing}
use Rattle.definitions.specs.Reading.{◌>>=◌, event_in, fields_at, nothing_after}
use Rattle.wire_core.specs.Readers.{byte_at}
use Rattle.laws.specs.Codec.{BodyIsExact}

-- the body of a part that is no longer than a body may be is that of a part with a spelling
pub part_read : {F : Type 0} (P : Profile F) → BodyIsExact P → (bytes : List ℕ) → IsBytes bytes →
    length bytes ≤ max_body → (p : Part F) →
    event_in P One_message bytes ≡ Ok (Came p) → IsPart P p
part_read P exact bytes fits short p read =
    let says = ((exact One_message bytes).2 fits).0 (Came p) read in
    let same = ap length says.1 in
    record { fields = says.0; short = omega arith }

-- a body is its kind, and what follows it
kind_first : {F : Type 0} (P : Profile F) (input : Input) (bytes : List ℕ) (kind : ℕ) (rest : List ℕ) →
    byte_at bytes ≡ Ok (kind, rest) →
    event_in P input bytes ≡ (fields_at P input kind rest >>= nothing_after)
kind_first P input [] kind rest read = cc
kind_first P input (b ∷ bytes) kind rest read =
    let both : (b, bytes) ≡ (kind, rest) = cc in
    let b_is : b ≡ kind = ap (λ (p : ℕ × List ℕ). p.0) both in
    let bytes_is : bytes ≡ rest = ap (λ (p : ℕ × List ℕ). p.1) both in
    λ i. fields_at P input (b_is i) (bytes_is i) >>= nothing_after

pub nothing_left : {F : Type 0} (P : Profile F) (input : Input) (bytes : List ℕ) (kind : ℕ) (rest : List ℕ)
    (e : Event F) (left : List ℕ) → byte_at bytes ≡ Ok (kind, rest) →
    fields_at P input kind rest ≡ Ok (e, left) → left ≡ [] → event_in P input bytes ≡ Ok e
nothing_left {F} P input bytes kind rest e left first read none =
    let all : fields_at P input kind rest ≡ Ok (e, []) = read ∙ ap (λ (l : List ℕ). Ok (e, l)) none in
    kind_first P input bytes kind rest first ∙ ap (λ (r : Result (Event F × List ℕ) ℕ). r >>= nothing_after) all

pub something_left : {F : Type 0} (P : Profile F) (input : Input) (bytes : List ℕ) (kind : ℕ) (rest : List ℕ)
    (e : Event F) (left : List ℕ) → byte_at bytes ≡ Ok (kind, rest) →
    fields_at P input kind rest ≡ Ok (e, left) → 0 < length left → event_in P input bytes ≡ Err trailing
something_left {F} P input bytes kind rest e left first read more =
    let above : nat_lt 0 (length left) ≡ true = search (rules, more) in
    kind_first P input bytes kind rest first ∙ ap (λ (r : Result (Event F × List ℕ) ℕ). r >>= nothing_after) read
    ∙ rw above refl
