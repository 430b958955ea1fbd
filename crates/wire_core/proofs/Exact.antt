-- What an exact reading says of a message and of its spelling.
use Rattle.std.proofs.Common.{◌≡◌, ℕ, List, Result, Ok, Err, subst}
use Rattle.std.specs.Prelude.{IfOk}
use Rattle.definitions.specs.Items.{IsBytes}
use Rattle.definitions.specs.Messages.{Message}
use Rattle.definitions.specs.Wire.{Profile, Spells, IsMessage}
use Rattle.definitions.specs.Faults.{FaultyMessage}
use Rattle.definitions.specs.Streams.{message_in}
use Rattle.laws.specs.Codec.{MessageIsExact}
use Rattle.wire_core.specs.Refused.{Gives, IfFault, fault_number}
use Rattle.wire_core.specs.declared.fault.DecodeError.{DecodeError}
use Rattle.wire_core.specs.declared.fault.DecodeError.TheVariants as errors

pub found : {F : Type 0} (P : Profile F) → MessageIsExact P → (bytes : List ℕ) → IsBytes bytes →
    (r : Result (Message F) DecodeError) → Gives (λ m. m) r (message_in P bytes) →
    IfOk r (λ m. Spells P m bytes)
found P exact bytes fits (Ok m) gives = ((exact bytes).2 fits).0 m gives
found P exact bytes fits (Err e) gives = tt

pub message_read : {F : Type 0} (P : Profile F) → MessageIsExact P → (bytes : List ℕ) → IsBytes bytes →
    (M : Message F) → message_in P bytes ≡ Ok M → IsMessage P M
message_read P exact bytes fits M read = (((exact bytes).2 fits).0 M read).0

pub only : {F : Type 0} (P : Profile F) → MessageIsExact P → (bytes : List ℕ) → (r : Result (Message F) DecodeError) →
    Gives (λ m. m) r (message_in P bytes) →
    (M : Message F) → Spells P M bytes → Gives (λ m. m) r (Ok M)
only P exact bytes r gives M spells = subst (λ read. Gives (λ m. m) r read) ((exact bytes).0 M spells) gives

pub fault : {F : Type 0} (P : Profile F) → MessageIsExact P → (bytes : List ℕ) → IsBytes bytes →
    (r : Result (Message F) DecodeError) → Gives (λ m. m) r (message_in P bytes) →
    IfFault r (FaultyMessage P bytes)
fault P exact bytes fits (Ok m) gives = tt
fault P exact bytes fits (Err errors.Memory) gives = tt
fault P exact bytes fits (Err (errors.Fault f)) gives = ((exact bytes).2 fits).1 (fault_number f) gives
