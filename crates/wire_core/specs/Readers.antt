-- Words of the readers, beside those of the definitions.
--     byte_at bytes               one byte and the bytes after it
--     fingerprint_at P bytes      a fingerprint and the bytes after it
--     code_at bytes               one byte and nothing after it
--     event_of part               what a frame says: a part, or the end of the message
--     next_at P parts bytes       the event of a message that stands next, after so many parts, and the bytes after it
use Rattle.std.specs.Prelude.{ℕ, List, [], ◌∷◌, Option, Some, None, Result, Ok, Err}
use Rattle.definitions.specs.Messages.{Part}
use Rattle.definitions.specs.Refusals.{frame_length, truncated}
use Rattle.definitions.specs.Wire.{Profile, Event, Came, Ended, One_message}
use Rattle.definitions.specs.Reading.{◌>>=◌, bytes_at, nothing_after, event_at}

abbrev pub byte_at : List ℕ → Result (ℕ × List ℕ) ℕ
byte_at [] = Err frame_length
byte_at (b ∷ bytes) = Ok (b, bytes)

abbrev pub fingerprint_at : {F : Type 0} → Profile F → List ℕ → Result (F × List ℕ) ℕ
fingerprint_at P bytes = do
  f ← bytes_at P.size bytes
  Ok (P.read f.0, f.1)

abbrev pub code_at : List ℕ → Result ℕ ℕ
code_at bytes = byte_at bytes >>= nothing_after

abbrev pub event_of : {F : Type 0} → Option (Part F) → Event F
event_of (Some p) = Came p
event_of None = Ended

abbrev pub whole_frame : {A : Type 0} → Option A → Result A ℕ
whole_frame None = Err truncated
whole_frame (Some x) = Ok x

abbrev pub next_at : {F : Type 0} → Profile F → ℕ → List ℕ → Result (Event F × List ℕ) ℕ
next_at P parts bytes = event_at P One_message parts bytes >>= whole_frame
