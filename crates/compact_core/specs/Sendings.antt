-- The bytes that a session says, and those that are sent: the hello as it is, and after the compact one compact text.
--     SendingState                the bytes of the hello that were said, and the packer of what follows it
--     sent P s bytes, sending_after P s bytes      what is sent of more bytes, and the state after them
--     PackingState W              a writer, the text that waits for it, and how many bytes that stands for
--     packed_of P s bytes         the same, once bytes are packed, unless some wait, or there are none
--     passes P s                  nothing waits, and another hello was said: all that follows is sent as it is
--     taken_of P s bytes result   the bytes that a call takes: a piece of them, or, where nothing is packed, those that
--                                 the writer takes
use Rattle.std.specs.Prelude.{ℕ, ◌-◌, ◌==◌, ◌&&◌, Bool, not, nat_lt, List, ◌++◌, length, take, drop, bytes_eq}
use Rattle.std.specs.Prelude.{if◌then◌else◌, Result, Ok, Err}
use Rattle.definitions.specs.Wire.{Profile}
use Rattle.definitions.specs.Packing.{pack}
use Rattle.compact_core.specs.Packing.{PackerState, packed_state}

pub record SendingState : Type 0 where
  pub hello : List ℕ
  pub packer : PackerState

abbrev pub said_after : SendingState → List ℕ → List ℕ
said_after s bytes = s.hello ++ take (4 - length s.hello) bytes

abbrev pub after_said : {F : Type 0} → Profile F → List ℕ → PackerState → List ℕ → List ℕ
after_said P hello p rest = if bytes_eq hello P.hello then (pack P p.to (p.kept ++ rest)).text else rest

abbrev pub packer_after : {F : Type 0} → Profile F → List ℕ → PackerState → List ℕ → PackerState
packer_after P hello p rest = if bytes_eq hello P.hello then packed_state (pack P p.to (p.kept ++ rest)) else p

abbrev pub sent : {F : Type 0} → Profile F → SendingState → List ℕ → List ℕ
sent P s bytes = take (4 - length s.hello) bytes
    ++ after_said P (said_after s bytes) s.packer (drop (4 - length s.hello) bytes)

abbrev pub sending_after : {F : Type 0} → Profile F → SendingState → List ℕ → SendingState
sending_after P s bytes = record {
  hello = said_after s bytes;
  packer = packer_after P (said_after s bytes) s.packer (drop (4 - length s.hello) bytes);
}

pub record PackingState (W : Type 0) : Type 0 where
  pub writer : W
  pub sending : SendingState
  pub pending : List ℕ
  pub untold : ℕ

abbrev pub packed_of : {F W : Type 0} → Profile F → PackingState W → List ℕ → PackingState W
packed_of P s bytes = if s.untold == 0 && nat_lt 0 (length bytes)
    then record {
      writer = s.writer;
      sending = sending_after P s.sending bytes;
      pending = sent P s.sending bytes;
      untold = length bytes;
    }
    else s

abbrev pub is_plain : {F : Type 0} → Profile F → SendingState → Bool
is_plain P s = (4 - length s.hello == 0) && not (bytes_eq s.hello P.hello)

abbrev pub passes : {F W : Type 0} → Profile F → PackingState W → Bool
passes P s = (s.untold == 0) && is_plain P s.sending

abbrev pub told_in : {E : Type 0} → Result ℕ E → ℕ
told_in (Ok n) = n
told_in (Err e) = 0

abbrev pub taken_of : {F W E : Type 0} → Profile F → PackingState W → List ℕ → Result ℕ E → List ℕ
taken_of P s bytes result = if passes P s then take (told_in result) bytes else take 16384 bytes
