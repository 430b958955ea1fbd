-- The bytes of a side as they come, and those that a session reads: the hello as it is, and after the compact one
-- frames.
--     OpeningState                the bytes of the hello that have come, and the unpacker of what follows it
--     due s                       how many bytes of the hello are due
--     opened P s bytes            what a session reads of more bytes
use Rattle.std.specs.Prelude.{ℕ, ◌-◌, List, ◌++◌, length, take, drop, bytes_eq, if◌then◌else◌}
use Rattle.definitions.specs.Wire.{Profile}
use Rattle.compact_core.specs.Unpacking.{UnpackerState, frames_after}

pub record OpeningState : Type 0 where
  pub hello : List ℕ
  pub unpacker : UnpackerState

abbrev pub due : OpeningState → ℕ
due s = 4 - length s.hello

abbrev pub hello_after : OpeningState → List ℕ → List ℕ
hello_after s bytes = s.hello ++ take (due s) bytes

abbrev pub after_hello : {F : Type 0} → Profile F → List ℕ → UnpackerState → List ℕ → List ℕ
after_hello P hello u rest = if bytes_eq hello P.hello then frames_after P u rest else rest

abbrev pub opened : {F : Type 0} → Profile F → OpeningState → List ℕ → List ℕ
opened P s bytes = take (due s) bytes ++ after_hello P (hello_after s bytes) s.unpacker (drop (due s) bytes)
