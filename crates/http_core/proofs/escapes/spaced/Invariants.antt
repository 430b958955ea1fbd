use Rattle.std.proofs.Common.{◌≡◌, map, take}
use Rattle.form_urlencoded.specs.Form.{plus_to_space}
use Rattle.http_core.proofs.escapes.spaced.Given as goal

abbrev pub invariant-loop-byte : goal.invariant-loop-byte
invariant-loop-byte l = l.bytes.items ≡ map plus_to_space (take l.byte-index l.value)
