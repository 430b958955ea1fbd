-- Where units have come to, as a state.
--     kept_of kept bytes        what is kept of the bytes: all of them where nothing else is said
--     place_state bytes place   the state after the bytes
use Rattle.std.specs.declared.alloc.Global.{Global}
use Rattle.std.specs.Prelude.{List, ℕ, Option, Some, None, Vec}
use Rattle.std.specs.Option.{option_map}
use Rattle.wire_core.specs.Refused.{fault_number}
use Rattle.compact_core.specs.Unpacking.{UnpackerState}
use Rattle.compact_core.specs.declared.unpacker.Place.{Place}

abbrev pub kept_of : Option (Vec ℕ Global) → List ℕ → List ℕ
kept_of None bytes = bytes
kept_of (Some kept) bytes = kept.items

abbrev pub place_state : List ℕ → Place → UnpackerState
place_state bytes place =
    record { to = place.come_to; kept = kept_of place.kept bytes; fault = option_map fault_number place.fault }
