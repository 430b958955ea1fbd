-- Where frames have come to, as a state.
--     reached_state bytes r     the state after the bytes
use Rattle.std.specs.Prelude.{List, ℕ}
use Rattle.compact_core.specs.Places.{kept_of}
use Rattle.compact_core.specs.Packing.{PackerState}
use Rattle.compact_core.specs.declared.packer.Reached.{Reached}

abbrev pub reached_state : List ℕ → Reached → PackerState
reached_state bytes r = record { to = r.come_to; kept = kept_of r.kept bytes }
