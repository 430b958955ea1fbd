use Rattle.std.proofs.Common.{◌≡◌, ◌≤◌, length}
use Rattle.definitions.specs.Packing.{unpack}
use Rattle.compact_core.proofs.Unpacks.{told, GoesOn}
use Rattle.compact_core.proofs.unpacker.unpack_units.Given as goal

abbrev pub invariant-units : goal.invariant-units
invariant-units g l = record {
  so_far : GoesOn g.F.WireSummary.profile (told g.F.WireSummary.profile l.fn.frames.items
      (unpack g.F.WireSummary.profile l.fn.come_to l.fn.bytes.now)) l.frames.items l.come_to l.bytes.now;
  shorter : length l.bytes.now ≤ length l.fn.bytes.now;
  all : length l.fn.bytes.now ≤ length l.bytes.now → l.bytes.now ≡ l.fn.bytes.now;
}

abbrev pub decreases-units : goal.decreases-units
decreases-units g l = length l.bytes.now
