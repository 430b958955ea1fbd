use Rattle.std.proofs.Common.{◌≡◌, ◌≤◌, length}
use Rattle.definitions.specs.Packing.{pack, with_text}
use Rattle.compact_core.proofs.Packs.{GoesOn}
use Rattle.compact_core.proofs.packer.pack_frames.Given as goal

abbrev pub invariant-frames : goal.invariant-frames
invariant-frames g l = record {
  so_far : GoesOn g.F.WireSummary.profile
      (with_text l.fn.out.items (pack g.F.WireSummary.profile l.fn.come_to l.fn.bytes.now))
      l.out.items l.come_to l.bytes.now;
  shorter : length l.bytes.now ≤ length l.fn.bytes.now;
  all : length l.fn.bytes.now ≤ length l.bytes.now → l.bytes.now ≡ l.fn.bytes.now;
}

abbrev pub decreases-frames : goal.decreases-frames
decreases-frames g l = length l.bytes.now
