use Rattle.std.proofs.Common.{length, ◌≤◌}
use Rattle.std.specs.Io.KnownBytes.{Keeps, append_known}
use Rattle.compact_core.proofs.stream_packing.write_out.Given as goal

-- what is held and what waits stay the same, and no more waits
abbrev pub invariant-writes : goal.invariant-writes
invariant-writes g l = record {
  held : Keeps (append_known (g.W.Write.contents l.fn.writer) l.fn.pending)
      (append_known (g.W.Write.contents l.writer) l.pending);
  shorter : length l.pending ≤ length l.fn.pending;
}

abbrev pub decreases-writes : goal.decreases-writes
decreases-writes g l = length l.pending
