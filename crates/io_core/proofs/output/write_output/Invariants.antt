use Rattle.std.proofs.Common.{length, take, false, ◌-◌, ◌≡◌, ◌≤◌}
use Rattle.std.specs.Io.KnownBytes.{Appends}
use Rattle.io_core.proofs.output.write_output.Given as goal

abbrev pub invariant-sent : goal.invariant-sent
invariant-sent g l = record {
  within : l.written ≤ length l.bytes;
  front : Appends (g.W.Write.contents l.initial.writer.inner) (g.W.Write.contents l.writer.inner)
      (take l.written l.bytes);
  fine : l.writer.failed ≡ false;
}

abbrev pub decreases-sent : goal.decreases-sent
decreases-sent g l = length l.bytes - l.written
