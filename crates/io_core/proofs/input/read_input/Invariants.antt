use Rattle.std.proofs.Common.{◌≡◌, ◌<◌, ◌≤◌, ◌-◌, ◌+◌, false, length, vec_len}
use Rattle.std.specs.Io.KnownBytes.{Consumes}
use Rattle.io_core.specs.Inputs.{max_input}
use Rattle.io_core.proofs.input.read_input.Given as goal

-- what was read so far
abbrev pub invariant-chunks : goal.invariant-chunks
invariant-chunks g l = record {
  read : Consumes (g.R.Read.remaining l.fn.reader.inner) (g.R.Read.remaining l.reader.inner) l.input.items;
  short : length l.input.items ≤ max_input;
  fine : l.reader.failed ≡ false;
  room : 0 < vec_len l.chunk;
}

abbrev pub decreases-chunks : goal.decreases-chunks
decreases-chunks g l = max_input + 1 - length l.input.items
