use Rattle.std.proofs.Common.{◌≡◌, ◌+◌, ◌-◌, ◌≤◌, length, take, false}
use Rattle.std.specs.Io.KnownBytes.{Consumes}
use Rattle.peer_threads.specs.Listening.{InStep}
use Rattle.peer_threads.proofs.hello.read_hello.Given as goal

-- what came so far, and how often the reader was read
abbrev pub invariant-reads : goal.invariant-reads
invariant-reads g l = record {
  few : l.came ≤ 4;
  room : length l.hello.bytes ≡ 4;
  read : Consumes (g.R.Read.remaining l.fn.reader.inner) (g.R.Read.remaining l.reader.inner)
      (take l.came l.hello.bytes);
  each : l.hello.reads ≤ l.came;
  counted : l.reader.reads ≤ l.fn.reader.reads + l.hello.reads;
  listens : l.reader.failed ≡ false;
  step : InStep l.fn.reader.reads l.reader.reads l.hello.reads;
}

abbrev pub decreases-reads : goal.decreases-reads
decreases-reads g l = 4 - l.came
