use Rattle.std.proofs.Common.{◌≡◌, length}
use Rattle.std.specs.Io.KnownBytes.{Keeps}
use Rattle.http_core.specs.Streams.{stream_left}
use Rattle.http_core.proofs.framed.FramedRead.read.Given as goal

abbrev pub invariant-loop-turn : goal.invariant-loop-turn
invariant-loop-turn g l =
    Keeps (stream_left l.fn.self.frames (g.R.Read.remaining l.fn.self.reader))
    (stream_left l.self.frames (g.R.Read.remaining l.self.reader))
    × (length l.buf ≡ length l.fn.buf)
