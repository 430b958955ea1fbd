-- A stream that was closed has no byte more. What was read gives a front of what was to come.
use Rattle.std.proofs.Common.{◌≡◌, ◌∙◌, ◌++◌, sym, subst, take, drop, Some}
use Rattle.std.proofs.lemmas.List.{take-append-le}
use Rattle.std.specs.Io.KnownBytes.{Consumes}
use Rattle.http_core.specs.Streams.{FramedState, stream_left}
use Rattle.http_core.proofs.Streamed.{reads_front, same, stopped_is_at_end}
use Rattle.http_core.proofs.framed.Framed.read_once.Goals as goal

pub returns-in-Some-Closed-clause-bytes : goal.returns-in-Some-Closed-clause-bytes
returns-in-Some-Closed-clause-bytes g c = (
  same _,
  λ room. stopped_is_at_end _ c.in-Some-Closed.field-0 _
      (subst (λ (s : FramedState _). s.frames.stop ≡ Some c.in-Some-Closed.field-0) c.self.view_is
      (sym c.stop.ensures ∙ c.in-Some-Closed.is)),
)

pub returns-clause-bytes : goal.returns-clause-bytes
returns-clause-bytes g c =
    let given = take c.unframe.result (c.unframe.new.bytes ++ drop c.in_ok-count.count c.read.new.buf)
    in let after = g.R.Read.remaining c.read.new.self
    in let said = take-append-le c.unframe.result c.unframe.new.bytes _ c.unframe.ensures.few ∙ c.unframe.ensures.said
    in subst (λ (s : FramedState _). Consumes (stream_left s.frames (g.R.Read.remaining s.reader))
    (stream_left c.unframe.new.self after) given) c.self.view_is
    (reads_front _ after c.self.inside.frames c.unframe.new.self (take c.in_ok-count.count c.read.new.buf) given
    c.in_ok-count.ensures.bytes.0 c.unframe.ensures.state said)
