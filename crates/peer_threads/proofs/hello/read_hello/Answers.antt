use Rattle.std.proofs.Common.{rules, IsTrue, take, subst, arith}
use Rattle.std.specs.Io.KnownBytes.{Consumes}
use Rattle.peer_threads.proofs.Hellos.{no-hello-failed, no-hello-ended}
use Rattle.peer_threads.proofs.hello.read_hello.Goals as goal

pub returns-in_default-clause-read : goal.returns-in_default-clause-read
returns-in_default-clause-read g c =
    let failed : IsTrue c.read.new.self.failed = search rules in
    let so = c.reads.invariant in
    no-hello-failed _ _ (g.R.Read.remaining c.read.new.self.inner) _ c.reads.hello.bytes c.reads.came so.room
    (omega arith)
    c.are_bytes.ensures so.read c.in_default.ensures.bytes failed

pub returns-then-count-eq0-clause-read : goal.returns-then-count-eq0-clause-read
returns-then-count-eq0-clause-read g c =
    let ended : IsTrue c.read.new.self.ended = search rules in
    let so = c.reads.invariant in
    let none = subst (λ n. Consumes (g.R.Read.remaining c.reads.reader.inner) (g.R.Read.remaining c.read.new.self.inner)
    (take n c.read.new.buf)) c.if-count-eq0.true c.in-Ok.ensures.bytes.0 in
    no-hello-ended _ _ (g.R.Read.remaining c.read.new.self.inner) _ c.reads.hello.bytes c.reads.came so.room
    (omega arith)
    c.are_bytes.ensures so.read none ended _ c.number.ensures
