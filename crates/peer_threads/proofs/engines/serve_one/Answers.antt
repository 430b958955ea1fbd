use Rattle.std.proofs.Common.{rules, inl, inr, refl}
use Rattle.std.specs.Arc.{arc_value}
use Rattle.peer_threads.specs.Outcomes.{seen, peer_at}
use Rattle.peer_threads.proofs.Choosing.{chooses-counted, chooses-compact, chooses-two-lanes}
use Rattle.peer_threads.proofs.Choosing.{counted-speaks, counted-unopened, counted-first}
use Rattle.peer_threads.proofs.Choosing.{compact-speaks, compact-unopened, compact-first}
use Rattle.peer_threads.proofs.Choosing.{two-lanes-speak, two-lanes-unopened, two-lanes-first}
use Rattle.peer_threads.proofs.Choosing.{short-speaks, short-unopened}
use Rattle.peer_threads.proofs.engines.serve_one.Goals as goal

pub returns-in-Err-clause-view : goal.returns-in-Err-clause-view
returns-in-Err-clause-view g c =
    let r = seen c.read_hello.new.reader.failed c.read_hello.new.reader.ended in
    let w = seen c.stopped.new.writer.failed c.stopped.new.writer.ended in
    let x = c.in-Err.ensures.read in
    inr (
      refl,
      short-unopened c.exchange_laws.ensures c.new.result x.0 (g.R.Read.remaining c.args.connection.now.reader.inner)
          (g.R.Read.remaining c.read_hello.new.reader.inner) (g.W.Write.contents c.args.connection.now.writer.inner)
          (g.W.Write.contents c.stopped.new.writer.inner) r w c.args.connection.now.writer.failed c.in-Err.stop
          c.stopped.result
          c.new.ensures x.1 x.2 c.stopped.ensures.leaves c.stopped.ensures.outcome,
    )

pub returns-in-Err-clause-bytes : goal.returns-in-Err-clause-bytes
returns-in-Err-clause-bytes g c =
    let r = seen c.read_hello.new.reader.failed c.read_hello.new.reader.ended in
    let w = seen c.stopped.new.writer.failed c.stopped.new.writer.ended in
    let v = c.args.seat.now.view in
    let x = c.in-Err.ensures.read in
    short-speaks c.exchange_laws.ensures _ (peer_at (arc_value c.args.shared.now.accepted.now) v) _ _ _ c.new.result x.0
    (g.R.Read.remaining c.args.connection.now.reader.inner)
    (g.R.Read.remaining c.read_hello.new.reader.inner) (g.W.Write.contents c.args.connection.now.writer.inner)
    (g.W.Write.contents c.stopped.new.writer.inner) r w c.args.connection.now.writer.failed c.in-Err.stop
    c.stopped.result
    c.new.ensures x.1 x.2 c.stopped.ensures.leaves c.stopped.ensures.outcome
    (c.sides_keep_bounds.ensures.responder v.base x.0)

pub returns-then-is_counted-clause-view : goal.returns-then-is_counted-clause-view
returns-then-is_counted-clause-view g c =
    elim c.serve_after.ensures.view [
      | inl x ↦ inl x
      | inr x ↦ inr (
        x.0,
        counted-unopened c.in-Ok.hello.bytes (g.R.Read.remaining c.args.connection.now.reader.inner)
            (g.R.Read.remaining c.read_hello.new.reader.inner) _ _ _ _ _ _ c.in-Ok.ensures.read.0.four
            c.in-Ok.ensures.read.1 (chooses-counted c.in-Ok.hello.bytes (search rules)) x.1,
      )
    ]

pub returns-then-is_counted-clause-opened : goal.returns-then-is_counted-clause-opened
returns-then-is_counted-clause-opened g c =
    elim c.serve_after.ensures.opened [
      | inl x ↦ inl x
      | inr x ↦ inr (counted-first c.in-Ok.hello.bytes (g.R.Read.remaining c.args.connection.now.reader.inner)
          (g.R.Read.remaining c.read_hello.new.reader.inner) _ c.in-Ok.ensures.read.0.four c.in-Ok.ensures.read.1
          (chooses-counted c.in-Ok.hello.bytes (search rules)) x)
    ]

pub returns-then-is_counted-clause-bytes : goal.returns-then-is_counted-clause-bytes
returns-then-is_counted-clause-bytes g c =
    counted-speaks _ (peer_at (arc_value c.args.shared.now.accepted.now) c.serve_after.new.seat.view) _ _ _
    c.in-Ok.hello.bytes (g.R.Read.remaining c.args.connection.now.reader.inner)
    (g.R.Read.remaining c.read_hello.new.reader.inner) _ _ _ _ _ _ c.in-Ok.ensures.read.0.four
    c.in-Ok.ensures.read.1 (chooses-counted c.in-Ok.hello.bytes (search rules)) c.serve_after.ensures.bytes

pub returns-then-is_compact-clause-view : goal.returns-then-is_compact-clause-view
returns-then-is_compact-clause-view g c =
    elim c.serve_after-then-is_compact.ensures.view [
      | inl x ↦ inl x
      | inr x ↦ inr (
        x.0,
        compact-unopened c.in-Ok.hello.bytes (g.R.Read.remaining c.args.connection.now.reader.inner)
            (g.R.Read.remaining c.read_hello.new.reader.inner) _ _ _ _ _ _ c.in-Ok.ensures.read.0.four
            c.in-Ok.ensures.read.1 (chooses-compact c.in-Ok.hello.bytes (search rules)) x.1,
      )
    ]

pub returns-then-is_compact-clause-opened : goal.returns-then-is_compact-clause-opened
returns-then-is_compact-clause-opened g c =
    elim c.serve_after-then-is_compact.ensures.opened [
      | inl x ↦ inl x
      | inr x ↦ inr (compact-first c.in-Ok.hello.bytes (g.R.Read.remaining c.args.connection.now.reader.inner)
          (g.R.Read.remaining c.read_hello.new.reader.inner) _ c.in-Ok.ensures.read.0.four c.in-Ok.ensures.read.1
          (chooses-compact c.in-Ok.hello.bytes (search rules)) x)
    ]

pub returns-then-is_compact-clause-bytes : goal.returns-then-is_compact-clause-bytes
returns-then-is_compact-clause-bytes g c =
    compact-speaks _ (peer_at (arc_value c.args.shared.now.accepted.now) c.serve_after-then-is_compact.new.seat.view) _
    _ _ c.in-Ok.hello.bytes (g.R.Read.remaining c.args.connection.now.reader.inner)
    (g.R.Read.remaining c.read_hello.new.reader.inner) _ _ _ _ _ _ c.in-Ok.ensures.read.0.four
    c.in-Ok.ensures.read.1 (chooses-compact c.in-Ok.hello.bytes (search rules))
    c.serve_after-then-is_compact.ensures.bytes

pub returns-else-is_compact-clause-view : goal.returns-else-is_compact-clause-view
returns-else-is_compact-clause-view g c =
    elim c.serve_after-else-is_compact.ensures.view [
      | inl x ↦ inl x
      | inr x ↦ inr (
        x.0,
        two-lanes-unopened c.in-Ok.hello.bytes (g.R.Read.remaining c.args.connection.now.reader.inner)
            (g.R.Read.remaining c.read_hello.new.reader.inner) _ _ _ _ _ _ c.in-Ok.ensures.read.0.four
            c.in-Ok.ensures.read.1
            (chooses-two-lanes c.in-Ok.hello.bytes c.in-Ok.ensures.read.0.four (search rules) (search rules)) x.1,
      )
    ]

pub returns-else-is_compact-clause-opened : goal.returns-else-is_compact-clause-opened
returns-else-is_compact-clause-opened g c =
    elim c.serve_after-else-is_compact.ensures.opened [
      | inl x ↦ inl x
      | inr x ↦ inr (two-lanes-first c.in-Ok.hello.bytes (g.R.Read.remaining c.args.connection.now.reader.inner)
          (g.R.Read.remaining c.read_hello.new.reader.inner) _ c.in-Ok.ensures.read.0.four c.in-Ok.ensures.read.1
          (chooses-two-lanes c.in-Ok.hello.bytes c.in-Ok.ensures.read.0.four (search rules) (search rules)) x)
    ]

pub returns-else-is_compact-clause-bytes : goal.returns-else-is_compact-clause-bytes
returns-else-is_compact-clause-bytes g c =
    two-lanes-speak _ (peer_at (arc_value c.args.shared.now.accepted.now) c.serve_after-else-is_compact.new.seat.view) _
    _ _ c.in-Ok.hello.bytes (g.R.Read.remaining c.args.connection.now.reader.inner)
    (g.R.Read.remaining c.read_hello.new.reader.inner) _ _ _ _ _ _ c.in-Ok.ensures.read.0.four
    c.in-Ok.ensures.read.1
    (chooses-two-lanes c.in-Ok.hello.bytes c.in-Ok.ensures.read.0.four (search rules) (search rules))
    c.serve_after-else-is_compact.ensures.bytes
