use Rattle.std.proofs.Common.{◌≡◌, true, false, Err, [], ap, ◌∙◌, subst, rules, arith}
use Rattle.std.proofs.lemmas.Result.{err_from_is_err_and}
use Rattle.wire_core.specs.Events.{event_value}
use Rattle.peer_threads.specs.Outcomes.{seen}
use Rattle.peer_threads.specs.Underway.{FirstWent}
use Rattle.peer_threads.proofs.FirstMessages.{parts-fit, parts-none, parts-more, parts-ended, parts-stopped}
use Rattle.peer_threads.proofs.FirstMessages.{parts-refused}
use Rattle.peer_threads.proofs.Serving.{told}
use Rattle.peer_threads.proofs.engines.first_parts.Goals as goal

pub parts-init : goal.parts-init
parts-init g c =
    let none : c.new-parts.result.items ≡ [] = search rules in
    record {
      listens = c.requires.listens;
      step = λ start step. step;
      reads = omega arith;
      place = search rules;
      fits = parts-fit g.F.WireSummary.summary g.F.WireSummary.profile c.new-parts.result.items none;
      came = parts-none g.F.WireSummary.summary g.F.WireSummary.profile g.met.F.WireSummary.real
          (g.R.Read.remaining c.args.reader.now.inner) c.args.inbox.now c.new-parts.result.items none;
    }

-- the stream stops it
pub returns-in_err-event-clause-stopped : goal.returns-in_err-event-clause-stopped
returns-in_err-event-clause-stopped g c =
    told c.from_residual.result c.in_err-event.field-0.0 _ (search rules)
    (parts-stopped g.F.WireSummary.summary g.F.WireSummary.profile g.met.F.WireSummary.real
    (seen c.next.new.reader.failed c.next.new.reader.ended) (g.R.Read.remaining c.args.reader.now.inner)
    (g.R.Read.remaining c.parts.reader.inner) (g.R.Read.remaining c.next.new.reader.inner) c.args.inbox.now
    c.parts.inbox c.next.new.self c.parts.parts.items c.in_err-event.field-0.0 c.parts.invariant.fits
    c.parts.invariant.came c.in_err-event.ensures.read)

-- the event may not come next
pub returns-in_err-is_whole-clause-stopped : goal.returns-in_err-is_whole-clause-stopped
returns-in_err-is_whole-clause-stopped g c =
    let is = err_from_is_err_and c.from_residual-in_err-is_whole.result c.from_residual-in_err-is_whole.ensures.1 in
    told c.from_residual-in_err-is_whole.result c.in_err-is_whole.field-0.0 _ (is.1 ∙ ap Err is.2)
    (parts-refused g.F.WireSummary.summary g.F.WireSummary.profile g.met.F.WireSummary.real
    (seen c.next.new.reader.failed c.next.new.reader.ended) (g.R.Read.remaining c.args.reader.now.inner)
    (g.R.Read.remaining c.parts.reader.inner) (g.R.Read.remaining c.next.new.reader.inner) c.args.inbox.now
    c.parts.inbox c.next.new.self c.parts.parts.items (event_value c.in_ok-event.event)
    c.in_err-is_whole.field-0.0 c.parts.invariant.fits c.in_err-is_whole.ensures.stopped c.parts.invariant.came
    c.in_ok-event.ensures.read)

-- it is the end
pub returns-then-is_whole-clause-came : goal.returns-then-is_whole-clause-came
returns-then-is_whole-clause-came g c =
    let yes : c.in_ok-is_whole.is_whole ≡ true = search rules in
    parts-ended g.F.WireSummary.summary g.F.WireSummary.profile g.met.F.WireSummary.real
    (g.R.Read.remaining c.args.reader.now.inner) (g.R.Read.remaining c.parts.reader.inner)
    (g.R.Read.remaining c.next.new.reader.inner) c.args.inbox.now c.parts.inbox c.next.new.self c.parts.parts.items
    c.put_first.new.parts.items (event_value c.in_ok-event.event)
    (subst (FirstWent g.F.WireSummary.summary c.parts.parts.items c.put_first.new.parts.items
    (event_value c.in_ok-event.event)) yes c.in_ok-is_whole.ensures.went) c.parts.invariant.came
    c.in_ok-event.ensures.read

-- it is one part more
pub parts-preserved : goal.parts-preserved
parts-preserved g c =
    let none : c.in_ok-is_whole.is_whole ≡ false = search rules in
    let went = subst (FirstWent g.F.WireSummary.summary c.parts.parts.items c.put_first.new.parts.items
    (event_value c.in_ok-event.event)) none c.in_ok-is_whole.ensures.went in
    record {
      listens = c.in_ok-event.ensures.listens;
      step = λ start step. c.in_ok-event.ensures.step start (c.parts.invariant.step start step);
      reads = omega (arith, c.parts.invariant.reads, c.in_ok-event.ensures.reads.0);
      place = c.in_ok-is_whole.ensures.place;
      fits = went.3;
      came = parts-more g.F.WireSummary.summary g.F.WireSummary.profile g.met.F.WireSummary.real
          (g.R.Read.remaining c.args.reader.now.inner) (g.R.Read.remaining c.parts.reader.inner)
          (g.R.Read.remaining c.next.new.reader.inner) c.args.inbox.now c.parts.inbox c.next.new.self
          c.parts.parts.items c.put_first.new.parts.items (event_value c.in_ok-event.event) went
          c.parts.invariant.came c.in_ok-event.ensures.read;
    }
