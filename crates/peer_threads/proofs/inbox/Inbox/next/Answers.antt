use Rattle.std.proofs.Common.{rules, ◌≡◌, ◌<◌, ◌≤◌, ◌∷◌, ◌++◌, [], ℕ, List, length, Option, None, IfNone, IfSome, Ok}
use Rattle.std.proofs.Common.{Err, sym, ap, ◌∙◌, subst, arith}
use Rattle.wire_core.specs.Events.{event_value}
use Rattle.wire_core.specs.Feeds.{StreamState, fault_at}
use Rattle.wire_core.specs.declared.event.Event as declared
use Rattle.peer_threads.specs.Outcomes.{seen}
use Rattle.peer_threads.specs.Inboxes.{HasRead, Held, FetchStops, Next}
use Rattle.peer_threads.proofs.InboxSteps.{reads_nothing, reads_more, reads_so, fetch_stops}
use Rattle.peer_threads.specs.Listening.{InStep, rest_of}
use Rattle.peer_threads.proofs.Listenings.{fares-by, unbroken}
use Rattle.peer_threads.proofs.inbox.Inbox.next.Goals as goal

pub reads-init : goal.reads-init
reads-init g c =
    let unread = g.R.Read.remaining c.args.reader.now.inner in (
      reads_nothing g.F.WireSummary.profile g.met.F.WireSummary.real unread c.args.self.now
          (HasRead g.F.WireSummary.profile c.args.self.now) (λ bytes es fits has. has),
      omega arith,
      c.requires.listens,
      λ start step. step,
      omega arith,
    )

pub returns-in_err-event-clause-read : goal.returns-in_err-event-clause-read
returns-in_err-event-clause-read g c =
    let unread = g.R.Read.remaining c.args.reader.now.inner in
    let left = g.R.Read.remaining c.reads.reader.inner in
    let is : c.from_residual.result ≡ Err c.in_err-event.field-0.0 = search rules in
    let over = seen c.reads.reader.failed c.reads.reader.ended in
    let new = c.next_held.new.self in
    reads_so g.F.WireSummary.profile g.met.F.WireSummary.real unread left c.args.self.now
    (HasRead g.F.WireSummary.profile c.reads.self)
    (λ bytes es. Next g.F.WireSummary.profile over new bytes es c.from_residual.result)
    (λ bytes es fits has. subst (Next g.F.WireSummary.profile over new bytes es) (sym is)
    (c.in_err-event.ensures.held bytes es fits has over))
    c.reads.invariant.0

pub returns-in-Some-clause-read : goal.returns-in-Some-clause-read
returns-in-Some-clause-read g c =
    let unread = g.R.Read.remaining c.args.reader.now.inner in
    let left = g.R.Read.remaining c.reads.reader.inner in
    let over = seen c.reads.reader.failed c.reads.reader.ended in
    let new = c.next_held.new.self in
    reads_so g.F.WireSummary.profile g.met.F.WireSummary.real unread left c.args.self.now
    (HasRead g.F.WireSummary.profile c.reads.self)
    (λ bytes es. HasRead g.F.WireSummary.profile new bytes (es ++ event_value c.in-Some.event ∷ []))
    (λ bytes es fits has. subst (λ (made : Option (declared.Event g.row.F.Denot)). Held g.F.WireSummary.profile over new
    bytes es (Ok made)) c.in-Some.is
    (c.in_ok-event.ensures.held bytes es fits has over))
    c.reads.invariant.0

pub reads-preserved : goal.reads-preserved
reads-preserved g c =
    let unread = g.R.Read.remaining c.args.reader.now.inner in
    let mid = g.R.Read.remaining c.reads.reader.inner in
    let left = g.R.Read.remaining c.read_more.new.reader.inner in
    let over = seen c.reads.reader.failed c.reads.reader.ended in
    let fed = c.next_held.new.self in
    let new = c.read_more.new.self in
    let all = reads_more g.F.WireSummary.profile g.met.F.WireSummary.real unread mid left c.args.self.now c.reads.self
    fed (HasRead g.F.WireSummary.profile new) c.reads.invariant.0
    (λ bytes es fits has. subst (λ (made : Option (declared.Event g.row.F.Denot)). Held g.F.WireSummary.profile over fed
    bytes es (Ok made)) c.in-None.is
    (c.in_ok-event.ensures.held bytes es fits has over))
    c.in_ok-read_more-in-None.ensures.read in
    let before = c.reads.invariant.1 in
    let same = c.next_held.ensures.reads.0 in
    let now = c.read_more.ensures.reads.0 in
    let none = subst
    (λ (made : Option (declared.Event g.row.F.Denot)). IfNone made ((fed.waiting ≡ []) ×
    (fault_at fed.feed.standing ≡ None)))
    c.in-None.is c.in_ok-event.ensures.none in
    let less = c.in_ok-read_more-in-None.ensures.less in
    let rest : rest_of fed ≤ rest_of c.reads.self =
    omega (arith, same, ap (λ (l : List ℕ). length l) none.0) in (
      all,
      omega arith,
      c.in_ok-read_more-in-None.ensures.listens,
      λ start step. c.in_ok-read_more-in-None.ensures.step start
          (subst (InStep start c.reads.reader.reads) (sym same) (c.reads.invariant.3 start step)),
      omega (arith, less, rest, c.reads.invariant.4),
    )

pub returns-in_err-read_more-in-None-clause-read : goal.returns-in_err-read_more-in-None-clause-read
returns-in_err-read_more-in-None-clause-read g c =
    let unread = g.R.Read.remaining c.args.reader.now.inner in
    let mid = g.R.Read.remaining c.reads.reader.inner in
    let left = g.R.Read.remaining c.read_more.new.reader.inner in
    let result = c.from_residual-in_err-read_more-in-None.result in
    let stop = c.in_err-read_more-in-None.field-0.0 in
    let is : result ≡ Err stop = search rules in
    let over = seen c.read_more.new.reader.failed c.read_more.new.reader.ended in
    let fed = c.next_held.new.self in
    let new = c.read_more.new.self in
    let none = subst
    (λ (made : Option (declared.Event g.row.F.Denot)). IfNone made ((fed.waiting ≡ []) ×
    (fault_at fed.feed.standing ≡ None)))
    c.in-None.is c.in_ok-event.ensures.none in
    let fine : fault_at new.feed.standing ≡ None =
    ap (λ (s : StreamState). fault_at s.standing) c.read_more.ensures.feed ∙ none.1 in
    reads_more g.F.WireSummary.profile g.met.F.WireSummary.real unread mid left c.args.self.now c.reads.self fed
    (λ bytes es. Next g.F.WireSummary.profile over new bytes es result)
    c.reads.invariant.0
    (λ bytes es fits has. subst (λ (made : Option (declared.Event g.row.F.Denot)). Held g.F.WireSummary.profile over fed
    bytes es (Ok made)) c.in-None.is
    (c.in_ok-event.ensures.held bytes es fits has over))
    (reads_so g.F.WireSummary.profile g.met.F.WireSummary.real mid left fed
    (λ bytes es. FetchStops g.F.WireSummary.profile over new
    bytes es stop) (λ bytes es. Next g.F.WireSummary.profile over new bytes es result)
    (λ bytes es fits stopped. subst (Next g.F.WireSummary.profile over new bytes es) (sym is)
    (fetch_stops g.F.WireSummary.profile g.met.F.WireSummary.real over new stop fine bytes es stopped))
    c.in_err-read_more-in-None.ensures.read)

pub read_more-requires-clause-listens : goal.read_more-requires-clause-listens
read_more-requires-clause-listens g c = c.reads.invariant.2

pub returns-in_err-event-clause-fared : goal.returns-in_err-event-clause-fared
returns-in_err-event-clause-fared g c = λ start step.
    let is : c.from_residual.result ≡ Err c.in_err-event.field-0.0 = search rules in
    fares-by start c.reads.reader.reads c.reads.reader.failed c.from_residual.result c.in_err-event.field-0.0 is
    (unbroken start c.reads.reader.reads c.reads.reader.failed c.in_err-event.field-0.0 c.in_err-event.ensures.quiet
    c.reads.invariant.2)

pub returns-in-Some-clause-listens : goal.returns-in-Some-clause-listens
returns-in-Some-clause-listens g c = c.reads.invariant.2

pub returns-in-Some-clause-fared : goal.returns-in-Some-clause-fared
returns-in-Some-clause-fared g c = λ start step. c.reads.invariant.2

pub returns-in-Some-clause-step : goal.returns-in-Some-clause-step
returns-in-Some-clause-step g c = λ start step.
    subst (InStep start c.reads.reader.reads) (sym c.next_held.ensures.reads.0) (c.reads.invariant.3 start step)

pub returns-in-Some-clause-less : goal.returns-in-Some-clause-less
returns-in-Some-clause-less g c =
    let new = c.next_held.new.self in
    let took = subst
    (λ (made : Option (declared.Event g.row.F.Denot)). IfSome made
    (λ _. length new.waiting < length c.reads.self.waiting))
    c.in-Some.is c.in_ok-event.ensures.less in
    omega (arith, took, c.next_held.ensures.reads.0, c.reads.invariant.4)

pub returns-in_err-read_more-in-None-clause-fared : goal.returns-in_err-read_more-in-None-clause-fared
returns-in_err-read_more-in-None-clause-fared g c = λ start step.
    let result = c.from_residual-in_err-read_more-in-None.result in
    let stop = c.in_err-read_more-in-None.field-0.0 in
    let is : result ≡ Err stop = search rules in
    let on = subst (InStep start c.reads.reader.reads) (sym c.next_held.ensures.reads.0)
    (c.reads.invariant.3 start step) in
    fares-by start c.read_more.new.reader.reads c.read_more.new.reader.failed result stop is
    (c.in_err-read_more-in-None.ensures.fared start on)
