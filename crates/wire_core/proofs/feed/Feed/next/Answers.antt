use Rattle.std.proofs.Common.{rules, ◌≡◌, ◌++◌, [], None, Ok, Err, length, refl, sym, ap, subst, ◌∙◌}
use Rattle.definitions.specs.Streams.{feed}
use Rattle.wire_core.specs.Feeds.{fed_into}
use Rattle.wire_core.specs.Nexts.{TakesNext, Refuses}
use Rattle.wire_core.specs.declared.fault.DecodeError.TheVariants as errors
use Rattle.wire_core.proofs.Nexts.{joined_next}
use Rattle.wire_core.proofs.feed.Feed.next.Goals as goal

pub returns-then-branch-clause-joined : goal.returns-then-branch-clause-joined
returns-then-branch-clause-joined g c =
    joined_next g.F.WireSummary.profile (c.feeds_join.ensures g.F.WireSummary.profile g.met.F.WireSummary.real)
    c.args.self.now c.keep.new.self c.args.piece.now c.are_bytes.ensures (Ok (length c.args.piece.now, None))
    (refl, (c.in_ok-keep.ensures.kept c.if-branch.true).0)

pub returns-in-Ok-clause-joined : goal.returns-in-Ok-clause-joined
returns-in-Ok-clause-joined g c =
    let P = g.F.WireSummary.profile in
    let same = c.in_ok-keep.ensures.same c.if-branch.false in
    let next = c.in-Ok.field-0 in
    joined_next P (c.feeds_join.ensures P g.met.F.WireSummary.real) c.args.self.now next.feed c.args.piece.now
    c.are_bytes.ensures (Ok (next.taken, next.event))
    (subst (λ old. TakesNext P old c.args.piece.now (Ok (next.taken, next.event)) next.feed) same c.in-Ok.ensures.next)

pub returns-in-Err-Fault-clause-joined : goal.returns-in-Err-Fault-clause-joined
returns-in-Err-Fault-clause-joined g c =
    let P = g.F.WireSummary.profile in
    let old = c.args.self.now in
    let same = c.in_ok-keep.ensures.same c.if-branch.false in
    let fault = errors.Fault c.in-Err-Fault.fault in
    let refused : Refuses P c.keep.new.self c.args.piece.now fault = search (rules, c.in-Err-Fault.ensures.refused) in
    let read : feed P old.standing (old.kept ++ c.args.piece.now) ≡ fed_into [] c.stopped.result =
    subst (λ s. Refuses P s c.args.piece.now fault) same refused ∙ ap (fed_into []) (sym c.stopped.ensures) in
    joined_next P (c.feeds_join.ensures P g.met.F.WireSummary.real) old c.stopped.result c.args.piece.now
    c.are_bytes.ensures (Err fault) read
