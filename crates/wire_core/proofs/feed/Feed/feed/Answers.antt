use Rattle.std.proofs.Common.{rules}
use Rattle.definitions.specs.Items.{IsBytes}
use Rattle.laws.proofs.Fields.{IsBytes-both}
use Rattle.wire_core.specs.Events.{event_values}
use Rattle.wire_core.proofs.Held.{held_joined, held_means, unless_so}
use Rattle.wire_core.proofs.feed.Feed.feed.Goals as goal

pub returns-clause-means : goal.returns-clause-means
returns-clause-means g c =
    let exact = c.feed_is_exact.ensures g.F.WireSummary.profile g.met.F.WireSummary.real in
    let kept : IsBytes c.args.self.now.kept = search (rules, c.are_bytes.ensures) in
    let fits = IsBytes-both c.args.self.now.kept c.args.piece.now kept c.are_bytes-2.ensures in
    unless_so c.read.result _ _
    (held_means g.F.WireSummary.profile exact c.args.self.now.standing _ fits c.args.out.now.items c.read.new.out.items
    c.read.new.self)
    c.read.ensures.fed

pub returns-clause-joined : goal.returns-clause-joined
returns-clause-joined g c =
    let join = c.feeds_join.ensures g.F.WireSummary.profile g.met.F.WireSummary.real in
    unless_so c.read.result _ _
    (held_joined g.F.WireSummary.profile join c.args.self.now c.args.piece.now c.are_bytes-2.ensures
    (event_values c.args.out.now.items) (event_values c.read.new.out.items) c.read.new.self)
    c.read.ensures.fed
