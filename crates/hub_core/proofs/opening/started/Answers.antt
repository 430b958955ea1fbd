use Rattle.std.proofs.Common.{rules, ◌≡◌, length}
use Rattle.std.specs.Arc.{arc_value}
use Rattle.ends_core.specs.Sides.{peer_of}
use Rattle.hub_core.proofs.Opened.{taken-hello}
use Rattle.hub_core.proofs.opening.started.Goals as goal

pub returns-clause-knows : goal.returns-clause-knows
returns-clause-knows g c =
    let four : length g.F.WireSummary.profile.hello ≡ 4 = search rules in
    taken-hello g.F.WireSummary.summary g.F.WireSummary.profile
    (peer_of (arc_value c.args.accepted) (g.S.RangeStore.content c.args.store)) c.in-Ok.session c.make_due.new.self
    c.take.new.self c.args.said c.take.result c.in-Ok.ensures.begins.knows c.in_ok-make_due.ensures.made
    c.in_ok-make_due.ensures.knows c.take.ensures.count c.take.ensures.takes four c.requires.few
