use Rattle.hub_core.proofs.Opened.{made-then}
use Rattle.hub_core.proofs.opening.finish_if.Goals as goal

pub returns-then-over-clause-knows : goal.returns-then-over-clause-knows
returns-then-over-clause-knows g c =
    made-then g.F.WireSummary.summary g.F.WireSummary.profile c.make_due.result c.args.session.now c.finish.new.self
    c.make_due.new.self c.finish.ensures.knows c.make_due.ensures.knows

pub returns-clause-knows : goal.returns-clause-knows
returns-clause-knows g c =
    made-then g.F.WireSummary.summary g.F.WireSummary.profile c.make_due-2.result c.args.session.now c.args.session.now
    c.make_due-2.new.self (λ s pushed taken live k. k) c.make_due-2.ensures.knows
