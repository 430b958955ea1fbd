use Rattle.std.proofs.Common.{sym, subst}
use Rattle.peer_threads.specs.Outcomes.{traffic_of, seen}
use Rattle.peer_threads.specs.Underway.{Spoke, Talked}
use Rattle.peer_threads.proofs.Endings.{stopped-speaks}
use Rattle.peer_threads.proofs.ending.concluded.Goals as goal

pub returns-in-Err-clause-bytes : goal.returns-in-Err-clause-bytes
returns-in-Err-clause-bytes g c = λ s bound unread left held r x few.
    let t = traffic_of unread left held (g.W.Write.contents c.args.writer.now.inner) in
    let holds = g.W.Write.contents c.stopped.new.writer.inner in
    let w = seen c.stopped.new.writer.failed c.stopped.new.writer.ended in
    let why = subst (λ y. Talked g.F.WireSummary.summary g.F.WireSummary.profile s c.args.party.end
    c.args.sender t r c.args.writer.now.failed y)
    c.in-Err.is x in
    subst (λ o. Spoke g.F.WireSummary.summary g.F.WireSummary.profile s c.args.version bound
    (traffic_of unread left held holds) r w o) (sym c.stopped.ensures.outcome)
    (stopped-speaks g.F.WireSummary.summary g.F.WireSummary.profile s c.args.version bound c.args.sender t holds r w
    c.args.writer.now.failed c.in-Err.stop why
    c.stopped.ensures.leaves few)
