use Rattle.peer_threads.specs.Workers.{says}
use Rattle.peer_threads.proofs.Puttings.{settled, settled_own}
use Rattle.peer_threads.proofs.worker.settle.Goals as goal

pub returns-clause-put : goal.returns-clause-put
returns-clause-put g c =
    settled (says (g.G.Gate.lets_in c.args.shared.now.gate.now) (g.G.Gate.floors c.args.shared.now.gate.now))
    c.args.harvest.own c.floor.result c.args.harvest.learned.now.theirs
    c.theirs-theirs.result.now c.args.seat.now.view c.add_first-dropped.new.seat.view c.args.harvest.serial
    c.len-count.result c.admits.result c.count_of_first-admitted.result c.add_first-dropped.result
    c.theirs-theirs.ensures c.len-count.ensures c.admits.ensures c.floor.ensures
    c.count_of_first-admitted.ensures.first c.count_of_first-admitted.ensures.size c.add_first-dropped.ensures.put

pub returns-clause-own : goal.returns-clause-own
returns-clause-own g c =
    settled_own (says (g.G.Gate.lets_in c.args.shared.now.gate.now) (g.G.Gate.floors c.args.shared.now.gate.now))
    c.args.harvest.serial c.args.harvest.own c.args.harvest.learned.now.theirs c.args.seat.now.view
    c.add_first-dropped.new.seat.view _ (returns-clause-put g c)
