use Rattle.std.proofs.Common.{rules, ◌≤◌, length}
use Rattle.std.specs.Arc.{arc_value}
use Rattle.peer_threads.specs.Workers.{says}
use Rattle.peer_loops.proofs.Untold.{none_settled}
use Rattle.peer_loops.proofs.desk.Desk.put_in_by.Goals as goal

pub returns-in-Ended-clause-put : goal.returns-in-Ended-clause-put
returns-in-Ended-clause-put g c = rw c.in-Ended.is (c.settle-left_out.result, c.settle-left_out.ensures.put)

pub returns-in-Ended-clause-news : goal.returns-in-Ended-clause-news
returns-in-Ended-clause-news g c = λ off.
    let many : length c.in-Ended.learned.theirs ≤ c.settle-left_out.result = search (rules, off) in
    none_settled (says (g.G.Gate.lets_in c.args.common.now.gate.now) (g.G.Gate.floors c.args.common.now.gate.now))
    c.args.serial (arc_value c.args.self.now.part).own c.in-Ended.learned.theirs c.args.self.now.seat.view
    c.settle-left_out.new.self.seat.view c.settle-left_out.result c.settle-left_out.ensures.put many
