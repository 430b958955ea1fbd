use Rattle.peer_threads.proofs.worker.serve.Goals as goal

pub returns-in-Some-clause-served : goal.returns-in-Some-clause-served
returns-in-Some-clause-served g c =
    let taught = c.in-Some.ensures.taught in
    (c.talk_to.new.seat.view, c.talk_to.ensures.looked, _, taught.2, (_, _, c.settle-left_out.ensures.put))
