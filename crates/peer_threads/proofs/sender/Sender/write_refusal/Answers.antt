use Rattle.std.proofs.Common.{rules}
use Rattle.definitions.specs.Wire.{fault_text}
use Rattle.peer_threads.proofs.Beginnings.{begins-front, begins-after, if_err}
use Rattle.peer_threads.specs.Senders.{hello_due}
use Rattle.peer_threads.proofs.sender.Sender.write_refusal.Goals as goal

pub returns-in_err-greet-clause-front : goal.returns-in_err-greet-clause-front
returns-in_err-greet-clause-front g c =
    let part = c.in_err-greet.ensures.front in
    let front = begins-front _ _ (hello_due g.F.WireSummary.profile c.args.self) (fault_text c.args.code)
    (part.0, part.2) in
    search (rules, front)

pub returns-clause-front : goal.returns-clause-front
returns-clause-front g c =
    let front = if_err c.write_output.result
    (λ part. begins-after _ _ _
    (hello_due g.F.WireSummary.profile c.args.self) c.encode_fault.result c.in_ok-greet.ensures.whole (part.0, part.2))
    c.write_output.ensures.front in
    search (rules, front)
