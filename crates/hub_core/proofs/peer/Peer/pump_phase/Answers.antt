use Rattle.std.proofs.Common.{rules, ◌≡◌, ◌∙◌, Err, subst}
use Rattle.std.specs.Io.Take.{take_remaining}
use Rattle.hub_core.specs.Peers.{PeerState, GoesSo}
use Rattle.hub_core.proofs.peer.Peer.pump_phase.Goals as goal

pub returns-in_err-step-clause-moved : goal.returns-in_err-step-clause-moved
returns-in_err-step-clause-moved g c =
    let is : c.from_residual.result ≡ Err c.in_err-step.field-0.0 = search rules in
    let R = g.I.Read.remaining in
    let W = g.O.Write.contents in
    rw is (subst (λ (p : PeerState g.row.I.Denot g.row.O.Denot). GoesSo p.phase c.pump.new.self
    (take_remaining R p.reader.way) (take_remaining R c.pump.new.reader.way) (W p.writer.way) (W c.pump.new.writer.way)
    (Err c.in_err-step.field-0.0)) (c.self.view_is ∙ c.wake.ensures)
    c.in_err-step.ensures.moved)

pub returns-in_err-step-clause-leaves : goal.returns-in_err-step-clause-leaves
returns-in_err-step-clause-leaves g c =
    let is : c.from_residual.result ≡ Err c.in_err-step.field-0.0 = search rules in
    rw is c.in_err-step.ensures.leaves
