use Rattle.std.proofs.lemmas.Result.{err_from_is_err_and}
use Rattle.definitions.specs.Wire.{One_message}
use Rattle.wire_core.specs.Bodies.{fields_event}
use Rattle.wire_core.proofs.Read.{nothing_left, something_left}
use Rattle.wire_core.proofs.reading.fields_in.Goals as goal

pub returns-in_err-ends : goal.returns-in_err-ends
returns-in_err-ends g c =
    let p = err_from_is_err_and c.from_residual-in_err-ends.result c.from_residual-in_err-ends.ensures.1 in
    rw (p.1, p.2, c.in_err-ends.ensures.trailing.0)
    (something_left g.F.WireSummary.profile One_message c.args.body.now c.in_ok-kind.kind _
    (fields_event c.in_ok-fields.fields) _ c.in_ok-kind.ensures c.in_ok-fields.ensures c.in_err-ends.ensures.trailing.1)

pub returns : goal.returns
returns g c =
    nothing_left g.F.WireSummary.profile One_message c.args.body.now c.in_ok-kind.kind _
    (fields_event c.in_ok-fields.fields) _ c.in_ok-kind.ensures c.in_ok-fields.ensures c.in_ok-ends.ensures.ok
