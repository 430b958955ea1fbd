use Rattle.ends_core.proofs.KeptBounds.{first_keeps, second_keeps}
use Rattle.ends_core.proofs.bounds.sides_keep_bounds.Goals as goal

pub returns-clause-initiator : goal.returns-clause-initiator
returns-clause-initiator g c = λ items bytes set are room. first_keeps g.F.WireSummary.summary g.F.WireSummary.profile
    c.bound_laws.ensures c.args.accepted.now items bytes c.cap.ensures.checked set are room

pub returns-clause-responder : goal.returns-clause-responder
returns-clause-responder g c = λ items bytes set are room. second_keeps g.F.WireSummary.summary g.F.WireSummary.profile
    c.bound_laws.ensures c.args.accepted.now items bytes c.cap.ensures.checked set are room
