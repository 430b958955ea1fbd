use Rattle.std.proofs.Common.{◌≡◌, sym, ◌∙◌}
use Rattle.std.specs.Prelude.{true}
use Rattle.laws.specs.Growing.{is_even}
use Rattle.world_core.proofs.session.RunSession.deliver.Goals as goal

pub returns-then-is_even-clause-session : goal.returns-then-is_even-clause-session
returns-then-is_even-clause-session g c =
    let t : is_even c.args.self.now.delivered ≡ true = sym c.is_even.ensures ∙ c.if-is_even.true in
    rw t (c.deliver_to_responder.ensures.session)
