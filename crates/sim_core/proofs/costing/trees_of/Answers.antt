use Rattle.std.proofs.Common.{◌∙◌, sym, subst}
use Rattle.definitions.specs.Sets.{IsSet}
use Rattle.sim_core.proofs.Spans.{fit, made_alike}
use Rattle.sim_core.proofs.costing.trees_of.Goals as goal

pub returns-clause-made : goal.returns-clause-made
returns-clause-made c = made_alike c.args.sample _ _ _ _ c.in_ok-theirs.ensures.made
    (c.in_ok-theirs-2.ensures ∙ c.deref.ensures.value) (c.in_ok-ours.ensures ∙ c.deref-2.ensures.value)

pub returns-clause-rise : goal.returns-clause-rise
returns-clause-rise c =
    let one = c.in_ok-theirs-2.ensures ∙ c.deref.ensures.value in
    let two = c.in_ok-ours.ensures ∙ c.deref-2.ensures.value in
    (subst IsSet (sym one) c.in_ok-theirs.ensures.rise.0, subst IsSet (sym two) c.in_ok-theirs.ensures.rise.1)

pub returns-clause-few : goal.returns-clause-few
returns-clause-few c = fit c.args.sample _ _ (returns-clause-made c)
