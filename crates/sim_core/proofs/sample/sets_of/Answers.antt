use Rattle.std.proofs.Common.{rules, arith, ◌≡◌, ◌≤◌, ◌-◌, ◌∙◌, ap, length}
use Rattle.definitions.specs.Sets.{set_of}
use Rattle.sim_core.specs.Samples.{AreMade, theirs_of, ours_of, items_from}
use Rattle.sim_core.proofs.Spans.{are_made, fit}
use Rattle.sim_core.proofs.sample.sets_of.Goals as goal

pub returns-clause-made : goal.returns-clause-made
returns-clause-made c =
    let s = c.args.sample in
    let whole : s.items - 0 ≡ s.items = omega arith in
    let one : c.in_ok-theirs.theirs.items ≡ theirs_of s =
    c.in_ok-theirs.ensures ∙ ap (λ k. set_of (items_from s.length 0 k)) whole in
    let two : c.in_ok-ours.ours.items ≡ ours_of s = c.in_ok-ours.ensures in
    are_made s c.in_ok-theirs.theirs.items c.in_ok-ours.ours.items c.requires one two

pub returns-clause-few : goal.returns-clause-few
returns-clause-few c = fit c.args.sample c.in_ok-theirs.theirs.items c.in_ok-ours.ours.items (returns-clause-made c)
