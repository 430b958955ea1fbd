use Rattle.std.proofs.Common.{rules, ◌≡◌}
use Rattle.hub_core.specs.declared.phase.Phase.TheVariants as phases
use Rattle.hub_core.proofs.Peering.{plain-bound, counted-bound, compact-bound}
use Rattle.hub_core.proofs.phase.Phase.bound.Goals as goal

pub returns-in-Plain : goal.returns-in-Plain
returns-in-Plain c =
    let is : c.args.self.now ≡ phases.Plain c.in-Plain.session = search rules in
    let same : c.deref.result.now ≡ c.in-Plain.session.value = search rules in
    plain-bound c.bound.result c.args.self.now c.in-Plain.session c.deref.result.now is same c.bound.ensures

pub returns-in-Counted : goal.returns-in-Counted
returns-in-Counted c =
    let is : c.args.self.now ≡ phases.Counted c.in-Counted.session = search rules in
    let same : c.deref-in-Counted.result.now ≡ c.in-Counted.session.value = search rules in
    counted-bound c.bound-in-Counted.result c.args.self.now c.in-Counted.session c.deref-in-Counted.result.now is same
    c.bound-in-Counted.ensures

pub returns-in-Compact : goal.returns-in-Compact
returns-in-Compact c =
    let is : c.args.self.now ≡ phases.Compact c.in-Compact.session = search rules in
    let same : c.deref-in-Compact.result.now ≡ c.in-Compact.session.value = search rules in
    compact-bound c.bound-in-Compact.result c.args.self.now c.in-Compact.session c.deref-in-Compact.result.now is same
    c.bound-in-Compact.ensures
