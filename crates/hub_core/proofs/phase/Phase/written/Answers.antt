use Rattle.std.proofs.Common.{rules, ◌≡◌}
use Rattle.definitions.specs.Engines.{responding}
use Rattle.definitions.specs.Fingerprints.{two_lanes, counted_lanes, compact_prints}
use Rattle.hub_core.specs.declared.phase.Phase.TheVariants as phases
use Rattle.hub_core.proofs.Peering.{plain-writes, counted-writes, compact-writes}
use Rattle.hub_core.proofs.phase.Phase.written.Goals as goal

pub returns-in-Plain-clause-whole : goal.returns-in-Plain-clause-whole
returns-in-Plain-clause-whole c =
    let is : c.args.self.now ≡ phases.Plain c.in-Plain.session = search rules in
    let same : c.deref.result.now ≡ c.in-Plain.session.value = search rules in
    plain-writes c.written.result c.args.self.now c.in-Plain.session c.deref.result.now is same
    (λ P pushed taken k. c.written.ensures.whole (responding two_lanes P) pushed taken k)

pub returns-in-Counted-clause-whole : goal.returns-in-Counted-clause-whole
returns-in-Counted-clause-whole c =
    let is : c.args.self.now ≡ phases.Counted c.in-Counted.session = search rules in
    let same : c.deref-in-Counted.result.now ≡ c.in-Counted.session.value = search rules in
    counted-writes c.written-in-Counted.result c.args.self.now c.in-Counted.session c.deref-in-Counted.result.now is
    same (λ P pushed taken k. c.written-in-Counted.ensures.whole (responding counted_lanes P) pushed taken k)

pub returns-in-Compact-clause-whole : goal.returns-in-Compact-clause-whole
returns-in-Compact-clause-whole c =
    let is : c.args.self.now ≡ phases.Compact c.in-Compact.session = search rules in
    let same : c.deref-in-Compact.result.now ≡ c.in-Compact.session.value = search rules in
    compact-writes c.written-in-Compact.result c.args.self.now c.in-Compact.session c.deref-in-Compact.result.now is
    same (λ P pushed taken k. c.written-in-Compact.ensures.whole (responding compact_prints P) pushed taken k)
