use Rattle.std.proofs.Common.{rules, ◌≡◌}
use Rattle.definitions.specs.Fingerprints.{two_lanes, counted_lanes, compact_prints}
use Rattle.definitions.specs.Wire.{two_lane_profile, counted_profile, compact_profile}
use Rattle.hub_core.specs.declared.phase.Phase.TheVariants as phases
use Rattle.hub_core.proofs.Peering.{session-goes}
use Rattle.hub_core.proofs.Leaving.{plain-leaves, counted-leaves, compact-leaves}
use Rattle.hub_core.proofs.Leaving.{plain-ends, counted-ends, compact-ends}
use Rattle.hub_core.proofs.phase.Phase.pump.Goals as goal

pub returns-in-Plain-clause-moved : goal.returns-in-Plain-clause-moved
returns-in-Plain-clause-moved g c =
    let is : c.args.self.now ≡ phases.Plain c.in-Plain.session = search rules in
    let same : c.deref_mut.result.now ≡ c.in-Plain.session.value = search rules in
    session-goes two_lanes two_lane_profile phases.Plain (λ c d read said on. on)
    c.pump-in-Plain.result c.args.self.now c.in-Plain.session c.deref_mut.result.now
    c.pump-in-Plain.new.session _ _ _ _ is same c.pump-in-Plain.ensures.moved

pub returns-in-Counted-clause-moved : goal.returns-in-Counted-clause-moved
returns-in-Counted-clause-moved g c =
    let is : c.args.self.now ≡ phases.Counted c.in-Counted.session = search rules in
    let same : c.deref_mut-in-Counted.result.now ≡ c.in-Counted.session.value = search rules in
    session-goes counted_lanes counted_profile phases.Counted (λ c d read said on. on)
    c.pump-in-Counted.result c.args.self.now c.in-Counted.session
    c.deref_mut-in-Counted.result.now c.pump-in-Counted.new.session _ _ _ _ is same
    c.pump-in-Counted.ensures.moved

pub returns-in-Compact-clause-moved : goal.returns-in-Compact-clause-moved
returns-in-Compact-clause-moved g c =
    let is : c.args.self.now ≡ phases.Compact c.in-Compact.session = search rules in
    let same : c.deref_mut-in-Compact.result.now ≡ c.in-Compact.session.value = search rules in
    session-goes compact_prints compact_profile phases.Compact (λ c d read said on. on)
    c.pump-in-Compact.result c.args.self.now c.in-Compact.session
    c.deref_mut-in-Compact.result.now c.pump-in-Compact.new.session _ _ _ _ is same
    c.pump-in-Compact.ensures.moved

pub returns-in-Plain-clause-leaves : goal.returns-in-Plain-clause-leaves
returns-in-Plain-clause-leaves g c =
    plain-leaves c.pump-in-Plain.result c.in-Plain.session c.pump-in-Plain.new.session _ _
    c.pump-in-Plain.ensures.stands c.pump-in-Plain.ensures.fails

pub returns-in-Counted-clause-leaves : goal.returns-in-Counted-clause-leaves
returns-in-Counted-clause-leaves g c =
    counted-leaves c.pump-in-Counted.result c.in-Counted.session c.pump-in-Counted.new.session _ _
    c.pump-in-Counted.ensures.stands c.pump-in-Counted.ensures.fails

pub returns-in-Compact-clause-leaves : goal.returns-in-Compact-clause-leaves
returns-in-Compact-clause-leaves g c =
    compact-leaves c.pump-in-Compact.result c.in-Compact.session c.pump-in-Compact.new.session _ _
    c.pump-in-Compact.ensures.stands c.pump-in-Compact.ensures.fails

pub returns-in-Plain-clause-over : goal.returns-in-Plain-clause-over
returns-in-Plain-clause-over g c =
    let same : c.deref_mut.result.now ≡ c.in-Plain.session.value = search rules in
    plain-ends c.pump-in-Plain.result c.args.self.now c.in-Plain.session c.deref_mut.result.now
    c.pump-in-Plain.new.session c.pump-in-Plain.new.reader.last (search rules) same c.pump-in-Plain.ensures.over

pub returns-in-Counted-clause-over : goal.returns-in-Counted-clause-over
returns-in-Counted-clause-over g c =
    let same : c.deref_mut-in-Counted.result.now ≡ c.in-Counted.session.value = search rules in
    counted-ends c.pump-in-Counted.result c.args.self.now c.in-Counted.session c.deref_mut-in-Counted.result.now
    c.pump-in-Counted.new.session c.pump-in-Counted.new.reader.last (search rules) same
    c.pump-in-Counted.ensures.over

pub returns-in-Compact-clause-over : goal.returns-in-Compact-clause-over
returns-in-Compact-clause-over g c =
    let same : c.deref_mut-in-Compact.result.now ≡ c.in-Compact.session.value = search rules in
    compact-ends c.pump-in-Compact.result c.args.self.now c.in-Compact.session c.deref_mut-in-Compact.result.now
    c.pump-in-Compact.new.session c.pump-in-Compact.new.reader.last (search rules) same
    c.pump-in-Compact.ensures.over
