use Rattle.std.proofs.Common.{◌≡◌, ◌<◌, ◌≤◌, ◌++◌, true, take, drop, length, rules, arith}
use Rattle.definitions.specs.CompactReading.{goes_above}
use Rattle.compact_core.proofs.Readings.{after_joined}
use Rattle.compact_core.proofs.bound.take_bound.Goals as goal

pub returns-clause-after : goal.returns-clause-after
returns-clause-after c =
    let some : 0 < length c.in_ok-rest.rest.now =
    omega (arith, c.in_ok-length.ensures.some c.requires, c.in_ok-rest.ensures.length) in
    after_joined c.args.before.now c.in_ok-share.share c.split_at.result.0.now c.split_at.result.1.now
    c.in_ok-rest.rest.now c.joined.result (search rules) (search rules) (search rules) (search rules) some
    c.joined.ensures
