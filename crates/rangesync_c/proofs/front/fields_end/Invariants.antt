use Rattle.std.proofs.Common.{◌≡◌, ◌+◌, ◌*◌, ◌≤◌, length, drop}
use Rattle.std.specs.Prelude.{sum}
use Rattle.shard_core.specs.Fronts.{after_fields}
use Rattle.rangesync_c.proofs.front.fields_end.Given as goal

abbrev pub invariant-loop-more : goal.invariant-loop-more
invariant-loop-more l =
    (after_fields l.place (drop l.more-index l.fields) l.bytes ≡ after_fields 4 l.fields l.bytes)
    × (l.place + (65 * length (drop l.more-index l.fields) + sum (drop l.more-index l.fields)) ≤ 202)
