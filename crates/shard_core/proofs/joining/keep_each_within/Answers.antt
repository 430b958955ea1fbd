use Rattle.std.proofs.Common.{◌≡◌, length, arith}
use Rattle.std.proofs.lemmas.List.{length-map}
use Rattle.shard_core.specs.Floors.{kept_by}
use Rattle.shard_core.specs.Splits.{held}
use Rattle.shard_core.proofs.Joins.{listed}
use Rattle.shard_core.proofs.Within.{with_more}
use Rattle.shard_core.proofs.joining.keep_each_within.Goals as goal

pub loop-place-preserved : goal.loop-place-preserved
loop-place-preserved c =
    let many : length (held c.args.lists.now) ≡ length c.args.lists.now = length-map c.args.lists.now listed in
    with_more (kept_by c.args.floor.now) (held c.args.lists.now) c.loop-place.lists c.loop-place.place
    c.index-lists-place.result c.keep_within.new.items (omega (arith, many)) (omega arith) c.loop-place.invariant
    c.index-lists-place.is c.keep_within.ensures
