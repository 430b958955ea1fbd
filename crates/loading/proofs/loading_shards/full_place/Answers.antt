use Rattle.std.proofs.Common.{rules}
use Rattle.loading.proofs.Room.{room_for_one}
use Rattle.loading.proofs.loading_shards.full_place.Goals as goal

pub loop-place-preserved : goal.loop-place-preserved
loop-place-preserved c = room_for_one c.args.shards.now c.loop-place.place c.args.cap c.index-shards-place.result
    c.loop-place-test.true c.index-shards-place.is (search rules) c.loop-place.invariant
