use Rattle.std.proofs.Common.{rules, ◌≡◌, ◌∙◌, ◌^◌}
use Rattle.std.proofs.Common.{refl, replicate, None}
use Rattle.shard_core.proofs.Lists.{replicate_is}
use Rattle.shard_core.proofs.directory.counts_of.Goals as goal

pub loop-item-init : goal.loop-item-init
loop-item-init c =
    let made : c.in_ok-counts.counts.items ≡ replicate c.shard_count.result None = search rules in
    record {
      counts = made ∙ replicate_is None c.shard_count.result (2 ^ c.args.bits) c.shard_count.ensures.count;
      good = refl;
    }
