use Rattle.shard_core.proofs.Numbers.{number_below}
use Rattle.shard_core.proofs.Cut.{has_shard, set_shard, union_of_shards}
use Rattle.shard_core.proofs.shard_laws.shards_make_the_set.Goals as goal

pub returns : goal.returns
returns c = record {
  within = λ b x low. number_below b x low;
  has = has_shard;
  sets = set_shard;
  union = union_of_shards;
}
