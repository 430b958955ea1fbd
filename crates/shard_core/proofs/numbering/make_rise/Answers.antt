use Rattle.std.proofs.Common.{◌∙◌}
use Rattle.std.proofs.lemmas.List.Filters.{dedup_is}
use Rattle.definitions.specs.Items.{same_item}
use Rattle.store_core.proofs.Made.{sorted_is_set_of}
use Rattle.shard_core.proofs.numbering.make_rise.Goals as goal

pub returns : goal.returns
returns c = dedup_is same_item _ _ c.dedup.ensures.filtered
    ∙ sorted_is_set_of _ _ c.sort_unstable.ensures.permutation c.sort_unstable.ensures.sorted
