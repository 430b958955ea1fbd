use Rattle.std.proofs.Common.{◌∙◌}
use Rattle.item_core.proofs.Found.{found_is}
use Rattle.item_core.proofs.listed.is_listed.Goals as goal

pub returns : goal.returns
returns c =
    c.is_ok.ensures.value ∙ found_is _ _ _ c.requires c.binary_search.ensures.bound c.binary_search.ensures.position
