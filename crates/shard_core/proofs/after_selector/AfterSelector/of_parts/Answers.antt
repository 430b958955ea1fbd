use Rattle.std.proofs.Common.{◌++◌, ◌∙◌, ap, Some}
use Rattle.shard_core.specs.declared.after_selector.KindsTaken.TheVariants.{Parts}
use Rattle.shard_core.specs.Selectors.{selector_text}
use Rattle.shard_core.specs.Fronts.{passed_on}
use Rattle.shard_core.proofs.Taken.{part_off}
use Rattle.shard_core.proofs.after_selector.AfterSelector.of_parts.Goals as goal

pub returns-clause-off : goal.returns-clause-off
returns-clause-off g c = λ name b w X later short is part.
    ap (λ s. passed_on s (Some (selector_text name b w X ++ later))) c.at_start.ensures
    ∙ ap Some (part_off Parts name b w X later short is part)
