use Rattle.std.proofs.Common.{◌++◌, ◌∙◌, ap, Some}
use Rattle.shard_core.specs.Selectors.{selector_text}
use Rattle.shard_core.specs.Fronts.{passed_on}
use Rattle.shard_core.proofs.Taken.{taken_off}
use Rattle.shard_core.proofs.after_selector.AfterSelector.new.Goals as goal

pub returns-clause-off : goal.returns-clause-off
returns-clause-off g c = λ name b w X later short is.
    ap (λ s. passed_on s (Some (selector_text name b w X ++ later))) c.at_start.ensures
    ∙ ap Some (taken_off name b w X later short is)
