-- No file, no items.
use Rattle.std.proofs.Common.{subst, sym}
use Rattle.loading.specs.Cutting.{IsCutTo}
use Rattle.loading.proofs.CutSets.{cut_none}
use Rattle.loading.proofs.loading.kept_set.Goals as goal

pub returns-in_default : goal.returns-in_default
returns-in_default g c =
    subst (IsCutTo c.args.sources.kept.now) (sym c.new.ensures.items) (cut_none c.args.sources.kept.now)
