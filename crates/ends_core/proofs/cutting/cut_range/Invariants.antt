use Rattle.std.proofs.Common.{◌≡◌, ◌++◌, drop}
use Rattle.std.specs.List.{AllByRecursion}
use Rattle.definitions.specs.Items.{cut_range, ranges_between, Rises}
use Rattle.ends_core.proofs.cutting.cut_range.Given as goal

-- the parts so far and those of the rest are all, and those of the rest rise
abbrev pub invariant-loop-bound : goal.invariant-loop-bound
invariant-loop-bound l = record {
  cut : l.parts.items ++ ranges_between l.lower (drop l.bound-index l.bounds) l.range.upper
      ≡ cut_range l.range l.bounds;
  rise : AllByRecursion Rises (ranges_between l.lower (drop l.bound-index l.bounds) l.range.upper);
}
