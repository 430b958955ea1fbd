use Rattle.std.proofs.Common.{◌≡◌, length}
use Rattle.item_files.specs.ItemFiles.{without_end}
use Rattle.item_files.proofs.item_file.without_end.Given as goal

abbrev pub invariant-loop-last : goal.invariant-loop-last
invariant-loop-last l = without_end l.rest ≡ without_end l.line

abbrev pub decreases-loop-last : goal.decreases-loop-last
decreases-loop-last l = length l.rest
