use Rattle.std.proofs.Common.{◌≡◌, length}
use Rattle.item_files.specs.ItemFiles.{without_front}
use Rattle.item_files.proofs.item_file.without_front.Given as goal

abbrev pub invariant-loop-first : goal.invariant-loop-first
invariant-loop-first l = without_front l.rest ≡ without_front l.line

abbrev pub decreases-loop-first : goal.decreases-loop-first
decreases-loop-first l = length l.rest
