use Rattle.std.proofs.Common.{length, ◌-◌, take, ◌≤◌}
use Rattle.loading.specs.Folders.{Lifts, Writes}
use Rattle.loading.proofs.replacing.write_beside.Given as goal

-- what was taken so far is in the new file
abbrev pub invariant-appends : goal.invariant-appends
invariant-appends g l = record {
  within : l.written ≤ length l.text;
  writes : Lifts (Writes (take l.written l.text)) (g.F.Folder.state l.fn.folder) (g.F.Folder.state l.folder);
}

abbrev pub decreases-appends : goal.decreases-appends
decreases-appends g l = length l.text - l.written
