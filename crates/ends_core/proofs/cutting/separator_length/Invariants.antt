use Rattle.std.proofs.Common.{◌≡◌, ◌++◌, take, drop}
use Rattle.definitions.specs.Items.{separator}
use Rattle.ends_core.proofs.cutting.separator_length.Given as goal

-- so far both have the same bytes
abbrev pub invariant-loop-place : goal.invariant-loop-place
invariant-loop-place l =
    take l.place l.item ++ separator (drop l.place l.before) (drop l.place l.item) ≡ separator l.before l.item
