use Rattle.std.proofs.Common.{◌≡◌, ◌-◌, ◌<◌, drop}
use Rattle.range_tree.specs.Heads.{number_from, head_number}
use Rattle.range_tree.proofs.Numbers.{room}
use Rattle.range_tree.proofs.heads.head_of.Given as goal

-- the number so far, and the bytes that are left
abbrev pub invariant-loop-place : goal.invariant-loop-place
invariant-loop-place l = record {
  number : number_from (8 - l.place) l.number (drop l.place l.bytes) ≡ head_number l.bytes;
  fits : l.number < room l.place;
}
