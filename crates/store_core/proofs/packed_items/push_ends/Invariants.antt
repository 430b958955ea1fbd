use Rattle.std.proofs.Common.{◌≡◌, ◌+◌, ◌≤◌, ◌++◌, length, take, map, vec_len, vec_capacity}
use Rattle.store_core.proofs.packed_items.push_ends.Given as goal

abbrev pub invariant-loop-end : goal.invariant-loop-end
invariant-loop-end l = record {
  ends : l.ends.items ≡ l.fn.ends.items ++ map (λ end. l.from + end) (take l.end-index l.others);
  room : vec_len l.ends + length l.others ≤ vec_capacity l.ends + l.end-index;
}
