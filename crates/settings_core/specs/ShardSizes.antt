-- Into how many shards a set is best cut.
--     doublings n room b more    how often a room is doubled until n items have room in it: b times before, and at most
--                                so many times more
--     bits_for n                 the bits of n items: 0 up to 65,536; else the least so that 64,000 items in each shard
--                                are enough, if 12 are
use Rattle.std.specs.Prelude.{ℕ, zero, suc, ◌+◌, ◌*◌, nat_le, if◌then◌else◌, Option, Some, None}

abbrev pub doublings : ℕ → ℕ → ℕ → ℕ → Option ℕ
doublings items room bits zero = if nat_le items room then Some bits else None
doublings items room bits (suc more) =
    if nat_le items room then Some bits else doublings items (room * 2) (bits + 1) more

abbrev pub bits_for : ℕ → Option ℕ
bits_for items = if nat_le items 65536 then Some 0 else doublings items 64000 0 12
