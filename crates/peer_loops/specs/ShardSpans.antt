-- Which parts of a set a server keeps.
--     keeps first count which      of consecutive shards from the first on, so many: whether this part is kept
--     place_for first part         the place of this part among parts from the first on, if it may have one
use Rattle.std.specs.Prelude.{ℕ, ◌-◌, Bool, true, not, ◌&&◌, nat_lt, if◌then◌else◌, Option, Some, None}
use Rattle.shard_core.specs.declared.selector.Which.{Which}
use Rattle.shard_core.specs.declared.selector.Which.TheVariants.{Shard, Directory}

-- the directory is always there
abbrev pub keeps : ℕ → ℕ → Which → Bool
keeps first count (Shard s) = not (nat_lt s first) && nat_lt (s - first) count
keeps first count Directory = true

-- the directory has none: nothing is put into it
abbrev pub place_for : ℕ → Option Which → Option ℕ
place_for first None = None
place_for first (Some (Shard s)) = if nat_lt s first then None else Some (s - first)
place_for first (Some Directory) = None
