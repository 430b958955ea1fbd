-- The numbers that words may give.
--     AreInSpan c            the numbers of the command are in their spans; and `serve` is given ITEMS, a file to keep,
--                            or both
--     IsWithin least most n  the number is in this span
--     IsAnyGiven x y         one of the two is given, or both are
use Rattle.std.specs.Prelude.{ℕ, ◌≤◌, IfSome, Option, Some, None, ⊤}
use Rattle.settings_core.specs.declared.commands.Command.{Command}
use Rattle.settings_core.specs.declared.commands.Command.TheVariants.{Answer, Check, Plan, Sim, Serve, Sync}
use Rattle.settings_core.specs.declared.commands.Command.TheVariants.{Put, News, Stop, Status}

abbrev pub IsWithin : ℕ → ℕ → ℕ → Type 0
IsWithin least most n = (least ≤ n) × (n ≤ most)

abbrev pub IsWorkerCount : ℕ → Type 0
IsWorkerCount n = IsWithin 1 16 n

-- how many items a set has
abbrev pub IsItemCount : ℕ → Type 0
IsItemCount n = IsWithin 1 65536 n

-- how many items a set has that is planned: 64,000 in each of 4,096 shards at most
abbrev pub IsPlannedCount : ℕ → Type 0
IsPlannedCount n = IsWithin 1 262144000 n

-- bytes of an item
abbrev pub IsItemLength : ℕ → Type 0
IsItemLength n = IsWithin 4 64 n

-- megabits in a second
abbrev pub IsRate : ℕ → Type 0
IsRate n = IsWithin 1 100000 n

-- a set is cut into 2 to this power shards
abbrev pub IsShardBits : ℕ → Type 0
IsShardBits n = IsWithin 0 12 n

-- one of the two, or both
abbrev pub IsAnyGiven : {X Y : Type 0} → Option X → Option Y → Type 0
IsAnyGiven None None = ⊥
IsAnyGiven None (Some y) = ⊤
IsAnyGiven (Some x) y = ⊤

abbrev pub AreInSpan : Command → Type 0
AreInSpan (Answer w) = ⊤
AreInSpan (Check w) = IfSome w.items IsItemCount × IfSome w.item_length IsItemLength
AreInSpan (Plan w) = IfSome w.items IsPlannedCount × IfSome w.differences (IsWithin 0 262144000)
    × IfSome w.item_length IsItemLength × IfSome w.round_trip (IsWithin 0 60000) × IfSome w.rate IsRate
    × IfSome w.search (IsWithin 1 3600)
AreInSpan Sim = ⊤
AreInSpan (Serve w) = IfSome w.shards IsShardBits × IsWorkerCount w.workers × IfSome w.sessions (IsWithin 1 1000000)
    × IsWithin 1 86400 w.patience × IsWithin 1024 4294967295 w.most_bytes × IfSome w.peers (IsWithin 1 65535)
    × IfSome w.peers_of_one (IsWithin 1 65535) × IfSome w.session_seconds (IsWithin 1 604800)
    × IfSome w.memory (IsWithin 1 1048576) × IfSome w.most_learned (IsWithin 1 4294967295)
    × IfSome w.report_items (IsWithin 0 4294967295) × IfSome w.every (IsWithin 1 86400) × IsAnyGiven w.keep w.items
AreInSpan (Sync w) = IfSome w.shards IsShardBits × IfSome w.at_once (IsWithin 1 64) × IsWithin 1 86400 w.patience
    × IsWithin 1024 4294967295 w.most_bytes × IfSome w.retry (IsWithin 0 1000)
AreInSpan (Put w) = ⊤
AreInSpan (News w) = IfSome w.after (IsWithin 0 4294967295)
AreInSpan (Stop w) = ⊤
AreInSpan (Status w) = ⊤
