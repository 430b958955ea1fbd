-- Which server is asked for which shard, and how many shards differ.
--     server_of asks s                         the place of the server that is asked for shard s, if one is
--     address_of asks addresses s              its address
--     Task, task s address log                 a shard, who is asked for it, and our log of it
--     task_at address s log                    the same, if somebody is asked
--     tasks_of asks addresses s logs           the same of these logs, the first of which is of shard s
--     is_unequal p                             of this shard one side lacks an item
use Rattle.std.specs.Prelude.{ℕ, ◌+◌, min, ◌==◌, Bool, true, false, ◌||◌, List, [], ◌∷◌, ◌++◌, find}
use Rattle.std.specs.Prelude.{Option, Some, None, option_map, option_and_then}
use Rattle.std.specs.List.{slice_get}
use Rattle.definitions.specs.Items.{Item}
use Rattle.shard_core.specs.declared.choice.Asked.{Asked}
use Rattle.shard_core.specs.declared.part.ShardPart.{ShardPart}
use Rattle.shard_core.specs.Parts.{ours_of, theirs_of}
use Rattle.version_log.specs.Logs.{LogState}

abbrev pub server_of : List Asked → ℕ → Option ℕ
server_of asks s = option_map (λ (one : Asked). one.server) (find (λ (one : Asked). one.shard == s) asks)

abbrev pub address_of : {A : Type 0} → List Asked → List A → ℕ → Option A
address_of asks addresses s = option_and_then (slice_get addresses) (server_of asks s)

pub record Task (A : Type 0) : Type 0 where
  pub number : ℕ
  pub address : A
  pub log : LogState

abbrev pub task : {A : Type 0} → ℕ → A → LogState → Task A
task s address log = record { number = s; address = address; log = log }

abbrev pub task_at : {A : Type 0} → Option A → ℕ → LogState → List (Task A)
task_at None s log = []
task_at (Some address) s log = task s address log ∷ []

-- the number stops at the greatest one
abbrev pub tasks_of : {A : Type 0} → List Asked → List A → ℕ → List LogState → List (Task A)
tasks_of asks addresses s [] = []
tasks_of asks addresses s (log ∷ logs) =
    task_at (address_of asks addresses s) s log ++ tasks_of asks addresses (min (s + 1) 65535) logs

abbrev pub has_some : List Item → Bool
has_some [] = false
has_some (x ∷ xs) = true

abbrev pub is_unequal : ShardPart → Bool
is_unequal p = has_some (ours_of p) || has_some (theirs_of p)
