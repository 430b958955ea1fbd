-- Some shards of a set, from one number on, each with its log. A set that is not cut is its only shard.
--     Sharded             the number of bits that the set is cut by, the first number, the cap, and the logs
--     AreSets cap Xs      each of these is a set of items, with room for them
--     opened_all cap Xs   their logs as they are opened
--     HaveCap cap ls      each log has this cap
--     contents ls         the items of each log
use Rattle.std.specs.Prelude.{◌≡◌, ⊤, ℕ, ◌≤◌, List, [], ◌∷◌, length, map}
use Rattle.std.specs.List.{AllByRecursion}
use Rattle.definitions.specs.Items.{Item}
use Rattle.definitions.specs.Sets.{IsSet}
use Rattle.definitions.specs.Histories.{content}
use Rattle.version_log.specs.Logs.{LogState, opened}

pub record Sharded : Type 0 where
  pub bits : ℕ
  pub first : ℕ
  pub cap : ℕ
  pub logs : List LogState

abbrev pub AreSets : ℕ → List (List Item) → Type 0
AreSets cap [] = ⊤
AreSets cap (X ∷ Xs) = IsSet X × (length X ≤ cap) × AreSets cap Xs

abbrev pub opened_all : ℕ → List (List Item) → List LogState
opened_all cap Xs = map (λ X. opened cap X 1) Xs

abbrev pub HaveCap : ℕ → List LogState → Type 0
HaveCap cap ls = AllByRecursion (λ l. l.cap ≡ cap) ls

abbrev pub contents : List LogState → List (List Item)
contents ls = map (λ l. content l.history) ls
