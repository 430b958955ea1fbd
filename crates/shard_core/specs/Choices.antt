-- Which server is asked for which shard, after the directories of all servers were learned. Of each server `us` has the
-- shards whose entries in its directory and in ours are not the same.
--     has_shard us s                this server has shard s, where we have it
--     differs us s                  and its entry differs from ours
--     found_list o                  the server that was found so far, if one was
--     holders ds s                  the servers that have shard s, by their places
--     asked_at ds s                 who is asked for shard s
--     chosen ds first last          who is asked for which of the shards from one number to another
--     AreBelow n asks               who is asked is one of n servers
--     HasOne ds s                   one server alone has it
--     IsUnchosen ds first last e    a fault names the first shard that no server has, or two; memory runs out at one
--                                   that one server alone has, as each before it
use Rattle.std.specs.Prelude.{◌≡◌, ℕ, ◌+◌, ◌<◌, ◌≤◌, Bool, not, ◌&&◌, ◌==◌, List, [], ◌∷◌, length, map, filter}
use Rattle.std.specs.Prelude.{flat_map}
use Rattle.std.specs.Prelude.{is_some, get_or, if◌then◌else◌, Vec, Option, Some, None}
use Rattle.std.specs.declared.alloc.Global.{Global}
use Rattle.std.specs.List.{AllByRecursion, list_any}
use Rattle.shard_core.specs.declared.unequal.Unequal.{Unequal}
use Rattle.shard_core.specs.declared.choice.Asked.{Asked}
use Rattle.shard_core.specs.declared.choice.ChoiceFault.{ChoiceFault}
use Rattle.shard_core.specs.declared.choice.ChoiceFault.TheVariants.{NoServer, TwoServers, Memory}
use Rattle.shard_core.specs.Spans.{span}

abbrev pub is_lacked : ℕ → Unequal → Bool
is_lacked s u = (u.number == s) && not (is_some u.theirs)

abbrev pub is_unequal : ℕ → Unequal → Bool
is_unequal s u = (u.number == s) && is_some u.theirs

abbrev pub has_shard : List Unequal → ℕ → Bool
has_shard us s = not (list_any (is_lacked s) us)

abbrev pub differs : List Unequal → ℕ → Bool
differs us s = list_any (is_unequal s) us

abbrev pub told : List (Vec Unequal Global) → List (List Unequal)
told vs = map (λ v. v.items) vs

abbrev pub found_list : Option ℕ → List ℕ
found_list None = []
found_list (Some j) = j ∷ []

-- from place j on
abbrev pub holders_from : ℕ → List (List Unequal) → ℕ → List ℕ
holders_from j [] s = []
holders_from j (us ∷ ds) s =
    if has_shard us s then j ∷ holders_from (j + 1) ds s else holders_from (j + 1) ds s

abbrev pub holders : List (List Unequal) → ℕ → List ℕ
holders ds s = holders_from 0 ds s

abbrev pub asked_at : List (List Unequal) → ℕ → List Asked
asked_at ds s =
    map (λ j. record { server = j; shard = s }) (filter (λ j. differs (get_or ds j []) s) (holders ds s))

abbrev pub chosen : List (List Unequal) → ℕ → ℕ → List Asked
chosen ds first last = flat_map (asked_at ds) (span first last)

abbrev pub AreBelow : ℕ → List Asked → Type 0
AreBelow n asks = AllByRecursion (λ (a : Asked). a.server < n) asks

abbrev pub HasOne : List (List Unequal) → ℕ → Type 0
HasOne ds s = (j : ℕ) × (holders ds s ≡ j ∷ [])

-- each shard before s is had by one server alone
abbrev pub HaveOne : List (List Unequal) → ℕ → ℕ → Type 0
HaveOne ds first s = (t : ℕ) → first ≤ t → t < s → HasOne ds t

abbrev pub IsUnheld : List (List Unequal) → ℕ → ChoiceFault → Type 0
IsUnheld ds s (NoServer n) = (n ≡ s) × (holders ds s ≡ [])
IsUnheld ds s (TwoServers n) = (n ≡ s) × (2 ≤ length (holders ds s))
IsUnheld ds s Memory = HasOne ds s

abbrev pub IsUnchosen : List (List Unequal) → ℕ → ℕ → ChoiceFault → Type 0
IsUnchosen ds first last e = (s : ℕ) × (first ≤ s) × (s ≤ last) × HaveOne ds first s × IsUnheld ds s e
