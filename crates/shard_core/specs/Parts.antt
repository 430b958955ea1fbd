-- What sessions over some shards learned, and what that says of the two whole sets.
--     knowledge_of p                   what was learned of one shard
--     is_asked ps s                    there was a session over shard s
--     KnowsShards b A B ps             each session left exactly both differences of its shard
--     KnowsNoWrong b A B ps            each left nothing that is wrong
--     NoClash b A B                    shards with equal entries are equal
--     Covers b A B ps                  each shard with different entries was asked
--     asked_of b ps A                  the items of A in the shards that were asked
use Rattle.std.specs.Prelude.{◌≡◌, ℕ, ◌<◌, ◌^◌, Bool, ◌==◌, List, filter, IsTrue, IsFalse}
use Rattle.std.specs.List.{AllByRecursion, list_any}
use Rattle.definitions.specs.Items.{Item}
use Rattle.definitions.specs.Talks.{Knowledge}
use Rattle.definitions.specs.Theorems.{KnowsDifference, KnowsNothingWrong}
use Rattle.shard_core.specs.declared.part.ShardPart.{ShardPart}
use Rattle.shard_core.specs.declared.part.Merged.{Merged}
use Rattle.shard_core.specs.Shards.{shard_number, shard, entries_differ}

abbrev pub ours_of : ShardPart → List Item
ours_of p = p.ours.items

abbrev pub theirs_of : ShardPart → List Item
theirs_of p = p.theirs.items

abbrev pub knowledge_of : ShardPart → Knowledge
knowledge_of p = record { ours = ours_of p; theirs = theirs_of p }

abbrev pub merged_knowledge : Merged → Knowledge
merged_knowledge m = record { ours = m.ours.items; theirs = m.theirs.items }

abbrev pub is_asked : List ShardPart → ℕ → Bool
is_asked ps s = list_any (λ p. s == p.number) ps

abbrev pub asked_of : ℕ → List ShardPart → List Item → List Item
asked_of b ps A = filter (λ x. is_asked ps (shard_number b x)) A

abbrev pub KnowsShards : ℕ → List Item → List Item → List ShardPart → Type 0
KnowsShards b A B ps =
    AllByRecursion (λ p. KnowsDifference (knowledge_of p) (shard b A p.number) (shard b B p.number)) ps

abbrev pub KnowsNoWrong : ℕ → List Item → List Item → List ShardPart → Type 0
KnowsNoWrong b A B ps =
    AllByRecursion (λ p. KnowsNothingWrong (knowledge_of p) (shard b A p.number) (shard b B p.number)) ps

abbrev pub NoClash : ℕ → List Item → List Item → Type 0
NoClash b A B = (s : ℕ) → s < 2 ^ b → IsFalse (entries_differ b A B s) → shard b A s ≡ shard b B s

abbrev pub Covers : ℕ → List Item → List Item → List ShardPart → Type 0
Covers b A B ps = (s : ℕ) → s < 2 ^ b → IsTrue (entries_differ b A B s) → IsTrue (is_asked ps s)
