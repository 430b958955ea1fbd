-- What is printed of the shards of a set.
--     merged_text l c ours theirs    what `sync` prints of all shards, both differences listed as l says
--     undone_text ns f               which shards were not done, and why the first of these was not
use Rattle.std.specs.Prelude.{ℕ, List, [], ◌∷◌, ◌++◌, codes, flat_map}
use Rattle.std.specs.Fmt.{decimal}
use Rattle.definitions.specs.Items.{Item}
use Rattle.printing_core.specs.Lines.{fault_line, spaced}
use Rattle.printing_core.specs.SessionTexts.{listed_text}
use Rattle.printing_core.specs.declared.fault.Fault.{Fault}
use Rattle.printing_core.specs.declared.sessions.Listing.{Listing}
use Rattle.printing_core.specs.declared.sync_shards.MergedCounts.{MergedCounts}

abbrev pub merged_head : MergedCounts → List ℕ
merged_head c = codes "shards " ++ (decimal c.shards ++ (codes " differ " ++ (decimal c.differ
    ++ (codes "\nsent " ++ (decimal c.sent ++ codes "\n")))))

abbrev pub merged_text : Listing → MergedCounts → List Item → List Item → List ℕ
merged_text listing c ours theirs = merged_head c ++ listed_text listing ours theirs

abbrev pub first_text : ℕ → Fault → List ℕ
first_text shard fault = codes "\nshard " ++ (decimal shard ++ (32 ∷ (fault_line fault ++ codes "\n")))

-- nothing, where all were done
abbrev pub undone_text : List ℕ → Fault → List ℕ
undone_text [] fault = []
undone_text (shard ∷ shards) fault =
    codes "not done" ++ (flat_map spaced (shard ∷ shards) ++ first_text shard fault)
