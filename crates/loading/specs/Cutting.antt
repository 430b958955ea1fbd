-- What is loaded of a set of which some items are meant alone.
--     IsCutTo f X                  these are the items that the floor keeps of some set
--     AreCutTo f b first last Xs   these are shards of such items
--     AreCutBy f o Xs              the same, where these options say which shards
--     AreKeptBy o Xs               these are the shards that these options name, of some set, and each has room
use Rattle.std.specs.Prelude.{◌≡◌, ℕ, List}
use Rattle.definitions.specs.Items.{Item}
use Rattle.definitions.specs.Sets.{IsSet}
use Rattle.shard_core.specs.Floors.{kept_by}
use Rattle.shard_core.specs.Spans.{AreKept, span_shards}
use Rattle.shard_core.specs.declared.floor.Floor.{Floor}
use Rattle.item_files.specs.declared.options.LoadOptions.{LoadOptions}

abbrev pub IsCutTo : Floor → List Item → Type 0
IsCutTo f X = (A : List Item) × IsSet A × (X ≡ kept_by f A)

abbrev pub AreCutTo : Floor → ℕ → ℕ → ℕ → List (List Item) → Type 0
AreCutTo f b first last Xs = (A : List Item) × IsSet A × (Xs ≡ span_shards b first last (kept_by f A))

abbrev pub AreCutBy : Floor → LoadOptions → List (List Item) → Type 0
AreCutBy f o Xs = AreCutTo f o.bits o.first o.last Xs

abbrev pub AreKeptBy : LoadOptions → List (List Item) → Type 0
AreKeptBy o Xs = AreKept o.bits o.first o.last o.cap Xs
