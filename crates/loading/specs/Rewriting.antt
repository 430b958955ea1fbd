-- A file of items that is rewritten without those that do not stay.
--     lines_of form items             the lines of these items
--     IsShorter form floor old text   a quarter of the old bytes' items does not stay, the text is the lines of the
--                                     others
--     IsLeft form floor old           less than a quarter of its items does not stay
--     Rewrites form floor p q r       the file at the path was rewritten, or not, and nothing else was there
use Rattle.std.specs.Prelude.{◌≡◌, ◌⊎◌, ℕ, ◌<◌, ◌≤◌, Bool, true, false, List, [], ◌∷◌, length, flat_map}
use Rattle.std.specs.Prelude.{Result, Ok, IfErr}
use Rattle.std.specs.declared.io.ErrorKind.TheVariants.{OutOfMemory}
use Rattle.definitions.specs.Items.{Item}
use Rattle.definitions.specs.Sets.{set_of}
use Rattle.shard_core.specs.Floors.{left_by, LacksAQuarter}
use Rattle.shard_core.specs.declared.floor.Floor.{Floor}
use Rattle.item_files.specs.ItemFiles.{file_items}
use Rattle.item_files.specs.declared.form.ItemForm.{ItemForm}
use Rattle.printing_core.specs.ItemTexts.{item_line}
use Rattle.loading.specs.Folders.{FolderState, CouldLeave}
use Rattle.loading.specs.declared.replacing.ReplaceFault.{ReplaceFault}
use Rattle.loading.specs.declared.replacing.ReplaceFault.TheVariants.{NotReplaced}

abbrev pub lines_of : ItemForm → List Item → List ℕ
lines_of form items = flat_map (item_line form) items

pub record IsShorter (form : ItemForm) (floor : Floor) (old text : List ℕ) : Type 0 where
  pub items : List Item
  pub read : file_items form old ≡ Ok items
  pub fewer : LacksAQuarter (length (set_of items)) (length (left_by floor (set_of items)))
  pub lines : text ≡ lines_of form (left_by floor (set_of items))

abbrev pub IsLeft : ItemForm → Floor → List ℕ → Type 0
IsLeft form floor old = (items : List Item) → file_items form old ≡ Ok items
    → LacksAQuarter (length (set_of items)) (length (left_by floor (set_of items))) → ⊥

pub record Rewrites (form : ItemForm) (floor : Floor) (p q : FolderState) (r : Result Bool ReplaceFault) : Type 0 where
  -- who reads it now, as after a kill, finds the old bytes, or the lines of the items that stay
  pub there : (q.there ≡ p.there) ⊎ IsShorter form floor p.there q.there
  -- a stop at any moment could have left what it could before, or these
  pub found : (bytes : List ℕ) → CouldLeave q bytes → CouldLeave p bytes ⊎ IsShorter form floor p.there bytes
  -- once it is done, a stop leaves these alone
  pub done : r ≡ Ok true → IsShorter form floor p.there q.there × (q.leaves ≡ q.there ∷ [])
  pub left : r ≡ Ok false → IsLeft form floor p.there × (q.there ≡ p.there) × (q.leaves ≡ p.leaves)
  pub refused : IfErr r (λ fault. (p.refusals < q.refusals) ⊎ (fault ≡ NotReplaced OutOfMemory))
