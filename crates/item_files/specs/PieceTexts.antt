-- A text of items that is read in pieces. Each piece but the first begins with the line feed that the one before it
-- ends in front of: an empty line, which has no item.
--     most_bytes b               the greatest length of the text of 2 ^ b shards: 16,777,216 for each
--     feeds text                 how many line feeds it has
--     later_line k bad           a bad line, where k line feeds come before the piece that it was found in
--     joined xs k r              what all gives, where xs and k line feeds come before the piece that gives r
--     IsPieceFault form text k e   why the items of a piece are not there
--     IsPiece form text k r        the items of a piece in order, or why they are not there
--     Deals o old new xs           the items of a piece are dealt too
--     IsStopped form read e      why what was read is not dealt: its first bad line, whatever comes later
--     kept_by o A                the items of A in the shards that are loaded
--     IsLast o read lists        those of all that was read are dealt
--     IsDealt o read waiting k lists   those of what was read are dealt, but for what waits
use Rattle.std.specs.Prelude.{◌≡◌, ⊤, ℕ, ◌+◌, ◌*◌, ◌^◌, ◌==◌, List, ◌++◌, count_by, Result, Ok, Err, Vec}
use Rattle.std.specs.declared.alloc.Global.{Global}
use Rattle.definitions.specs.Items.{Item}
use Rattle.shard_core.specs.Spans.{kept, Holds}
use Rattle.shard_core.specs.declared.fault.SplitFault.{SplitFault}
use Rattle.shard_core.specs.declared.fault.SplitFault.TheVariants as splits
use Rattle.item_files.specs.ItemFiles.{file_items}
use Rattle.item_files.specs.declared.form.ItemForm.{ItemForm}
use Rattle.item_files.specs.declared.bad_line.BadLine.{BadLine}
use Rattle.item_files.specs.declared.options.LoadOptions.{LoadOptions}
use Rattle.item_files.specs.declared.load_fault.LoadFault.{LoadFault}
use Rattle.item_files.specs.declared.load_fault.LoadFault.TheVariants.{CannotRead, TooLong, BadItemLine, TooManyItems}
use Rattle.item_files.specs.declared.load_fault.LoadFault.TheVariants.{Memory}

abbrev pub most_bytes : ℕ → ℕ
most_bytes b = 16777216 * 2 ^ b

abbrev pub feeds : List ℕ → ℕ
feeds text = count_by (λ x. x == 10) text

abbrev pub later_line : ℕ → BadLine → BadLine
later_line k bad = record { number = bad.number + k; front = bad.front; flaw = bad.flaw }

abbrev pub joined : List Item → ℕ → Result (List Item) BadLine → Result (List Item) BadLine
joined xs k (Ok ys) = Ok (xs ++ ys)
joined xs k (Err bad) = Err (later_line k bad)

abbrev pub of_split : SplitFault → LoadFault
of_split (splits.TooManyItems s) = TooManyItems s
of_split splits.Memory = Memory

abbrev pub kept_by : LoadOptions → List Item → List Item
kept_by o A = kept o.bits o.first o.last A

-- ---- one piece

abbrev pub IsPieceFault : ItemForm → List ℕ → ℕ → LoadFault → Type 0
IsPieceFault form text k (BadItemLine bad) = (b : BadLine) × (file_items form text ≡ Err b) × (bad ≡ later_line k b)
IsPieceFault form text k Memory = ⊤
IsPieceFault form text k (CannotRead f) = ⊥
IsPieceFault form text k TooLong = ⊥
IsPieceFault form text k (TooManyItems s) = ⊥

abbrev pub IsPiece : ItemForm → List ℕ → ℕ → Result (Vec Item Global) LoadFault → Type 0
IsPiece form text k (Ok v) = file_items form text ≡ Ok v.items
IsPiece form text k (Err e) = IsPieceFault form text k e

-- the items of a piece are dealt too
abbrev pub Deals : LoadOptions → List (Vec Item Global) → List (Vec Item Global) → List Item → Type 0
Deals o old new xs =
    (items : List Item) → Holds o.bits o.first o.last old items → Holds o.bits o.first o.last new (items ++ xs)

-- ---- all pieces so far

-- whatever comes later: what all gives follows from what the waiting bytes and those later give. The items before them
-- are dealt
pub record IsDealt (o : LoadOptions) (read waiting : List ℕ) (k : ℕ) (vs : List (Vec Item Global)) : Type 0 where
  pub items : List Item
  pub goes_on : (later : List ℕ) →
      file_items o.form (read ++ later) ≡ joined items k (file_items o.form (waiting ++ later))
  pub lists : Holds o.bits o.first o.last vs items

abbrev pub IsStopped : ItemForm → List ℕ → LoadFault → Type 0
IsStopped form read (BadItemLine bad) = (later : List ℕ) → file_items form (read ++ later) ≡ Err bad
IsStopped form read Memory = ⊤
IsStopped form read (CannotRead f) = ⊥
IsStopped form read TooLong = ⊥
IsStopped form read (TooManyItems s) = ⊥

-- ---- all of them

pub record IsLast (o : LoadOptions) (read : List ℕ) (vs : List (Vec Item Global)) : Type 0 where
  pub items : List Item
  pub lines : file_items o.form read ≡ Ok items
  pub lists : Holds o.bits o.first o.last vs items

abbrev pub IsLastFault : ItemForm → List ℕ → LoadFault → Type 0
IsLastFault form read (BadItemLine bad) = file_items form read ≡ Err bad
IsLastFault form read Memory = ⊤
IsLastFault form read (CannotRead f) = ⊥
IsLastFault form read TooLong = ⊥
IsLastFault form read (TooManyItems s) = ⊥
