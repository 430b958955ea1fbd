-- What a reader's bytes give that are loaded as shards. Unread is what the reader had left, left what it has now.
--     IsReading o unread left d              all that was read is dealt, or waits
--     loaded_of o A                          the shards of A that are loaded
--     IsLoaded o unread left Xs              those of the set of all items
--     IsUnloaded o unread left failed e      why there are none
use Rattle.std.specs.Prelude.{◌≡◌, ◌⊎◌, ⊤, ℕ, ◌<◌, ◌≤◌, Bool, List, ◌++◌, length, Option, Ok, Err, IsTrue, Vec}
use Rattle.std.specs.declared.alloc.Global.{Global}
use Rattle.std.specs.Io.KnownBytes.{Consumes, IsAtEnd}
use Rattle.definitions.specs.Items.{Item}
use Rattle.definitions.specs.Sets.{set_of}
use Rattle.shard_core.specs.Shards.{shards}
use Rattle.shard_core.specs.Splits.{IsAbove}
use Rattle.shard_core.specs.Spans.{span_shards, Holds}
use Rattle.item_files.specs.ItemFiles.{file_items}
use Rattle.item_files.specs.declared.form.ItemForm.{ItemForm}
use Rattle.item_files.specs.declared.bad_line.BadLine.{BadLine}
use Rattle.item_files.specs.declared.options.LoadOptions.{LoadOptions}
use Rattle.item_files.specs.declared.dealing.Dealing.{Dealing}
use Rattle.item_files.specs.declared.load_fault.LoadFault.{LoadFault}
use Rattle.item_files.specs.declared.load_fault.LoadFault.TheVariants.{CannotRead, TooLong, BadItemLine, TooManyItems}
use Rattle.item_files.specs.declared.load_fault.LoadFault.TheVariants.{Memory}
use Rattle.item_files.specs.PieceTexts.{most_bytes, kept_by, IsDealt}

-- while it is read
pub record IsReading (o : LoadOptions) (unread left : Option (List ℕ)) (d : Dealing) : Type 0 where
  pub read : List ℕ
  pub consumed : Consumes unread left read
  pub count : d.taken ≡ length read
  pub dealt : IsDealt o read d.waiting.items d.feeds d.lists.items

-- the text is all that the reader had left, and these are the items of its lines
pub record HasItems (o : LoadOptions) (unread left : Option (List ℕ)) (items : List Item) : Type 0 where
  pub text : List ℕ
  pub read : Consumes unread left text
  pub whole : IsAtEnd left
  pub short : length text ≤ most_bytes o.bits
  pub lines : file_items o.form text ≡ Ok items

abbrev pub loaded_of : LoadOptions → List Item → List (List Item)
loaded_of o A = span_shards o.bits o.first o.last A

abbrev pub IsLoaded : LoadOptions → Option (List ℕ) → Option (List ℕ) → List (List Item) → Type 0
IsLoaded o unread left Xs = (items : List Item) × HasItems o unread left items × (Xs ≡ loaded_of o (set_of items))

-- this is the first bad line of the text that was read: of all that the reader had left, or whatever comes later
abbrev pub HasBadLine : LoadOptions → Option (List ℕ) → Option (List ℕ) → BadLine → Type 0
HasBadLine o unread left bad = (text : List ℕ) × Consumes unread left text
    × ((IsAtEnd left × (file_items o.form text ≡ Err bad))
    ⊎ ((later : List ℕ) → file_items o.form (text ++ later) ≡ Err bad))

abbrev pub IsUnloaded : LoadOptions → Option (List ℕ) → Option (List ℕ) → Bool → LoadFault → Type 0
IsUnloaded o unread left failed (CannotRead f) = IsTrue failed
IsUnloaded o unread left failed TooLong =
    (text : List ℕ) × Consumes unread left text × (most_bytes o.bits < length text)
IsUnloaded o unread left failed (BadItemLine bad) = HasBadLine o unread left bad
IsUnloaded o unread left failed (TooManyItems s) =
    (items : List Item) × HasItems o unread left items × IsAbove o.cap (shards o.bits (kept_by o (set_of items))) s
IsUnloaded o unread left failed Memory = ⊤

-- a reader that failed
abbrev pub IsFailed : Bool → LoadFault → Type 0
IsFailed failed (CannotRead f) = IsTrue failed
IsFailed failed TooLong = ⊥
IsFailed failed (BadItemLine bad) = ⊥
IsFailed failed (TooManyItems s) = ⊥
IsFailed failed Memory = ⊥

-- the lists of the shards of all items, in any order and more than once
pub record AreLists (o : LoadOptions) (unread left : Option (List ℕ)) (vs : List (Vec Item Global)) : Type 0 where
  pub items : List Item
  pub text : HasItems o unread left items
  pub lists : Holds o.bits o.first o.last vs items
