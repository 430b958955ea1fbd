-- A set of items under a strategy, and a version of it.
--     SetState, set_by a h           a checked table, and a history of at most as many items as its cap
--     VersionState                   a checked table, and items
--     part_in v X                    the version of those of its items that a range holds
--     newest s                       the version of a set that is the newest
--     IsSetFrom form text a result   what an item file's text gives: the set of its items, or why not
--     between lower upper            the range between these bytes, where none are the start and the end
--     AreBounds lower upper          there is such a range
--     IsNoRange lower upper f        there is none, for this reason
--     Inserts s x t result           an item was put in, or was there, or there was no room; or it is new, there is
--                                    room, and memory ran out
use Rattle.std.specs.Prelude.{◌≡◌, ℕ, ◌≤◌, ◌<◌, ◌⊎◌, Bool, true, false, List, [], ◌∷◌, length, Option, Some, None}
use Rattle.std.specs.Prelude.{Result, Ok, Err, IsTrue, IsFalse, ⊤}
use Rattle.definitions.specs.Items.{Item, Range, is_below}
use Rattle.item_core.specs.declared.item.LengthFault.TheVariants as lengths
use Rattle.definitions.specs.Sets.{set_of, items_in}
use Rattle.definitions.specs.Histories.{History, content, opening_history, insertion, history_after}
use Rattle.definitions.specs.Histories.{Insertion, New, Already, Full}
use Rattle.strategy_check.specs.Checked.{Checked}
use Rattle.item_files.specs.ItemFiles.{file_items}
use Rattle.item_files.specs.declared.bad_line.BadLine.{BadLine}
use Rattle.item_files.specs.declared.form.ItemForm.{ItemForm}
use Rattle.rangesync_c.specs.declared.fault.EmbeddedFault.{EmbeddedFault}
use Rattle.rangesync_c.specs.declared.fault.EmbeddedFault.TheVariants as faults

pub record SetState : Type 0 where
  pub accepted : Checked
  pub history : History

abbrev pub set_by : Checked → History → SetState
set_by a h = record { accepted = a; history = h }

pub record VersionState : Type 0 where
  pub accepted : Checked
  pub items : List Item

abbrev pub part_in : VersionState → Range → VersionState
part_in v X = record { accepted = v.accepted; items = items_in v.items X }

-- before the item of these bytes; to the end where there are none
abbrev pub upper_of : List ℕ → Option (List ℕ)
upper_of [] = None
upper_of (b ∷ bs) = Some (b ∷ bs)

abbrev pub between : List ℕ → List ℕ → Range
between lower upper = record { lower = lower; upper = upper_of upper }

-- neither has more than 64 bytes, and the lower one is below the upper one
abbrev pub AreBounds : List ℕ → List ℕ → Type 0
AreBounds lower upper = (length lower ≤ 64) × (length upper ≤ 64) × IsTrue (is_below lower (upper_of upper))

-- 72 where a bound has more than 64 bytes, and else 73 where the lower one is not below the upper one
abbrev pub IsNoRange : List ℕ → List ℕ → EmbeddedFault → Type 0
IsNoRange lower upper (faults.Length lengths.TooLong) = (64 < length lower) ⊎ (64 < length upper)
IsNoRange lower upper faults.EmptyRange = (length lower ≤ 64) × (length upper ≤ 64)
    × IsFalse (is_below lower (upper_of upper))
IsNoRange lower upper f = ⊥

abbrev pub newest : SetState → VersionState
newest s = record { accepted = s.accepted; items = content s.history }

-- the set has this item too, unless it is there or there is no room
abbrev pub with_item : SetState → Item → SetState
with_item s x = set_by s.accepted (history_after s.history 0 x (insertion s.accepted.table.cap s.history x))

abbrev pub IsAnswer : Insertion → Result Bool EmbeddedFault → Type 0
IsAnswer a (Ok true) = (version : ℕ) × (a ≡ New version)
IsAnswer a (Ok false) = a ≡ Already
IsAnswer a (Err faults.Full) = a ≡ Full
IsAnswer a (Err faults.Memory) = (version : ℕ) × (a ≡ New version)
IsAnswer a (Err f) = ⊥

-- a new item is in the set, and else nothing has changed
abbrev pub Inserts : SetState → Item → SetState → Result Bool EmbeddedFault → Type 0
Inserts s x t (Ok b) = IsAnswer (insertion s.accepted.table.cap s.history x) (Ok b) × (t ≡ with_item s x)
Inserts s x t (Err f) = IsAnswer (insertion s.accepted.table.cap s.history x) (Err f) × (t ≡ s)

-- a line of the text is no item, or there are more items than the cap; or memory ran out
abbrev pub IsNoSet : ItemForm → List ℕ → Checked → EmbeddedFault → Type 0
IsNoSet form text a faults.BadItemLine = (bad : BadLine) × (file_items form text ≡ Err bad)
IsNoSet form text a faults.TooManyItems = (items : List Item) × (file_items form text ≡ Ok items)
    × (a.table.cap < length (set_of items))
IsNoSet form text a faults.Memory = ⊤
IsNoSet form text a f = ⊥

-- the items of the text, each once, by writer 0
abbrev pub IsSetFrom : ItemForm → List ℕ → Checked → Result SetState EmbeddedFault → Type 0
IsSetFrom form text a (Ok s) = (items : List Item) × (file_items form text ≡ Ok items)
    × (length (set_of items) ≤ a.table.cap) × (s ≡ set_by a (opening_history (set_of items)))
IsSetFrom form text a (Err f) = IsNoSet form text a f
