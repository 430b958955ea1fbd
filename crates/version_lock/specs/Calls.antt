-- What each call of the lock makes of its seat's view.
--     TookOnce, Looked, LookedAtOnce v w       the view w after a call that found the log once
--     DidInsert, DidNotInsert, TriedInsert     after an insert
--     GotNumber, Met, ClosedWith               after an enrolling, after a meeting, and at the end
--     IsPinOf, NoPin                           what a pin is of, and why there is none
use Rattle.std.specs.Prelude.{◌≡◌, ℕ, ◌+◌, ◌≤◌, ◌<◌, true, false, List, [], ◌∷◌, ◌++◌, Option, Some, length}
use Rattle.std.specs.List.{AllByRecursion}
use Rattle.atomic_table.specs.Seated.{TableId}
use Rattle.atomic_table.specs.declared.shared.Seat.{Seat}
use Rattle.definitions.specs.Items.{Item}
use Rattle.definitions.specs.Histories.{content, insertion}
use Rattle.definitions.specs.Histories as histories
use Rattle.version_log.specs.Logs.{LogState}
use Rattle.version_log.specs.declared.answer.Added.{Added}
use Rattle.version_log.specs.declared.answer.Added.TheVariants.{New, Already}
use Rattle.version_log.specs.declared.answer.LogFault.{LogFault}
use Rattle.version_log.specs.declared.answer.LogFault.TheVariants.{Full, Memory}
use Rattle.version_lock.specs.declared.view.View.{View}
use Rattle.version_lock.specs.declared.fault.PinFault.{PinFault}
use Rattle.version_lock.specs.declared.fault.PinFault.TheVariants as pin_faults
use Rattle.version_lock.specs.declared.fault.InsertFault.{InsertFault}
use Rattle.version_lock.specs.declared.fault.InsertFault.TheVariants as insert_faults
use Rattle.version_lock.specs.Beginnings.{StartsWith, entries_by}
use Rattle.version_lock.specs.Views.{HasWhole, MadeBy, found, waited, gave_back, added}

-- ---- the seat at its table

abbrev pub TableSeat : Type 0
TableSeat = Seat (Option LogState) View

abbrev pub view : TableSeat → View
view s = s.me.0

abbrev pub IsSame : TableSeat → TableSeat → Type 0
IsSame s t = (t.table_id ≡ s.table_id) × (t.id ≡ s.id)

-- a seat of this lock, between two calls
pub record IsReady (lock : TableId) (s : TableSeat) : Type 0 where
  pub own : s.table_id ≡ lock
  pub empty : s.me.1 ≡ []
  pub idle : (view s).holding ≡ false
  pub live : (view s).spent ≡ false
  pub some : 0 < (view s).parts
  pub mine : (n : ℕ) → (view s).writer ≡ Some n → entries_by n (view s).seen ≡ (view s).mine

-- a seat of this lock that has taken the slot, in which this stands now
pub record Holds (lock : TableId) (slot_has : Option LogState) (s : TableSeat) : Type 0 where
  pub own : s.table_id ≡ lock
  pub slot : s.me.1 ≡ (0, slot_has) ∷ []
  pub holds : (view s).holding ≡ true
  pub live : (view s).spent ≡ false

-- what an insert by a holding view did, and why it did nothing
abbrev pub Inserted : ℕ → Item → View → Added → View → Type 0
Inserted writer x v (New version) w =
    (insertion v.cap v.base x ≡ histories.New version) × (w ≡ added (writer, x) v) × (version ≡ length w.seen)
Inserted writer x v Already w = (insertion v.cap v.base x ≡ histories.Already) × (w ≡ gave_back v)

abbrev pub NotInserted : Item → View → LogFault → View → Type 0
NotInserted x v Full w = (insertion v.cap v.base x ≡ histories.Full) × (length v.base ≡ v.cap) × (w ≡ gave_back v)
NotInserted x v Memory w = (insertion v.cap v.base x ≡ histories.New (length v.base + 1)) × (w ≡ gave_back v)

-- ---- views before and after a call

-- a call that took the log once: the history that it found begins with what the seat had seen
pub record TookOnce (v w : View) : Type 0 where
  pub took : w.took ≡ v.took + 1
  pub begins : StartsWith w.base v.seen
  pub cap : w.cap ≡ v.cap
  pub share : (w.parts ≡ v.parts) × (w.halvings ≡ v.halvings)
  pub opened : (w.opened ≡ v.opened) × (w.first_number ≡ v.first_number)
  -- the set that it found has no more items than the cap
  pub fits : length (content w.base) ≤ w.cap
  -- it found what the seat made, where the seat has the whole
  pub whole : HasWhole v → MadeBy v w.base w.next_writer

-- the seat has seen what the call found, and changed nothing
pub record Looked (v w : View) : Type 0 where
  pub once : TookOnce v w
  pub seen : w.seen ≡ w.base
  pub same : (w.writer ≡ v.writer) × (w.mine ≡ v.mine) × (w.joined ≡ v.joined)
  pub nothing : (w.entered ≡ v.entered) × (w.numbers ≡ v.numbers)

-- the same by the first try
abbrev pub LookedAtOnce : View → View → Type 0
LookedAtOnce v w = Looked v w × (w.busy ≡ v.busy)

-- the seat has added the item to what the call found, which has become this version
pub record Entered (x : Item) (v w : View) (version : ℕ) : Type 0 where
  pub once : TookOnce v w
  pub is_new : insertion w.cap w.base x ≡ histories.New version
  pub writer : ℕ
  pub writer_is : (v.writer ≡ Some writer) × (w.writer ≡ Some writer)
  pub seen : w.seen ≡ w.base ++ (writer, x) ∷ []
  pub mine : w.mine ≡ v.mine ++ (writer, x) ∷ []
  pub version_is : version ≡ length w.seen
  pub joined : w.joined ≡ v.joined
  pub entered : (w.entered ≡ v.entered ++ (writer, x) ∷ []) × (w.numbers ≡ v.numbers)

-- what an insert did
abbrev pub DidInsert : Item → View → Added → View → Type 0
DidInsert x v (New version) w = Entered x v w version
DidInsert x v Already w = Looked v w × (insertion w.cap w.base x ≡ histories.Already)

-- there were as many items as the cap
abbrev pub WasFull : Item → View → View → Type 0
WasFull x v w = Looked v w × (insertion w.cap w.base x ≡ histories.Full) × (length w.base ≡ w.cap)

-- memory ran out on the way
abbrev pub HadRoom : Item → View → View → Type 0
HadRoom x v w = Looked v w × (insertion w.cap w.base x ≡ histories.New (length w.base + 1))

-- why an insert did nothing
abbrev pub DidNotInsert : Item → View → LogFault → View → Type 0
DidNotInsert x v Full w = WasFull x v w
DidNotInsert x v Memory w = HadRoom x v w

-- one try found the word HELD
abbrev pub WasBusy : View → View → Type 0
WasBusy v w = w ≡ waited (v.busy + 1) v

-- why one try to insert did nothing
abbrev pub TriedInsert : Item → View → InsertFault → View → Type 0
TriedInsert x v insert_faults.Busy w = WasBusy v w
TriedInsert x v insert_faults.Full w = WasFull x v w × (w.busy ≡ v.busy)
TriedInsert x v insert_faults.Memory w = HadRoom x v w × (w.busy ≡ v.busy)

-- the seat has got the next writer number of the log that the call found, which is above those of all its entries
pub record GotNumber (v w : View) : Type 0 where
  pub once : TookOnce v w
  pub writer : w.writer ≡ Some w.next_writer
  pub above : AllByRecursion (λ e. e.0 < w.next_writer) w.base
  pub mine : w.mine ≡ []
  pub seen : w.seen ≡ w.base
  pub joined : w.joined ≡ v.joined
  pub given : (w.entered ≡ v.entered) × (w.numbers ≡ v.numbers + 1)

-- the seat of the view v met that of the view u: it has seen all that both had seen
pub record Met (v u w : View) : Type 0 where
  pub once : TookOnce v w
  pub seen : w.seen ≡ w.base
  pub same : (w.writer ≡ v.writer) × (w.mine ≡ v.mine)
  pub other : StartsWith w.base u.seen
  pub own : (n : ℕ) → v.writer ≡ Some n → entries_by n w.base ≡ v.mine
  pub others : (n : ℕ) → u.writer ≡ Some n → StartsWith (entries_by n w.base) u.mine
  pub joined : w.joined ≡ v.joined ++ u.seen ∷ []
  pub nothing : (w.entered ≡ v.entered) × (w.numbers ≡ v.numbers)

-- the seat of the view v has taken this log for good
abbrev pub ClosedWith : View → LogState → Type 0
ClosedWith v l = (w : View) × TookOnce v w × (l ≡ found w)

-- ---- pins

-- the items of a version, and its number
pub record PinState : Type 0 where
  pub items : List Item
  pub version : ℕ

abbrev pub pin_state : List Item → ℕ → PinState
pin_state items version = record { items = items; version = version }

-- the pin is of the history that the call found
pub record IsPinOf (p : PinState) (w : View) : Type 0 where
  pub items_are : p.items ≡ content w.base
  pub fits : length (content w.base) ≤ w.cap
  pub version_is : p.version ≡ length w.base

-- why one try gave no pin
abbrev pub NoPin : PinFault → View → View → Type 0
NoPin pin_faults.Busy v w = WasBusy v w
NoPin pin_faults.Memory v w = LookedAtOnce v w
