-- The rule of the lock: what the word, the log at home and all views are to one another.
--     Free, Held            the two states of the word
--     Fits l v              what a live view is to the log
--     OneLog opened l s     the one log, which began as the opened one and has what the views entered
--     Shared opened views   the shares of all seats are the whole
--     HasLog opened l s     the rule, where this is the one log
--     Lawful opened s       the rule
use Rattle.std.specs.Prelude.{◌≡◌, ℕ, ◌+◌, ◌-◌, ◌<◌, ◌≤◌, true, false, ◌⊎◌, [], ◌∷◌, List, length, All, Contains}
use Rattle.std.specs.Prelude.{Option, Some, None}
use mathlib.Core.Option.{some}
use lib.ListN.{get_elem?}
use Rattle.atomic_table.specs.Table.{State}
use Rattle.version_log.specs.Logs.{LogState, IsLog}
use Rattle.version_lock.specs.declared.view.View.{View}
use Rattle.version_lock.specs.Beginnings.{Entry, StartsWith, entries_by}
use Rattle.version_lock.specs.Views.{doubled}

-- the words, the slots at home and the views
abbrev pub Table : Type 0
Table = State (Option LogState) View

-- the word is FREE, the log is at home, and no view is holding
pub record Free (s : Table) (l : LogState) : Type 0 where
  pub word : s.words ≡ 0 ∷ []
  pub home : s.homes ≡ some (Some l) ∷ []
  pub nobody : (id : ℕ) (v : View) → get_elem? s.views id ≡ some v → v.holding ≡ false

-- the word is HELD, and exactly one view is holding, which found this log
pub record Held (s : Table) (l : LogState) : Type 0 where
  pub word : s.words ≡ 1 ∷ []
  pub away : length s.homes ≡ 1
  pub holder : ℕ
  pub view : View
  pub at : get_elem? s.views holder ≡ some view
  pub holds : view.holding ≡ true
  pub base : (view.base ≡ l.history) × (view.next_writer ≡ l.next_writer)
  pub alone : (id : ℕ) (v : View) → get_elem? s.views id ≡ some v → v.holding ≡ true → id ≡ holder

-- what a view that is not spent is to the log
pub record Fits (l : LogState) (v : View) : Type 0 where
  pub cap : v.cap ≡ l.cap
  pub seen : StartsWith l.history v.seen
  pub joined : All (λ seen. StartsWith l.history seen) v.joined
  pub mine : (n : ℕ) → v.writer ≡ Some n →
      (entries_by n l.history ≡ v.mine) × (entries_by n v.seen ≡ v.mine) × (n < l.next_writer)

-- no two of these views, if they are not spent, have one writer
abbrev pub Apart : List View → Type 0
Apart views =
    (i j : ℕ) (v w : View) (n : ℕ) → get_elem? views i ≡ some v → get_elem? views j ≡ some w →
    v.spent ≡ false → w.spent ≡ false → v.writer ≡ Some n → w.writer ≡ Some n → i ≡ j

-- the sum over these views
abbrev pub total : (View → ℕ) → List View → ℕ
total f [] = 0
total f (v ∷ views) = f v + total f views

-- the view of some seat has entered this entry
abbrev pub EnteredBy : List View → Entry → Type 0
EnteredBy views e = (id : ℕ) × (v : View) × (get_elem? views id ≡ some v) × Contains v.entered e

-- this is the one log, and each view that is not spent fits it; it began as the opened one, and has what the views
-- entered
pub record OneLog (opened log : LogState) (s : Table) : Type 0 where
  pub is_log : IsLog log
  pub place : Free s log ⊎ Held s log
  pub each : (id : ℕ) (v : View) → get_elem? s.views id ≡ some v → v.spent ≡ false → Fits log v
  pub apart : Apart s.views
  pub cap : log.cap ≡ opened.cap
  pub begins : StartsWith log.history opened.history
  -- as many later entries as the views entered, and numbers given out as they were given
  pub entries : length begins.0 ≡ total (λ v. length v.entered) s.views
  pub each_later : All (EnteredBy s.views) begins.0
  pub numbers : log.next_writer ≡ opened.next_writer + total (λ v. v.numbers) s.views

-- the view of a seat without a part, which is a note or was joined to a seat
pub record Blank (v : View) : Type 0 where
  pub holding : v.holding ≡ false
  pub writer : v.writer ≡ None
  pub entered : v.entered ≡ []
  pub numbers : v.numbers ≡ 0

-- how much the share of a view is, where the whole was halved so often
abbrev pub weight : ℕ → View → ℕ
weight level v = doubled (level - v.halvings) v.parts

-- the shares of all views are the whole, and a view that has none is blank
pub record Shared (opened : LogState) (views : List View) : Type 0 where
  pub level : ℕ
  pub low : (id : ℕ) (v : View) → get_elem? views id ≡ some v → v.halvings ≤ level
  pub sum : total (weight level) views ≡ doubled level 1
  pub blank : (id : ℕ) (v : View) → get_elem? views id ≡ some v → v.parts ≡ 0 → Blank v
  -- each view that is not spent says what the lock was made with
  pub same : (id : ℕ) (v : View) → get_elem? views id ≡ some v → v.spent ≡ false →
      (v.opened ≡ opened.history) × (v.first_number ≡ opened.next_writer)

-- the rule, where the lock was made with the opened log, and this is its one log now
pub record HasLog (opened log : LogState) (s : Table) : Type 0 where
  pub one : OneLog opened log s
  pub shared : Shared opened s.views

-- the rule, whatever its one log is
pub record Lawful (opened : LogState) (s : Table) : Type 0 where
  pub log : LogState
  pub has : HasLog opened log s
