-- What an end's type shows: the staircase of its ranks, the end as the definitions have it, and what it took of a
-- message.
--     EndState, HasNone h           an end, and that it has taken no part of a message
--     stage_at x, stage_of s     a stage as the definitions have it
--     taken_of s d               what was taken
--     IsAble h                   what an end keeps
use Rattle.std.specs.Prelude.{◌≡◌, ℕ, ◌≤◌, false, List, [], Some, length, if◌then◌else◌}
use Rattle.definitions.specs.Items.{Apart}
use Rattle.definitions.specs.Messages.{open_ranges}
use Rattle.definitions.specs.Talks.{nothing}
use Rattle.definitions.specs.Ends.{End, Stage, Fresh, Waits, Over, Spent, own_of}
use Rattle.definitions.specs.Taking.{Taken, place_of, nothing_taken}
use Rattle.place_core.specs.Placements.{Placement}
use Rattle.strategy_check.specs.Checked.{IsChecked}
use Rattle.ends_core.specs.Drafts.{Drafted, taken_at}
use Rattle.ends_core.specs.declared.stage.Stage as own
use Rattle.ends_core.specs.declared.stage.Stage.TheVariants as stages

pub record EndState (F : Type 0) : Type 0 where
  pub steps : List ℕ
  pub end : End F
  pub taken : Taken F

abbrev pub HasNone : {F : Type 0} → EndState F → Type 0
HasNone h = h.taken ≡ nothing_taken h.end

abbrev pub stage_at : {F : Type 0} → Placement F → Stage F
stage_at x = if x.first then Fresh x.cut else Waits x.own

abbrev pub stage_of : {F : Type 0} → own.Stage F → Stage F
stage_of (stages.Open place) = stage_at place
stage_of stages.Over = Over
stage_of stages.Spent = Spent

-- before the first part
abbrev pub none_at : {F : Type 0} → Stage F → Taken F
none_at s = record { place = place_of s; opens = false; reply = Some []; learned = nothing }

abbrev pub taken_of : {F : Type 0} → own.Stage F → Drafted F → Taken F
taken_of (stages.Open place) d = taken_at place d
taken_of stages.Over d = none_at Over
taken_of stages.Spent d = none_at Spent

-- a checked table, a set that has room, and an own message whose open ranges do not overlap
pub record IsAble {F : Type 0} (h : EndState F) : Type 0 where
  pub checked : IsChecked (record { table = h.end.peer.table; steps = h.steps })
  pub room : length h.end.peer.items ≤ h.end.peer.table.cap
  pub apart : Apart (open_ranges (own_of h.end.stage))
