-- A strategy that is planned.
--     IsAcceptedText text a      the text of a strategy that is accepted
--     AreOf sample theirs ours   the two sets of a sample
--     IsPlanned sample p         its text is accepted, and its bytes and messages are those of a session under it
--                                between those sets
--     IsTimed line sample p      and its microseconds are those of that session's turns on the line
--     IsNamed name text p        it has this name and this text
--     IsRankOf text n            the text is accepted, and its cap has this rank
--     is_late elapsed seconds    so many seconds have passed, or the clock did not tell
--     IsNoSlower p q             there is one where q is one, and it takes no longer
use Rattle.std.specs.Prelude.{◌≡◌, ℕ, ◌≤◌, ◌/◌, Bool, true, nat_le, List, length, sum, Result, Ok}
use Rattle.std.specs.Prelude.{Err, Option, Some, None, ⊤, string_bytes}
use Rattle.std.specs.Duration.{as_nanos}
use Rattle.std.specs.declared.time.Duration.{Duration}
use Rattle.std.specs.declared.io.Error.{Error}
use Rattle.definitions.specs.Fingerprints.{two_lanes}
use Rattle.definitions.specs.Items.{Item}
use Rattle.definitions.specs.Ranks.{Accepted, rank_by}
use Rattle.definitions.specs.Sets.{IsSet}
use Rattle.definitions.specs.Wire.{two_lane_profile}
use Rattle.strategy_core.specs.Texts.{IsTextOf}
use Rattle.strategy_check.specs.Checked.{Checked}
use Rattle.sim_core.specs.Costs.{CostsSample}
use Rattle.sim_core.specs.Lines.{line_micros}
use Rattle.sim_core.specs.Samples.{AreMade}
use Rattle.sim_core.specs.declared.line.Line.{Line}
use Rattle.sim_core.specs.declared.planning.Planned.{Planned}
use Rattle.sim_core.specs.declared.sample.Sample.{Sample}

pub record IsAcceptedText (text : List ℕ) (a : Checked) : Type 0 where
  pub is_text : IsTextOf text (Ok a.table)
  pub accepted : Accepted a.table

pub record AreOf (sample : Sample) (theirs ours : List Item) : Type 0 where
  pub sets : IsSet theirs × IsSet ours
  pub fit : (length theirs ≤ sample.items) × (length ours ≤ sample.items)
  pub made : AreMade sample theirs ours

pub record IsPlanned (sample : Sample) (p : Planned) : Type 0 where
  pub a : Checked
  pub turns : List ℕ
  pub has_text : IsAcceptedText (string_bytes p.text) a
  pub costs : CostsSample two_lanes two_lane_profile a sample turns p.messages
  pub all : p.bytes ≡ sum turns

pub record IsTimed (line : Line) (sample : Sample) (p : Planned) : Type 0 where
  pub planned : IsPlanned sample p
  pub time : p.micros ≡ line_micros line planned.turns

abbrev pub IsNamed : List ℕ → List ℕ → Planned → Type 0
IsNamed name text p = (string_bytes p.name ≡ name) × (string_bytes p.text ≡ text)

abbrev pub IsNoSlower : Option Planned → Option Planned → Type 0
IsNoSlower p None = ⊤
IsNoSlower None (Some q) = ⊥
IsNoSlower (Some p) (Some q) = p.micros ≤ q.micros

abbrev pub IsRankOf : List ℕ → ℕ → Type 0
IsRankOf text n = (a : Checked) × IsAcceptedText text a × (n ≡ rank_by a.steps a.table.cap)

abbrev pub is_late : Result Duration Error → ℕ → Bool
is_late (Ok elapsed) seconds = nat_le seconds (as_nanos elapsed / 1000000000)
is_late (Err e) seconds = true
