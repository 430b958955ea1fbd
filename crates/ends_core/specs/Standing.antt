-- What each end keeps, whatever its peer sent.
--     IsSeated h              a checked table, and a set that has room
--     Came S Q start e        the end is what some messages made of an end at its start
--     Took S Q h              and what it took is what some parts made of nothing taken
use Rattle.std.specs.Prelude.{◌≡◌, ◌≤◌, List, length}
use Rattle.std.specs.List.{AllByRecursion}
use Rattle.definitions.specs.Fingerprints.{Summary}
use Rattle.definitions.specs.Messages.{Message}
use Rattle.definitions.specs.Taking.{taken_all}
use Rattle.definitions.specs.Theorems.{AreParts}
use Rattle.definitions.specs.Wire.{Profile}
use Rattle.definitions.specs.Ends.{End, heard}
use Rattle.definitions.specs.Replies.{Peer}
use Rattle.definitions.specs.Sets.{IsSet}
use Rattle.strategy_check.specs.Checked.{IsChecked}
use Rattle.ends_core.specs.EndStates.{EndState}

-- the end is what some messages made of one at its start
abbrev pub Came : {F : Type 0} → Summary F → Profile F → (Peer → End F) → End F → Type 0
Came {F} S Q start e = (Ms : List (Message F)) × AllByRecursion (AreParts Q) Ms × (e ≡ heard S (start e.peer) Ms)

-- what it took is what some parts come to
abbrev pub Took : {F : Type 0} → Summary F → Profile F → EndState F → Type 0
Took {F} S Q h = (parts : Message F) × AreParts Q parts × (h.taken ≡ taken_all S h.end parts)

pub record Stands {F : Type 0} (S : Summary F) (Q : Profile F) (start : Peer → End F) (h : EndState F) : Type 0 where
  pub checked : IsChecked (record { table = h.end.peer.table; steps = h.steps })
  pub room : length h.end.peer.items ≤ h.end.peer.table.cap
  pub set : IsSet h.end.peer.items
  pub came : Came S Q start h.end
  pub took : Took S Q h
