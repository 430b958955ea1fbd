-- What a run ends with that is not refused.
--     IsChecking command       it is a `sync` that is to say by its status whether the sets differ
--     IsAtDoor command         it asks at the door of a server on this machine
--     IsDone command status    0; or 4, of such a `sync`; or 1, where a server refused what was asked at its door, or a
--                              partner of it is behind
use Rattle.std.specs.Prelude.{◌≡◌, ◌⊎◌, ℕ, true, ⊤}
use Rattle.settings_core.specs.declared.commands.Command.{Command}
use Rattle.settings_core.specs.declared.commands.Command.TheVariants as commands

abbrev pub IsChecking : Command → Type 0
IsChecking (commands.Sync words) = words.checks ≡ true
IsChecking command = ⊥

abbrev pub IsAtDoor : Command → Type 0
IsAtDoor (commands.Put words) = ⊤
IsAtDoor (commands.News words) = ⊤
IsAtDoor (commands.Stop words) = ⊤
IsAtDoor (commands.Status words) = ⊤
IsAtDoor command = ⊥

abbrev pub IsDone : Command → ℕ → Type 0
IsDone command status = (status ≡ 0) ⊎ (((status ≡ 4) × IsChecking command) ⊎ ((status ≡ 1) × IsAtDoor command))
