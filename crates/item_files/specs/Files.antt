-- What the files of settings give.
--     IsFileText text            bytes that a file of settings may hold
--     IsAllOf unread text        these bytes are all that was left to read
--     IsFromFile gives result    the result of some such text; or the file was not read; or memory ran out
-- What a file holds, no contract can name.
use Rattle.std.specs.Prelude.{◌≡◌, ◌⊎◌, ◌≤◌, ℕ, List, length, Option, Result, Ok, Err}
use Rattle.std.specs.Io.KnownBytes.{Consumes, IsAtEnd}
use Rattle.definitions.specs.Items.{IsBytes}
use Rattle.io_core.specs.declared.read_fault.ReadFault.{ReadFault}
use Rattle.item_files.specs.declared.fault.SettingsFault.{SettingsFault}
use Rattle.item_files.specs.declared.fault.SettingsFault.TheVariants.{CannotRead, Memory}

abbrev pub IsFileText : List ℕ → Type 0
IsFileText text = IsBytes text × (length text ≤ 16777216)

-- after them the reader is at its end
abbrev pub IsAllOf : Option (List ℕ) → List ℕ → Type 0
IsAllOf unread text = (left : Option (List ℕ)) × Consumes unread left text × IsAtEnd left

-- the file was not read, or memory ran out
abbrev pub IsUnread : SettingsFault → Type 0
IsUnread fault = ((f : ReadFault) × (fault ≡ CannotRead f)) ⊎ (fault ≡ Memory)

abbrev pub IsUnreadFile : {X : Type 0} → Result X SettingsFault → Type 0
IsUnreadFile (Ok x) = ⊥
IsUnreadFile (Err fault) = IsUnread fault

abbrev pub IsFromFile : {X : Type 0} → (List ℕ → Result X SettingsFault → Type 0) → Result X SettingsFault → Type 0
IsFromFile gives result = IsUnreadFile result ⊎ ((text : List ℕ) × IsFileText text × gives text result)
