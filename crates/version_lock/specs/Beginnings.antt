-- Beginnings of histories, and the entries of one writer.
--     StartsWith h seen, entries_by writer h
use Rattle.std.specs.Prelude.{◌≡◌, ℕ, ◌==◌, ◌++◌, filter}
use Rattle.definitions.specs.Items.{Item}
use Rattle.definitions.specs.Histories.{History}

-- a writer, and an item that it brought
abbrev pub Entry : Type 0
Entry = ℕ × Item

-- the history h begins with these entries
abbrev pub StartsWith : History → History → Type 0
StartsWith h seen = (more : History) × (h ≡ seen ++ more)

-- the entries of the writer, in their order
abbrev pub entries_by : ℕ → History → History
entries_by writer h = filter (λ e. e.0 == writer) h
