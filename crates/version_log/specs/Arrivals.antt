-- A history that is kept as numbers beside its items A, which a store has. The first entries are what the log opened
-- with, in the store's order, by writer 0. Of each later one its writer is kept, and the place at which its item came.
--     without place A      A without the item at a place
--     before ls A          A before these came
--     HaveCome ls A        each of these came at a place of the items that were there then
--     entries_of ls A      their entries
--     history_of ls A      the whole history, where these are the later entries
use Rattle.std.specs.Prelude.{ℕ, suc, zero, ⊤, ◌<◌, List, [], ◌∷◌, ◌++◌, length, map, get_or}
use Rattle.definitions.specs.Items.{Item}
use Rattle.definitions.specs.Histories.{History}
use Rattle.version_log.specs.declared.arrival.Arrival.{Arrival}

abbrev pub without : ℕ → List Item → List Item
without place [] = []
without zero (x ∷ xs) = xs
without (suc place) (x ∷ xs) = x ∷ without place xs

abbrev pub before : List Arrival → List Item → List Item
before [] A = A
before (l ∷ ls) A = without l.place (before ls A)

abbrev pub HaveCome : List Arrival → List Item → Type 0
HaveCome [] A = ⊤
HaveCome (l ∷ ls) A = (l.place < length (before ls A)) × HaveCome ls A

abbrev pub entries_of : List Arrival → List Item → History
entries_of [] A = []
entries_of (l ∷ ls) A = (l.writer, get_or (before ls A) l.place []) ∷ entries_of ls A

abbrev pub history_of : List Arrival → List Item → History
history_of ls A = map (λ x. (0, x)) (before ls A) ++ entries_of ls A
