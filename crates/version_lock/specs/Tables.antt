-- The table after each kind of step of a seat.
--     IsSeat s id v                                              a seat that has a part and is not spent, and its view
--     made, taken, missed, given_back, one_longer, numbered      the first table, and one after a step at the word
--     split_table, joined_table                                  after a split, and after a join
use Rattle.std.specs.Prelude.{◌≡◌, ℕ, ◌+◌, ◌<◌, false, [], ◌∷◌, ◌++◌, set, Some}
use mathlib.Core.Option.{some}
use lib.ListN.{get_elem?}
use Rattle.atomic_table.specs.Table.{opening, stepped, takes, keeps, gives}
use Rattle.version_log.specs.Logs.{LogState, with_writer_given}
use Rattle.version_lock.specs.declared.view.View.{View}
use Rattle.version_lock.specs.Beginnings.{Entry}
use Rattle.version_lock.specs.Lawful.{Table}
use Rattle.version_lock.specs.Views.{first_view, found, with_entry, waited, holding, gave_back, added, enrolled}

-- the seat of this number has this view, is not spent and has a part, so it is no note
pub record IsSeat (s : Table) (id : ℕ) (v : View) : Type 0 where
  pub at : get_elem? s.views id ≡ some v
  pub live : v.spent ≡ false
  pub some : 0 < v.parts

-- a lock is made with this log
abbrev pub made : LogState → Table
made l = opening (0 ∷ []) (Some l ∷ []) (first_view l)

-- the word was FREE, and the seat takes the log l out of its slot
abbrev pub taken : LogState → Table → ℕ → View → Table
taken l s id v = stepped s 0 1 id [] (holding l v) (takes 0 (Some l))

-- the word was HELD
abbrev pub missed : Table → ℕ → View → Table
missed s id v = stepped s 0 1 id [] (waited (v.busy + 1) v) keeps

-- the log that the seat found comes back into its slot as it was
abbrev pub given_back : Table → ℕ → View → Table
given_back s id v = stepped s 0 0 id ((0, Some (found v)) ∷ []) (gave_back v) gives

-- it comes back with one entry more
abbrev pub one_longer : Entry → Table → ℕ → View → Table
one_longer e s id v = stepped s 0 0 id ((0, Some (with_entry (found v) e)) ∷ []) (added e v) gives

-- it comes back with its next writer number given out
abbrev pub numbered : Table → ℕ → View → Table
numbered s id v = stepped s 0 0 id ((0, Some (with_writer_given (found v))) ∷ []) (enrolled v) gives

-- the seat of this number has the view left now, and a new one has the view right
abbrev pub split_table : Table → ℕ → View → View → Table
split_table s id left right =
    record { words = s.words; homes = s.homes; views = set s.views id left ++ right ∷ [] }

-- the seat of this number has the view both now, and the other has the view gone
abbrev pub joined_table : Table → ℕ → View → ℕ → View → Table
joined_table s id both other gone =
    record { words = s.words; homes = s.homes; views = set (set s.views id both) other gone }
