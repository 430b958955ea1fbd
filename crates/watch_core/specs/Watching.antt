-- What is kept of visits.
--     sessions_after serial n kept v    the last n sessions after a visit, which had this serial or none
use Rattle.std.specs.Prelude.{ℕ, List, [], ◌∷◌, ◌++◌, Option, Some, None}
use Rattle.circular_buffer.specs.Buffer.{keep_last}
use Rattle.watch_core.specs.declared.visit.Visit.{Visit}

abbrev pub sessions_after : Option ℕ → ℕ → List Visit → Visit → List Visit
sessions_after None n kept v = kept
sessions_after (Some serial) n kept v = keep_last n (kept ++ v ∷ [])
