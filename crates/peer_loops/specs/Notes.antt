-- What a loop notes of its peers.
--     id_of notes key            the session in the table of the peer of this key, if it is there
--     OthersKeep old new key     the peers of all other keys keep theirs
use Rattle.std.specs.Prelude.{◌≡◌, ◌≢◌, ℕ, List, Option, Some, None, slice_get}
use Rattle.session_table.specs.declared.session.SessionId.{SessionId}
use Rattle.peer_loops.specs.declared.note.Note.{Note}

abbrev pub id_in : Option Note → Option SessionId
id_in None = None
id_in (Some n) = n.id

abbrev pub id_of : List Note → ℕ → Option SessionId
id_of notes key = id_in (slice_get notes key)

abbrev pub OthersKeep : List Note → List Note → ℕ → Type 0
OthersKeep old new key = (k : ℕ) → k ≢ key → id_of new k ≡ id_of old k
