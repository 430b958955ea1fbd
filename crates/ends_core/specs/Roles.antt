-- The two roles of an end: who speaks first, and who is spoken to first.
--     start_of side S P              an end of P that has received nothing
--     bound_of side may T steps n    how many messages an end with n items sends at most, where its first message may
--                                    cut or not: 2 above the greatest rank that it opens, or 1 above its own rank
use Rattle.std.specs.Prelude.{ℕ, ◌+◌, Bool, List}
use Rattle.definitions.specs.Fingerprints.{Summary}
use Rattle.definitions.specs.Replies.{Peer}
use Rattle.definitions.specs.Ends.{End, initiator, responder}
use Rattle.definitions.specs.Ranks.{greatest, rank_by}
use Rattle.definitions.specs.Strategies.{Table, opening_counts}
use Rattle.definitions.specs.Worlds.{Side, Initiator, Responder}

abbrev pub start_of : {F : Type 0} → Side → Summary F → Peer → End F
start_of Initiator S = initiator S
start_of Responder S = responder S

abbrev pub bound_of : Side → Bool → Table → List ℕ → ℕ → ℕ
bound_of Initiator may T steps n = greatest (rank_by steps) (opening_counts may T n) + 2
bound_of Responder may T steps n = rank_by steps n + 1
