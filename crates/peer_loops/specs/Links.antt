-- What a session with a partner puts in.
--     PutsInFor says own o v w    what it learned, if it ended, by a session whose serial is not said
use Rattle.std.specs.Prelude.{ℕ, Option}
use Rattle.shard_core.specs.declared.shard.OneShard.{OneShard}
use Rattle.session_table.specs.declared.outcome.Outcome.{Outcome}
use Rattle.version_lock.specs.declared.view.View.{View}
use Rattle.peer_threads.specs.Workers.{PutsInBy, Says}

abbrev pub PutsInFor : Says → Option OneShard → Outcome → View → View → Type 0
PutsInFor gate own o v w = (serial : ℕ) × PutsInBy gate serial own o v w
