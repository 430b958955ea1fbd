-- How many own messages an outcome says were written whole.
use Rattle.std.specs.Prelude.{ℕ}
use Rattle.session_table.specs.declared.outcome.Outcome.{Outcome}
use Rattle.session_table.specs.declared.outcome.Outcome.TheVariants.{Ended, Refused, PeerRefused, Io, Memory}

abbrev pub sent_in : Outcome → ℕ
sent_in (Ended learned sent version) = sent
sent_in (Refused code sent) = sent
sent_in (PeerRefused code sent) = sent
sent_in (Io side sent) = sent
sent_in (Memory sent) = sent
