use Rattle.std.specs.Io.KnownBytes.{Keeps}
use Rattle.client.proofs.resumed.Resumed.read_on.Given as goal

-- nothing that is still to come is lost
abbrev pub invariant-again : goal.invariant-again
invariant-again g l = record { kept : Keeps (g.R.Read.remaining l.fn.self) (g.R.Read.remaining l.self-inside.inner) }
