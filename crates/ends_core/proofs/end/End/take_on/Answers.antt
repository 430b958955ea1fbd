use Rattle.std.proofs.Common.{rules}
use Rattle.ends_core.proofs.Refusing.{open-live}
use Rattle.ends_core.proofs.end.End.take_on.Goals as goal

pub returns-in-Open-clause-dead : goal.returns-in-Open-clause-dead
returns-in-Open-clause-dead g c = search (rules, open-live)
