use Rattle.std.proofs.Common.{rules}
use Rattle.rangesync_c.proofs.ToldShards.{exact_of}
use Rattle.rangesync_c.proofs.differing.rs_session_differing.Goals as goal

pub returns-in-Ok-clause-exact : goal.returns-in-Ok-clause-exact
returns-in-Ok-clause-exact c = λ fine.
    exact_of c.args.session.now.value c.args.bits c.in-Ok.unequal.items _ (search rules) (search rules)
