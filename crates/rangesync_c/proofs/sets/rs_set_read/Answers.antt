use Rattle.std.specs.Arc.{arc_value}
use Rattle.rangesync_c.proofs.NoSets.{no-set}
use Rattle.rangesync_c.proofs.sets.rs_set_read.Goals as goal

pub returns-in-Ok-clause-refused : goal.returns-in-Ok-clause-refused
returns-in-Ok-clause-refused c = λ fails.
    no-set c.args.strategy.now.value c.in-Ok.form c.args.form c.args.text.now (arc_value c.in-Ok.accepted)
    c.from_text.result c.set_out.result c.in-Ok.ensures.owner c.from_text.ensures c.set_out.ensures.refused
    c.set_out.ensures.memory fails
