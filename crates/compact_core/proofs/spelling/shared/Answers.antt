use Rattle.std.proofs.Common.{rules, arith}
use Rattle.compact_core.proofs.Texts.{shared_end}
use Rattle.compact_core.proofs.spelling.shared.Goals as goal

pub returns-clause-shared : goal.returns-clause-shared
returns-clause-shared c = shared_end c.args.left.now c.args.right.now c.same.index c.min-most.result (search rules)
    (omega arith) (omega arith) c.same.invariant
