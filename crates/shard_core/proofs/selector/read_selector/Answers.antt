use Rattle.std.proofs.Common.{◌∙◌, sym, arith}
use Rattle.shard_core.proofs.Beginnings.{more}
use Rattle.shard_core.proofs.Selections.{written, only}
use Rattle.shard_core.proofs.selector.read_selector.Goals as goal

pub returns-clause-back : goal.returns-clause-back
returns-clause-back c = λ w X later is range text. c.selecting_of.ensures
    ∙ written c.args.name.now c.args.bits c.args.bytes.now w X later c.requires.low is range text

pub returns-clause-only : goal.returns-clause-only
returns-clause-only c = λ w X used says.
    only c.args.name.now c.args.bits c.args.bytes.now w X used
    (λ i. let fits = c.type_inv.bytes i in omega (arith, fits)) (sym c.selecting_of.ensures ∙ says)

pub returns-clause-more : goal.returns-clause-more
returns-clause-more c = λ w X next later is range text. c.selecting_of.ensures
    ∙ more c.args.name.now c.args.bits c.args.bytes.now w X next later c.requires.low is range text
