use Rattle.std.proofs.Common.{rules, ◌≡◌, true}
use Rattle.definitions.specs.Items.{comes_before}
use Rattle.definitions.proofs.Order.{before-asym, before-irrefl}
use Rattle.loading.proofs.forgetting.higher.Goals as goal

pub returns-then-is_lt-clause-one : goal.returns-then-is_lt-clause-one
returns-then-is_lt-clause-one c =
    let below : comes_before c.args.one c.args.other ≡ true = search rules in
    before-asym c.args.one c.args.other below

pub returns-then-is_lt-clause-other : goal.returns-then-is_lt-clause-other
returns-then-is_lt-clause-other c = before-irrefl c.args.other

pub returns-else-is_lt-clause-one : goal.returns-else-is_lt-clause-one
returns-else-is_lt-clause-one c = before-irrefl c.args.one
