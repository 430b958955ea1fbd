use Rattle.std.proofs.Common.{◌<◌, length, rules, ap, ◌∙◌}
use Rattle.strategy_core.specs.Texts.{◌>>=◌, array_in, provided, items_count}
use Rattle.std.specs.Prelude.{nat_lt}
use Rattle.strategy_core.specs.declared.fault.StrategyFault.TheVariants.{Missing}
use Rattle.strategy_core.specs.declared.field.Field.TheVariants as fields
use Rattle.strategy_core.proofs.Readings.{entries_some}
use Rattle.strategy_core.proofs.reading.entries.Goals as goal

pub returns : goal.returns
returns c =
    let some : 0 < length c.in_ok-array.array.now.items = search rules in
    ap (λ r. r >>= λ d. array_in d >>= λ ds. provided (nat_lt 0 (items_count ds)) (Missing fields.Row) ds)
    c.in_ok-field.ensures
    ∙ entries_some _ c.in_ok-array.array.now.items c.in_ok-array.ensures some
