use Rattle.std.proofs.Common.{ℕ, List}
use Rattle.std.specs.Prelude.{Result, Ok, Err}
use Rattle.toml.specs.Data.{Members}
use Rattle.definitions.specs.Strategies.{Table}
use Rattle.strategy_core.specs.Texts.{IsDocument, table_in}
use Rattle.strategy_core.specs.Refused.{Gives, Reads}
use Rattle.strategy_core.specs.declared.fault.StrategyError.{StrategyError}
use Rattle.strategy_core.specs.declared.fault.StrategyError.TheVariants as errors
use Rattle.strategy_core.proofs.strategy.Strategy.read.Goals as goal

-- the strategy of a table is that of its text
read_says : (text : List ℕ) (ms : Members) (r : Result Table StrategyError) → IsDocument text ms →
    Gives (λ T. T) r (table_in ms) → Reads r text
read_says text ms (Ok T) h said = (ms, h, said)
read_says text ms (Err errors.NotToml) h said = absurd said
read_says text ms (Err (errors.Fault flaw)) h said = (ms, h, said)
read_says text ms (Err errors.Memory) h said = h.0

pub returns : goal.returns
returns c = read_says c.args.text.now _ _ c.in_ok-table.ensures c.from_table.ensures.table
