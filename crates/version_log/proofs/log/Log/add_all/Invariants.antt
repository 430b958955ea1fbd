use Rattle.std.proofs.Common.{◌≡◌, take, fold}
use Rattle.definitions.specs.Histories.{with_item}
use Rattle.version_log.specs.Logs.{log}
use Rattle.version_log.proofs.log.Log.add_all.Given as goal

abbrev pub invariant-loop-item : goal.invariant-loop-item
invariant-loop-item g l = l.self
    ≡ log l.fn.self.cap (fold with_item l.fn.self.history (take l.item-index l.items)) l.fn.self.next_writer
