use Rattle.std.proofs.Common.{◌≡◌, take}
use Rattle.definitions.specs.Histories.{items_of}
use Rattle.version_log.proofs.log.Log.first_items.Given as goal

abbrev pub invariant-loop-place : goal.invariant-loop-place
invariant-loop-place g l = l.items.items ≡ items_of (take l.place l.self.history)
