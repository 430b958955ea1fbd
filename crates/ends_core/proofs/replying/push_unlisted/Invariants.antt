use Rattle.std.proofs.Common.{◌≡◌, ◌++◌, take}
use Rattle.definitions.specs.Sets.{difference}
use Rattle.ends_core.proofs.replying.push_unlisted.Given as goal

abbrev pub invariant-loop-item : goal.invariant-loop-item
invariant-loop-item l = l.unlisted.items ≡ l.fn.unlisted.items ++ difference (take l.item-index l.items) l.listed
