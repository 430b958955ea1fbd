use Rattle.std.proofs.Common.{◌≡◌, length}
use Rattle.client.proofs.directories.choose.Given as goal

abbrev pub invariant-loop-address : goal.invariant-loop-address
invariant-loop-address g l = length l.directories.items ≡ l.address-index
