use Rattle.std.proofs.Common.{◌≡◌, take}
use Rattle.ends_core.specs.Sizes.{messages_size}
use Rattle.ends_core.proofs.size.messages_size.Given as goal

abbrev pub invariant-loop-message : goal.invariant-loop-message
invariant-loop-message g l = record { counted : l.size ≡ messages_size (take l.message-index l.messages) }
