-- A handle may go to another thread where a box of a `Thing` may, since the two own the same: the value, which may go,
-- and the right to free its block, which the heap takes back from any thread. Nothing is left of a handle that is
-- used up, as nothing is of a box.
use denote.Param.Send.{IsSend}
use Rattle.std.proofs.Crossing.{Box-send}
use Rattle.rangesync_c.proofs.ThingBox.{boxed}
use Rattle.rangesync_c.specs.contracts.held.Thing as thing
use Rattle.rangesync_c.specs.contracts.held.Held.{the_row}
use Rattle.rangesync_c.proofs.held.Thing.TheSendSync.{the_send}

pub send : IsSend the_row
send =
    let box = Box-send thing.the_row the_send in
    record { owned = λ h vs. box.owned (boxed h) vs; leaving = λ k h. box.leaving k (boxed h) }
