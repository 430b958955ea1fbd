use Rattle.world_core.proofs.Absorbing.{Absorbed}
use Rattle.world_core.proofs.world.World.absorb_items.Given as goal

abbrev pub invariant-loop-item : goal.invariant-loop-item
invariant-loop-item g l = Absorbed l.fn.self l.self l.node l.items l.item-index l.added
