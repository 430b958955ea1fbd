use Rattle.std.proofs.Common.{◌≡◌, sym, ap, ◌∙◌}
use Rattle.std.specs.Prelude.{None}
use Rattle.definitions.specs.Worlds as worlds
use Rattle.world_core.specs.Steps.{did_of, added_in}
use Rattle.world_core.proofs.Absorbing.{absorb_goes_on, absorb_ends}
use Rattle.world_core.proofs.world.World.absorb_items.Goals as goal

pub loop-item-preserved : goal.loop-item-preserved
loop-item-preserved g c =
    (absorb_goes_on c.args.self.now c.loop-item.self c.insert.new.self c.args.node c.args.items.now
    c.loop-item.item-index c.loop-item.added c.in-Some.new c.item-item.result (did_of c.in_ok-did.did)
    c.requires c.loop-item-test.true c.item-item.is c.loop-item.invariant c.in_ok-did.ensures.world
    c.in_ok-did.ensures.did (sym c.in-Some.is ∙ c.added_by.ensures)).0

none : (g : _) (c : goal.In_default g) → None ≡ added_in (did_of c.in_ok-did.did)
none g c = c.in_default.ensures

pub returns-in_default-clause-world : goal.returns-in_default-clause-world
returns-in_default-clause-world g c =
    (absorb_ends c.args.self.now c.loop-item.self c.insert.new.self c.args.node c.args.items.now c.loop-item.item-index
    c.loop-item.added c.item-item.result (did_of c.in_ok-did.did)
    c.requires c.loop-item-test.true c.item-item.is c.loop-item.invariant c.in_ok-did.ensures.world
    c.in_ok-did.ensures.did (none g c)).0

pub returns-in_default-clause-added : goal.returns-in_default-clause-added
returns-in_default-clause-added g c =
    ap worlds.Absorbed (absorb_ends c.args.self.now c.loop-item.self c.insert.new.self c.args.node c.args.items.now
    c.loop-item.item-index c.loop-item.added c.item-item.result (did_of c.in_ok-did.did)
    c.requires c.loop-item-test.true c.item-item.is c.loop-item.invariant c.in_ok-did.ensures.world
    c.in_ok-did.ensures.did (none g c)).1
