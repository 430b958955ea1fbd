use Rattle.std.proofs.Common.{rules, []}
use Rattle.std.specs.Arc.{arc_value}
use Rattle.rangesync_c.specs.Trees.{held_in}
use Rattle.rangesync_c.specs.ShardStates.{all_of}
use Rattle.rangesync_c.proofs.ShardSets.{of_none, state_is}
use Rattle.rangesync_c.proofs.sharded.Shards.empty.Goals as goal

pub invariant_of-result : goal.invariant_of-result
invariant_of-result c =
    let stores = held_in c.in_ok-stores.stores.items in
    let none = of_none (arc_value c.args.accepted) c.args.name.now c.args.bits stores c.requires.short c.requires.low
    c.requires.wide (search rules) in
    search (rules, none.0)

pub returns : goal.returns
returns c =
    let stores = held_in c.in_ok-stores.stores.items in
    let none = of_none (arc_value c.args.accepted) c.args.name.now c.args.bits stores c.requires.short c.requires.low
    c.requires.wide (search rules) in
    state_is (arc_value c.args.accepted) _ c.args.name.now c.args.bits (all_of stores) [] (search rules) none.1
