use Rattle.std.proofs.Common.{rules, ◌≡◌, ◌∙◌, subst, length}
use Rattle.std.proofs.lemmas.List.{length-map}
use Rattle.range_tree.specs.Trees.{tree_items}
use Rattle.rangesync_c.specs.Trees.{held_in, sizes}
use Rattle.rangesync_c.specs.ShardStates.{all_of}
use Rattle.shard_core.proofs.Numbers.{few}
use Rattle.rangesync_c.proofs.ShardSets.{counted, so_many}
use Rattle.rangesync_c.proofs.sharded.Shards.count.Goals as goal

pub total-requires-clause-few : goal.total-requires-clause-few
total-requires-clause-few c =
    let many = so_many c.self.inside.bits (all_of (held_in c.self.inside.stores.items))
    (held_in c.self.inside.stores.items) c.self.invariant.dealt in
    let long = length-map c.self.inside.stores.items tree_items in
    let most = few c.self.inside.bits c.self.invariant.low in
    search (rules, many, long, most)

pub returns : goal.returns
returns c =
    let stores = held_in c.self.inside.stores.items in
    let all = counted c.self.inside.bits stores c.self.invariant.low c.self.invariant.dealt in
    let here : c.total.result ≡ sizes stores = search rules in
    subst (λ s. c.total.result ≡ length s.items) c.self.view_is (here ∙ all)
