use Rattle.std.proofs.Common.{rules, ◌≡◌, ◌<◌, ◌^◌, get_or, [], sym, ap, subst, ◌∙◌}
use Rattle.std.specs.Arc.{arc_value}
use Rattle.rangesync_c.specs.Trees.{held_in}
use Rattle.std.proofs.lemmas.List.{length-map}
use Rattle.range_tree.specs.Trees.{tree_items}
use Rattle.definitions.specs.Sets.{items_in}
use Rattle.shard_core.specs.Shards.{shard}
use Rattle.rangesync_c.specs.ShardStates.{all_of, shard_in}
use Rattle.rangesync_c.proofs.ShardSets.{so_many, at_number, version_is}
use Rattle.rangesync_c.proofs.sharded.Shards.shard.Goals as goal

pub store_at-requires : goal.store_at-requires
store_at-requires c =
    let many = so_many c.self.inside.bits (all_of (held_in c.self.inside.stores.items))
    (held_in c.self.inside.stores.items) c.self.invariant.dealt in
    let long = length-map c.self.inside.stores.items tree_items in
    let low = subst (λ s. c.args.number < 2 ^ s.bits) (sym c.self.view_is) c.requires in
    search (rules, many, long, low)

pub returns : goal.returns
returns c =
    let stores = held_in c.self.inside.stores.items in
    let a = arc_value c.self.inside.accepted in
    let b = c.self.inside.bits in
    let low = subst (λ s. c.args.number < 2 ^ s.bits) (sym c.self.view_is) c.requires in
    let at : tree_items c.store_at.result.now ≡ get_or stores c.args.number [] = search rules in
    let part : tree_items c.in_ok-store.store ≡ items_in (tree_items c.store_at.result.now) c.args.range.now =
    search rules in
    let under : arc_value c.in_ok-accepted.accepted ≡ a = search rules in
    subst (λ s. c.of.result ≡ shard_in s c.args.number c.args.range.now) c.self.view_is
    (c.of.ensures ∙ version_is _ a _ (items_in (shard b (all_of stores) c.args.number) c.args.range.now) under
    (part ∙ ap (λ Z. items_in Z c.args.range.now)
    (at ∙ at_number b c.args.number (all_of stores) stores c.self.invariant.dealt low)))
