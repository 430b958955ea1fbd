use Rattle.std.proofs.Common.{rules, ◌≡◌, length, map, ap, subst, ◌∙◌}
use Rattle.std.specs.Arc.{arc_value}
use Rattle.std.proofs.lemmas.List.{length-map}
use Rattle.definitions.specs.Sets.{items_in}
use Rattle.range_tree.specs.Trees.{tree_items}
use Rattle.shard_core.specs.Shards.{directory}
use Rattle.shard_core.specs.Directories.{sum_of}
use Rattle.shard_core.proofs.Numbers.{few}
use Rattle.rangesync_c.specs.Trees.{held_in}
use Rattle.rangesync_c.specs.ShardStates.{all_of, directory_in}
use Rattle.rangesync_c.proofs.ShardSets.{so_many, summed, version_is, wide_enough}
use Rattle.rangesync_c.proofs.sharded.Shards.directory.Goals as goal

pub directory_of-requires : goal.directory_of-requires
directory_of-requires c =
    let stores = held_in c.self.inside.stores.items in
    let made : c.in_ok-sums.sums.items ≡ map (λ X. sum_of (items_in X c.args.range.now)) stores =
    c.in_ok-sums.ensures ∙ ap (λ ts. map (λ X. sum_of (items_in X c.args.range.now)) (held_in ts))
    c.deref-2.ensures.value in
    let long = ap length made ∙ length-map stores (λ X. sum_of (items_in X c.args.range.now))
    ∙ so_many c.self.inside.bits (all_of stores) stores c.self.invariant.dealt in
    let most = few c.self.inside.bits c.self.invariant.low in
    search (rules, long, most)

pub of-requires : goal.of-requires
of-requires c =
    let stores = held_in c.self.inside.stores.items in
    let b = c.self.inside.bits in
    let A = items_in (all_of stores) c.args.range.now in
    let made : c.in_ok-sums.sums.items ≡ map (λ X. sum_of (items_in X c.args.range.now)) stores =
    c.in_ok-sums.ensures ∙ ap (λ ts. map (λ X. sum_of (items_in X c.args.range.now)) (held_in ts))
    c.deref-2.ensures.value in
    let sums = made ∙ summed b c.args.range.now stores c.self.invariant.dealt in
    let entries : c.in_ok-entries.entries.items ≡ directory b A =
    c.in_ok-entries.ensures.directory b A (search (rules, sums)) in
    let held : tree_items c.in_ok-store.store ≡ directory b A = search (rules, entries) in
    let under : arc_value c.in_ok-accepted.accepted ≡ arc_value c.self.inside.accepted = search rules in
    let wide = wide_enough b A (arc_value c.self.inside.accepted).table.cap c.self.invariant.wide in
    search (rules, held, under, wide)

pub returns : goal.returns
returns c =
    let stores = held_in c.self.inside.stores.items in
    let b = c.self.inside.bits in
    let A = items_in (all_of stores) c.args.range.now in
    let made : c.in_ok-sums.sums.items ≡ map (λ X. sum_of (items_in X c.args.range.now)) stores =
    c.in_ok-sums.ensures ∙ ap (λ ts. map (λ X. sum_of (items_in X c.args.range.now)) (held_in ts))
    c.deref-2.ensures.value in
    let sums = made ∙ summed b c.args.range.now stores c.self.invariant.dealt in
    let entries : c.in_ok-entries.entries.items ≡ directory b A =
    c.in_ok-entries.ensures.directory b A (search (rules, sums)) in
    let held : tree_items c.in_ok-store.store ≡ directory b A = search (rules, entries) in
    let under : arc_value c.in_ok-accepted.accepted ≡ arc_value c.self.inside.accepted = search rules in
    subst (λ s. c.of.result ≡ directory_in s c.args.range.now) c.self.view_is
    (c.of.ensures ∙ version_is _ (arc_value c.self.inside.accepted) _ (directory b A) under held)
