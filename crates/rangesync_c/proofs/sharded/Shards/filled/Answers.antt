use Rattle.std.proofs.Common.{rules, ◌≡◌, ◌∙◌, List, Ok, Err, sym, ap, subst}
use Rattle.std.specs.Arc.{arc_value}
use Rattle.definitions.specs.Items.{Item}
use Rattle.definitions.specs.Sets.{set_of}
use Rattle.store_core.proofs.Made.{set_of_is_set}
use Rattle.shard_core.specs.Shards.{shards}
use Rattle.shard_core.specs.Splits.{HasRoom}
use Rattle.item_files.specs.ItemFiles.{file_items}
use Rattle.rangesync_c.specs.Trees.{held_in}
use Rattle.rangesync_c.specs.ShardStates.{ShardsState, IsDealtFrom, all_of, with_all}
use Rattle.rangesync_c.proofs.NotSplit.{of_shard}
use Rattle.rangesync_c.proofs.ShardSets.{of_dealt, room_is, set_once, state_of, whole}
use Rattle.rangesync_c.proofs.sharded.Shards.filled.Goals as goal

pub returns-in_err-stores : goal.returns-in_err-stores
returns-in_err-stores c =
    let a = arc_value c.self.inside.accepted in
    let b = c.self.inside.bits in
    let old = state_of a c.self.inside.name.items b (all_of (held_in c.self.inside.stores.items)) in
    let read = c.in_ok-items.ensures.items in
    let is : c.from_residual-in_err-stores.result ≡ Err c.in_err-stores.field-0.0 = search rules in
    let same : set_of c.deref.result.now ≡ set_of read.0 =
    set_once c.deref.result.now c.in_ok-items.items.items read.0 c.deref.ensures.value read.2 in
    subst (λ s. IsDealtFrom c.args.form c.args.text.now s c.from_residual-in_err-stores.result) c.self.view_is
    (subst (λ r. IsDealtFrom c.args.form c.args.text.now old r) (sym is)
    (of_shard c.args.form c.args.text.now a b _ read.0 c.deref.result.now c.in_err-stores.field-0.0 read.1
    same (search rules) c.in_err-stores.ensures.either c.in_err-stores.ensures.many))

pub invariant_of-result : goal.invariant_of-result
invariant_of-result c =
    let a = arc_value c.self.inside.accepted in
    let stores = held_in c.in_ok-stores.stores.items in
    let room : HasRoom a.table.cap stores = room_is _ a.table.cap stores c.in_ok-stores.ensures.room (search rules) in
    (of_dealt a c.self.inside.name.items c.self.inside.bits c.deref.result.now stores c.self.invariant.short
    c.self.invariant.low c.self.invariant.wide room c.in_ok-stores.ensures.stores).0

pub returns : goal.returns
returns c =
    let a = arc_value c.self.inside.accepted in
    let name = c.self.inside.name.items in
    let b = c.self.inside.bits in
    let stores = held_in c.in_ok-stores.stores.items in
    let read = c.in_ok-items.ensures.items in
    let same : set_of c.deref.result.now ≡ set_of read.0 =
    set_once c.deref.result.now c.in_ok-items.items.items read.0 c.deref.ensures.value read.2 in
    let dealt : stores ≡ shards b (set_of read.0) = c.in_ok-stores.ensures.stores ∙ ap (shards b) same in
    let room : HasRoom a.table.cap (shards b (set_of read.0)) =
    subst (HasRoom a.table.cap) dealt (room_is _ a.table.cap stores c.in_ok-stores.ensures.room (search rules)) in
    let made : all_of stores ≡ set_of read.0 =
    whole b (set_of read.0) stores c.self.invariant.low (set_of_is_set read.0) dealt in
    subst (λ (s : ShardsState). (x : List Item) × (file_items c.args.form c.args.text.now ≡ Ok x)
    × HasRoom s.accepted.table.cap (shards s.bits (set_of x))
    × (state_of a name b (all_of stores) ≡ with_all s (set_of x))) c.self.view_is
    (read.0, read.1, room, ap (λ A. state_of a name b A) made)
