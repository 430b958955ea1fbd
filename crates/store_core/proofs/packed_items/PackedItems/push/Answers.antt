use Rattle.std.proofs.Common.{rules, ◌∙◌, ◌∷◌, ◌++◌, [], ap}
use Rattle.store_core.proofs.Packs.{packed_rise, packed_is}
use Rattle.store_core.proofs.packed_items.PackedItems.push.Goals as goal

pub invariant_of-self-2 : goal.invariant_of-self-2
invariant_of-self-2 c =
    packed_rise c.self.inside.ends.items c.self.inside.bytes.items c.args.item.now c.extend_from_slice.new.self.items
    c.push_reserved.new.self.items c.self.invariant c.bytes-bytes.ensures.item.not_empty
    c.bytes-bytes.ensures.item.not_long (search rules) (search rules)

pub returns-clause-pushed : goal.returns-clause-pushed
returns-clause-pushed c =
    packed_is c.self.inside.ends.items c.self.inside.bytes.items c.args.item.now c.extend_from_slice.new.self.items
    c.push_reserved.new.self.items c.self.invariant c.bytes-bytes.ensures.item.not_empty
    c.bytes-bytes.ensures.item.not_long (search rules) (search rules)
    ∙ ap (λ xs. xs ++ c.args.item.now ∷ []) c.self.view_is
