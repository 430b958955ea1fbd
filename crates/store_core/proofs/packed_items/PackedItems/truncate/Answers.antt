use Rattle.std.proofs.Common.{◌∙◌, take, ap}
use Rattle.store_core.proofs.Packs.{cut_rise, cut_is}
use Rattle.store_core.proofs.packed_items.PackedItems.truncate.Goals as goal

pub invariant_of-self : goal.invariant_of-self
invariant_of-self c =
    cut_rise c.self.inside.ends.items c.self.inside.bytes.items c.truncate.new.self.items c.truncate-2.new.self.items
    c.deref.result.now c.args.count c.last_end-end.result c.self.invariant c.truncate.ensures.items
    c.last_end-end.ensures c.deref.ensures.value c.truncate-2.ensures.items

pub returns : goal.returns
returns c =
    cut_is c.self.inside.ends.items c.self.inside.bytes.items c.truncate.new.self.items c.truncate-2.new.self.items
    c.deref.result.now c.args.count c.last_end-end.result c.self.invariant c.truncate.ensures.items
    c.last_end-end.ensures c.deref.ensures.value c.truncate-2.ensures.items
    ∙ ap (take c.args.count) c.self.view_is
