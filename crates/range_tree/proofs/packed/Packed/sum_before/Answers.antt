use Rattle.std.proofs.Common.{◌∙◌}
use Rattle.store_core.proofs.Running.{fitted-within, sum-fitted}
use Rattle.range_tree.proofs.Fields.{packed}
use Rattle.range_tree.proofs.packed.Packed.sum_before.Goals as goal

pub before-requires : goal.before-requires
before-requires c =
    let xs = c.args.self.now in
    let pack = packed c.self.inside xs c.self.invariant c.self.view_is in
    fitted-within xs c.deref.result.now c.args.place c.min-fitted.result c.len.result
    (c.deref.ensures.value ∙ pack.are_sums) c.min-fitted.ensures c.len.ensures.length

pub returns : goal.returns
returns c =
    let xs = c.args.self.now in
    let pack = packed c.self.inside xs c.self.invariant c.self.view_is in
    sum-fitted xs c.args.place c.min-fitted.result c.len.result c.before-2.result c.min-fitted.ensures
    c.len.ensures.length (c.before-2.ensures xs (c.deref.ensures.value ∙ pack.are_sums))
