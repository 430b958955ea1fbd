use Rattle.std.proofs.Common.{◌+◌, arith, rules}
use Rattle.range_tree.proofs.Pieces.{starts_rise}
use Rattle.range_tree.proofs.Fields.{start_inside, bytes_read, item_read}
use Rattle.range_tree.proofs.packed.Packed.bytes.Goals as goal

pub slice_bounds-result-count : goal.slice_bounds-result-count
slice_bounds-result-count c =
    rw (c.start.ensures, c.start-2.ensures)
    (starts_rise c.args.place (c.args.place + 1) c.args.self.now (omega arith))

pub slice_bounds-result-start : goal.slice_bounds-result-start
slice_bounds-result-start c = let rise = slice_bounds-result-count c in search (rules, rise)

pub slice_bounds-result-end : goal.slice_bounds-result-end
slice_bounds-result-end c =
    let within = start_inside c.self.inside c.args.self.now c.self.invariant c.self.view_is (c.args.place + 1)
    c.start-2.result c.start-2.ensures c.deref.result.now c.deref.ensures.value in
    search (rules, within)

pub returns-clause-bytes : goal.returns-clause-bytes
returns-clause-bytes c =
    bytes_read c.self.inside c.args.self.now c.self.invariant c.self.view_is c.args.place c.start.result c.start.ensures
    c.start-2.result c.deref.result.now c.requires c.start-2.ensures c.deref.ensures.value

pub returns-clause-item : goal.returns-clause-item
returns-clause-item c =
    item_read c.self.inside c.args.self.now c.self.invariant c.self.view_is c.args.place c.start.result c.start.ensures
    c.start-2.result c.deref.result.now c.requires c.start-2.ensures c.deref.ensures.value
