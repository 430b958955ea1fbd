use Rattle.std.proofs.Common.{rules, ◌≡◌, ◌≤◌, ◌∙◌, sym, ap, length, get_or, arith, Some}
use Rattle.store_core.proofs.Packs.{place_low, length_piece, item_spans, item_is}
use Rattle.store_core.proofs.packed_items.PackedItems.item.Goals as goal

pub start_of-start-requires : goal.start_of-start-requires
start_of-start-requires c =
    let p = c.self.inside in
    let within = place_low p.ends.items p.bytes.items c.args.self.now c.args.place c.self.view_is c.requires in
    omega (arith, within, ap length c.deref.ensures.value)

pub index-requires : goal.index-requires
index-requires c =
    let p = c.self.inside in
    let within = place_low p.ends.items p.bytes.items c.args.self.now c.args.place c.self.view_is c.requires in
    search (rules, within)

pub slice_bounds-of-count : goal.slice_bounds-of-count
slice_bounds-of-count c =
    let p = c.self.inside in
    let read : c.index.result.now ≡ get_or p.ends.items c.args.place c.index.result.now = search rules in
    let spans = item_spans p.ends.items p.bytes.items c.deref.result.now c.args.self.now c.args.place
    c.start_of-start.result c.index.result.now c.self.invariant c.self.view_is c.requires c.start_of-start.ensures
    c.deref.ensures.value read in
    omega (arith, spans.0)

pub slice_bounds-of-start : goal.slice_bounds-of-start
slice_bounds-of-start c = let rise = slice_bounds-of-count c in search (rules, rise)

pub slice_bounds-of-end : goal.slice_bounds-of-end
slice_bounds-of-end c =
    let p = c.self.inside in
    let read : c.index.result.now ≡ get_or p.ends.items c.args.place c.index.result.now = search rules in
    let spans = item_spans p.ends.items p.bytes.items c.deref.result.now c.args.self.now c.args.place
    c.start_of-start.result c.index.result.now c.self.invariant c.self.view_is c.requires c.start_of-start.ensures
    c.deref.ensures.value read in
    let value = ap length c.deref-2.ensures.value in
    let high : c.index.result.now ≤ length c.deref-2.result.now = omega (arith, spans.2, value) in
    search (rules, high)

pub of-requires : goal.of-requires
of-requires c =
    let p = c.self.inside in
    let read : c.index.result.now ≡ get_or p.ends.items c.args.place c.index.result.now = search rules in
    let spans = item_spans p.ends.items p.bytes.items c.deref.result.now c.args.self.now c.args.place
    c.start_of-start.result c.index.result.now c.self.invariant c.self.view_is c.requires c.start_of-start.ensures
    c.deref.ensures.value read in
    let value = ap length c.deref-2.ensures.value in
    let size = length_piece c.start_of-start.result c.index.result.now c.deref-2.result.now
    (omega (arith, spans.2, value)) in
    (omega (arith, size, spans.0), omega (arith, size, spans.1))

pub returns : goal.returns
returns c =
    let p = c.self.inside in
    let read : c.index.result.now ≡ get_or p.ends.items c.args.place c.index.result.now = search rules in
    item_is p.ends.items p.bytes.items c.deref.result.now c.args.self.now c.args.place c.start_of-start.result
    c.index.result.now c.self.invariant c.self.view_is c.requires c.start_of-start.ensures c.deref.ensures.value read
    c.deref-2.result.now c.deref-2.ensures.value ∙ ap Some (sym c.of.ensures)
