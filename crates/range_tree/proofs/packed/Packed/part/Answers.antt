use Rattle.std.proofs.Common.{◌≤◌, ◌-◌, ◌∙◌, length, map, take, drop, arith, rules}
use Rattle.range_tree.specs.Nodes.{span}
use Rattle.range_tree.specs.Packs.{IsPack}
use Rattle.range_tree.proofs.Pieces.{pack_part, pack_is, pack_whole, starts_rise, part_above}
use Rattle.range_tree.proofs.Fields.{packed, as_many_ends, as_many_sums, start_inside, start_fits}
use Rattle.range_tree.proofs.packed.Packed.part.Goals as goal

pub slice_bounds-from_slice-count : goal.slice_bounds-from_slice-count
slice_bounds-from_slice-count c =
    rw (c.start-start.ensures, c.start-end.ensures) (starts_rise c.args.from c.args.to c.args.self.now c.requires.from)

pub slice_bounds-from_slice-start : goal.slice_bounds-from_slice-start
slice_bounds-from_slice-start c = let rise = slice_bounds-from_slice-count c in search (rules, rise)

pub slice_bounds-from_slice-end : goal.slice_bounds-from_slice-end
slice_bounds-from_slice-end c =
    let within = start_inside c.self.inside c.args.self.now c.self.invariant c.self.view_is c.args.to c.start-end.result
    c.start-end.ensures c.deref.result.now c.deref.ensures.value in
    search (rules, within)

pub slice_bounds-earlier-end : goal.slice_bounds-earlier-end
slice_bounds-earlier-end c =
    let many = as_many_ends c.self.inside c.args.self.now c.self.invariant c.self.view_is c.deref-2.result.now
    c.deref-2.ensures.value in
    let high = c.requires.to in
    let within : c.args.to ≤ length c.deref-2.result.now = omega arith in
    search (rules, within)

pub overflow_cast-start : goal.overflow_cast-start
overflow_cast-start c =
    let low = start_fits c.self.inside c.args.self.now c.self.invariant c.self.view_is c.args.from c.start-start.result
    c.start-start.ensures in
    search (rules, low)

pub earlier-requires : goal.earlier-requires
earlier-requires c =
    let pack = packed c.self.inside c.args.self.now c.self.invariant c.self.view_is in
    part_above c.args.self.now c.args.from c.args.to c.deref-2.result.now c.start-start.result
    (c.deref-2.ensures.value ∙ pack.are_ends) c.start-start.ensures c.requires.from

pub part-requires-clause-to : goal.part-requires-clause-to
part-requires-clause-to c =
    let many = as_many_sums c.self.inside c.args.self.now c.self.invariant c.self.view_is c.deref-3.result.now
    c.deref-3.ensures.value in
    let high = c.requires.to in
    omega arith

-- what is made are the fields of the items between the places
made : (c : goal.In_ok-part) → IsPack (span c.args.from c.args.to c.args.self.now) c.in_ok-from_slice.field-0.items
    c.in_ok-earlier.field-0.items c.in_ok-part.field-0.items
made c =
    let p = c.self.inside in
    let xs = c.args.self.now in
    let from = c.args.from in
    let to = c.args.to in
    let pack = packed p xs c.self.invariant c.self.view_is in
    pack_part xs from to p.bytes.items p.ends.items c.in_ok-from_slice.field-0.items c.in_ok-earlier.field-0.items
    p.sums.items c.in_ok-part.field-0.items pack c.requires.from c.requires.to
    (c.in_ok-from_slice.ensures.items ∙ (λ j. take (c.start-end.ensures j - c.start-start.ensures j)
    (drop (c.start-start.ensures j) (c.deref.ensures.value j))))
    (c.in_ok-earlier.ensures ∙ (λ j. map (λ e. e - c.start-start.ensures j)
    (take (to - from) (drop from (c.deref-2.ensures.value j)))))
    (c.in_ok-part.ensures xs (c.deref-3.ensures.value ∙ pack.are_sums))

pub invariant_of-result : goal.invariant_of-result
invariant_of-result c = pack_whole _ _ _ _ (made c)

pub returns : goal.returns
returns c = pack_is _ _ _ _ (made c)
