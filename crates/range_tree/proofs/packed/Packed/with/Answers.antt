use Rattle.std.proofs.Common.{◌≡◌, ◌+◌, ◌<◌, ◌^◌, ◌∙◌, ◌∷◌, ◌++◌, ap, subst, length, map, take, drop, arith, rules, sym}
use Rattle.std.specs.List.{AllByRecursion}
use Rattle.range_tree.specs.Packs.{IsPack}
use Rattle.range_tree.proofs.Places.{put}
use Rattle.range_tree.proofs.Pieces.{pack_with, pack_is, pack_whole, joined_most, ends_fit}
use Rattle.range_tree.proofs.Fields.{packed, as_many_ends, as_many_sums, start_inside, start_most, start_fits}
use Rattle.range_tree.proofs.packed.Packed.with.Goals as goal

pub with_run-requires : goal.with_run-requires
with_run-requires c =
    start_inside c.self.inside c.args.self.now c.self.invariant c.self.view_is c.args.place c.start-start.result
    c.start-start.ensures c.deref.result.now c.deref.ensures.value

pub ends_with-requires-clause-place : goal.ends_with-requires-clause-place
ends_with-requires-clause-place c =
    let high = c.requires.place in
    omega (
      arith,
      as_many_ends c.self.inside c.args.self.now c.self.invariant c.self.view_is c.deref-2.result.now
          c.deref-2.ensures.value,
    )

pub ends_with-requires-clause-start : goal.ends_with-requires-clause-start
ends_with-requires-clause-start c =
    let most = start_most c.self.inside c.args.self.now c.self.invariant c.self.view_is c.args.place
    c.start-start.result c.start-start.ensures in
    let few = c.requires.few in
    let short = c.bytes-bytes.ensures.item.not_long in
    let same = ap length c.bytes-bytes.ensures.bytes in
    omega arith

pub ends_with-requires-clause-later : goal.ends_with-requires-clause-later
ends_with-requires-clause-later c =
    let xs = c.args.self.now in
    let pack = packed c.self.inside xs c.self.invariant c.self.view_is in
    let most = joined_most xs pack.are_items in
    let few = c.requires.few in
    let short = c.bytes-bytes.ensures.item.not_long in
    let same = ap length c.bytes-bytes.ensures.bytes in
    let n = length c.bytes-bytes.result.now in
    subst (λ es. AllByRecursion (λ e. e + n < 2 ^ 16) es) (sym (c.deref-2.ensures.value ∙ pack.are_ends))
    (ends_fit 0 n xs (omega arith))

pub with_hashed-requires : goal.with_hashed-requires
with_hashed-requires c =
    let high = c.requires.place in
    let many = as_many_sums c.self.inside c.args.self.now c.self.invariant c.self.view_is c.deref-3.result.now
    c.deref-3.ensures.value in
    omega arith

pub overflow_cast-start : goal.overflow_cast-start
overflow_cast-start c =
    let low = start_fits c.self.inside c.args.self.now c.self.invariant c.self.view_is c.args.place c.start-start.result
    c.start-start.ensures in
    search (rules, low)

-- what is made are the fields of the items with the new one
made : (c : goal.In_ok-with_hashed) → IsPack (put c.args.place c.args.hashed.now c.args.self.now)
    c.in_ok-with_run.field-0.items c.in_ok-ends_with.field-0.items c.in_ok-with_hashed.field-0.items
made c =
    let p = c.self.inside in
    let xs = c.args.self.now in
    let place = c.args.place in
    let x = c.args.hashed.now in
    let pack = packed p xs c.self.invariant c.self.view_is in
    let own : c.bytes-bytes.result.now ≡ x = c.bytes-bytes.ensures.bytes ∙ c.item.ensures.item in
    pack_with xs place x p.bytes.items p.ends.items c.in_ok-with_run.field-0.items c.in_ok-ends_with.field-0.items
    p.sums.items c.in_ok-with_hashed.field-0.items pack c.requires.few c.item.ensures.is_item
    (c.in_ok-with_run.ensures ∙ (λ j. take (c.start-start.ensures j) (c.deref.ensures.value j) ++ own j
    ++ drop (c.start-start.ensures j) (c.deref.ensures.value j)))
    (c.in_ok-ends_with.ensures ∙ (λ j. take place (c.deref-2.ensures.value j) ++ (c.start-start.ensures j
    + length (own j)) ∷ map (λ e. e + length (own j)) (drop place (c.deref-2.ensures.value j))))
    (c.in_ok-with_hashed.ensures xs (c.deref-3.ensures.value ∙ pack.are_sums))

pub invariant_of-result : goal.invariant_of-result
invariant_of-result c = pack_whole _ _ _ _ (made c)

pub returns : goal.returns
returns c = pack_is _ _ _ _ (made c)
