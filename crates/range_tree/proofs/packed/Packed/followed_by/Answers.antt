use Rattle.std.proofs.Common.{◌≡◌, ◌+◌, ◌<◌, ◌^◌, ◌++◌, ◌∙◌, List, ℕ, ap, subst, length, map, take, arith, rules}
use Rattle.std.proofs.Common.{sym, take_all}
use Rattle.std.specs.List.{AllByRecursion}
use Rattle.definitions.specs.Items.{Item}
use Rattle.definitions.specs.Fingerprints.{join_lanes, two_lanes}
use Rattle.range_tree.specs.Packs.{joined, IsPack}
use Rattle.range_tree.proofs.Pieces.{pack_is, pack_whole, joined_most, ends_fit}
use Rattle.range_tree.proofs.Follows.{pack_both, run_at_end}
use Rattle.range_tree.proofs.Fields.{packed}
use Rattle.range_tree.proofs.packed.Packed.followed_by.Goals as goal

-- where those end that are followed
end_of_all : (xs : List Item) (start count : ℕ) → start ≡ length (joined (take count xs)) → count ≡ length xs →
    start ≡ length (joined xs)
end_of_all xs start count is all = is ∙ ap (λ zs. length (joined zs)) (take_all count xs (omega arith))

pub overflow_cast-start : goal.overflow_cast-start
overflow_cast-start c =
    let xs = c.args.self.now in
    let start = end_of_all xs c.start-start.result c.len.result c.start-start.ensures c.len.ensures.length in
    let most = joined_most xs c.len.ensures.are_items in
    let few = c.len.ensures.few in
    let low : c.start-start.result < 2 ^ 16 = omega arith in
    search (rules, low)

pub ends_and_later-requires : goal.ends_and_later-requires
ends_and_later-requires c =
    let xs = c.args.self.now in
    let ys = c.args.other.now in
    let n = c.start-start.result in
    let more = packed c.other.inside ys c.other.invariant c.other.view_is in
    let start = end_of_all xs n c.len.result c.start-start.ensures c.len.ensures.length in
    let most = joined_most xs c.len.ensures.are_items in
    let most_too = joined_most ys more.are_items in
    let few = c.requires in
    subst (AllByRecursion (λ e. e + n < 2 ^ 16)) (sym (c.deref-4.ensures.value ∙ more.are_ends))
    (ends_fit 0 n ys (omega arith))

-- what is made are the fields of the items of both
made : (c : goal.In_ok-sums_and_later) → IsPack (c.args.self.now ++ c.args.other.now) c.in_ok-with_run.field-0.items
    c.in_ok-ends_and_later.field-0.items c.in_ok-sums_and_later.field-0.items
made c =
    let xs = c.args.self.now in
    let ys = c.args.other.now in
    let p = c.self.inside in
    let q = c.other.inside in
    let start = end_of_all xs c.start-start.result c.len.result c.start-start.ensures c.len.ensures.length in
    let total = c.sum_before-total.ensures
    ∙ ap two_lanes.of (take_all c.len-2.result xs (omega (arith, c.len-2.ensures.length))) in
    let run = run_at_end c.len-3.result c.deref.result.now c.deref-2.result.now
    (omega (arith, c.len-3.ensures, c.deref.ensures.len)) in
    pack_both xs ys c.start-start.result c.sum_before-total.result start total p.bytes.items p.ends.items q.bytes.items
    q.ends.items c.in_ok-with_run.field-0.items c.in_ok-ends_and_later.field-0.items p.sums.items q.sums.items
    c.in_ok-sums_and_later.field-0.items (packed p xs c.self.invariant c.self.view_is)
    (packed q ys c.other.invariant c.other.view_is) c.requires
    (c.in_ok-with_run.ensures ∙ run ∙ (λ j. c.deref.ensures.value j ++ c.deref-2.ensures.value j))
    (c.in_ok-ends_and_later.ensures ∙ (λ j. c.deref-3.ensures.value j
    ++ map (λ end. end + c.start-start.result) (c.deref-4.ensures.value j)))
    (c.in_ok-sums_and_later.ensures ∙ (λ j. c.deref-5.ensures.value j
    ++ map (λ sum. join_lanes c.sum_before-total.result sum) (c.deref-6.ensures.value j)))

pub invariant_of-result : goal.invariant_of-result
invariant_of-result c = pack_whole _ _ _ _ (made c)

pub returns : goal.returns
returns c = pack_is _ _ _ _ (made c)
