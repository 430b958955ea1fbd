use Rattle.std.proofs.Common.{◌≡◌, ◌<◌, ◌++◌, ◌∷◌, [], ◌^◌, ◌∙◌, ap, length, arith, rules, take}
use Rattle.std.proofs.lemmas.List.{length-append, length-take-le}
use Rattle.range_tree.specs.Packs.{IsPack}
use Rattle.range_tree.proofs.Pieces.{pack_none, pack_more, pack_all, pack_is, pack_whole, joined_most}
use Rattle.range_tree.proofs.packed.Packed.digested.Goals as goal

pub loop-item-init : goal.loop-item-init
loop-item-init c = rw (c.in_ok-bytes.ensures.items, c.in_ok-ends.ensures.items) pack_none

pub overflow_cast-len : goal.overflow_cast-len
overflow_cast-len c =
    let xs = c.args.items.now in
    let i = c.loop-item.item-index in
    let held = c.loop-item.invariant in
    let few = c.requires in
    let here = c.loop-item-test.true in
    let front = length-take-le i xs (omega arith) in
    let old = ap length held.are_joined in
    let most = joined_most (take i xs) held.are_items in
    let short = c.bytes.ensures.item.not_long in
    let same = ap length c.bytes.ensures.bytes in
    let sum = length-append c.loop-item.bytes.items c.bytes.result.now in
    let all = ap length c.in_ok-extend_from_slice.ensures.items in
    let len : c.len.result ≡ length c.extend_from_slice.new.self.items = search rules in
    let low : c.len.result < 2 ^ 16 = omega arith in
    search (rules, low)

pub loop-item-preserved : goal.loop-item-preserved
loop-item-preserved c =
    let bytes = c.loop-item.bytes.items in
    let ends = c.loop-item.ends.items in
    let len : c.len.result ≡ length c.extend_from_slice.new.self.items = search rules in
    pack_more c.args.items.now c.loop-item.item-index c.item-item.result bytes ends c.extend_from_slice.new.self.items
    c.push.new.self.items c.loop-item.invariant c.loop-item-test.true c.requires c.item-item.is c.bytes.ensures.item
    (c.in_ok-extend_from_slice.ensures.items ∙ ap (λ b. bytes ++ b) c.bytes.ensures.bytes)
    (c.in_ok-push.ensures.items ∙ ap (λ n. ends ++ n ∷ []) len)

-- what is made are the fields of all items
made : (c : goal.In_ok-running) → IsPack c.args.items.now c.loop-item.bytes.items c.loop-item.ends.items
    c.in_ok-running.field-0.items
made c =
    pack_all c.args.items.now c.loop-item.item-index c.loop-item.bytes.items c.loop-item.ends.items
    c.in_ok-running.field-0.items c.loop-item.invariant c.loop-item-test.false c.in_ok-running.ensures.sums

pub invariant_of-result : goal.invariant_of-result
invariant_of-result c = pack_whole _ _ _ _ (made c)

pub returns-clause-items : goal.returns-clause-items
returns-clause-items c = pack_is _ _ _ _ (made c)
