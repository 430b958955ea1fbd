use Rattle.std.proofs.Common.{rules, arith, ◌≡◌, ◌+◌, ◌<◌, ◌^◌, ◌∙◌, ◌++◌, ℕ, List, length, get_or, sym, subst}
use Rattle.store_core.proofs.Packs.{moved_low, joined_rise, joined_is}
use Rattle.store_core.proofs.packed_items.PackedItems.append.Goals as goal

pub push_ends-requires-clause-low : goal.push_ends-requires-clause-low
push_ends-requires-clause-low c =
    let p = c.self.inside in
    let q = c.others.inside in
    let from : c.in_ok-from.from ≡ length p.bytes.items = search rules in
    let all : c.in_ok-_end._end ≡ length p.bytes.items + length q.bytes.items = search rules in
    let small : c.in_ok-_end._end < 2 ^ 32 = search rules in
    let few : c.in_ok-from.from + length q.bytes.items < 2 ^ 32 = omega arith in
    subst (λ (es : List ℕ). (k : ℕ) → k < length es → c.in_ok-from.from + get_or es k 0 < 2 ^ 32)
    (sym c.deref-2.ensures.value)
    (moved_low c.in_ok-from.from q.ends.items (length q.bytes.items) c.others.invariant few)

pub invariant_of-self-2 : goal.invariant_of-self-2
invariant_of-self-2 c =
    let p = c.self.inside in
    let q = c.others.inside in
    joined_rise p.ends.items p.bytes.items q.ends.items q.bytes.items c.extend_from_slice.new.self.items
    c.push_ends.new.ends.items _ c.deref-2.result.now c.in_ok-from.from c.self.invariant c.others.invariant
    (search rules) c.push_ends.ensures c.in_ok-make_room.ensures.items (search rules) c.deref-2.ensures.value

pub returns-clause-appended : goal.returns-clause-appended
returns-clause-appended c =
    let p = c.self.inside in
    let q = c.others.inside in
    joined_is p.ends.items p.bytes.items q.ends.items q.bytes.items c.extend_from_slice.new.self.items
    c.push_ends.new.ends.items _ c.deref-2.result.now c.in_ok-from.from c.self.invariant c.others.invariant
    (search rules) c.push_ends.ensures c.in_ok-make_room.ensures.items (search rules) c.deref-2.ensures.value
    ∙ (λ i. c.self.view_is i ++ c.others.view_is i)
