use Rattle.std.proofs.Common.{◌≡◌, ◌≤◌, ◌++◌, ◌∙◌, [], ap, length, arith}
use Rattle.std.proofs.lemmas.List.{append-nil}
use Rattle.range_tree.proofs.Pieces.{halves, halves_are}
use Rattle.range_tree.proofs.leaf.Leaf.one_or_two.Goals as goal
use Rattle.range_tree.proofs.leaf.Leaf.one_or_two.Goals.{In_ok-back}

-- how long the two leaves are
cut : (c : goal.In_ok-back) → (length c.in_ok-front.front ≡ 32) × (32 ≤ length c.in_ok-back.back)
    × (length c.in_ok-back.back ≤ 64)
cut c =
    let more = c.if-len-le64.false in
    let len = c.len.ensures.length in
    halves c.args.packed c.in_ok-front.front c.in_ok-back.back c.len-2.result c.in_ok-front.ensures
    c.in_ok-back.ensures c.len-2.ensures.length (omega arith) c.requires.few

pub of-requires-2-clause-small : goal.of-requires-2-clause-small
of-requires-2-clause-small c =
    let first = (cut (goal.at.of-requires-2-clause-small c).In_ok-back).0 in omega arith

pub of-requires-3-clause-some : goal.of-requires-3-clause-some
of-requires-3-clause-some c =
    let second = (cut (goal.at.of-requires-3-clause-some c).In_ok-back).1 in omega arith

pub of-requires-3-clause-small : goal.of-requires-3-clause-small
of-requires-3-clause-small c =
    let second = (cut (goal.at.of-requires-3-clause-small c).In_ok-back).2 in omega arith

pub returns-clause-items : goal.returns-clause-items
returns-clause-items c =
    (λ j. c.of-2.ensures j ++ (c.of-3.ensures j ++ [])) ∙ ap (λ t. c.in_ok-front.front ++ t)
    (append-nil c.in_ok-back.back) ∙ halves_are c.args.packed c.in_ok-front.front c.in_ok-back.back
    c.len-2.result c.in_ok-front.ensures c.in_ok-back.ensures c.len-2.ensures.length

pub returns-clause-widths : goal.returns-clause-widths
returns-clause-widths c =
    let both = cut (goal.at.returns-clause-widths c).In_ok-back in
    let first = both.0 in
    let second = both.1 in
    let first_is = ap length c.of-2.ensures in
    let second_is = ap length c.of-3.ensures in
    (omega arith, omega arith)
