use Rattle.std.proofs.Common.{◌≡◌, ◌<◌, ◌/◌, ◌++◌, ◌∙◌, length, arith, rules}
use Rattle.std.proofs.lemmas.List.{take-append-drop}
use Rattle.std.proofs.lemmas.Result.{IfOk-weaker}
use Rattle.range_tree.specs.Loads.{AreLeavesOf}
use Rattle.range_tree.proofs.Joins.{leaves_joined}
use Rattle.range_tree.proofs.loading.+fn-leaves_by-join+arg2+fn-leaves_by-join+arg3+leaves_by.Goals as goal

pub returns : goal.returns
returns g t c =
    let items = c.args.items.now in
    let front = c.split_at.result.0.now in
    let back = c.split_at.result.1.now in
    let many = c.if-items-lt-FEW.false in
    let front_len = c.split_at.ensures.front_len in
    let back_len = c.split_at.ensures.back_len in
    let more : 64 < length front = omega arith in
    let more_too : 64 < length back = omega arith in
    let cut : front ++ back ≡ items = (λ j. c.split_at.ensures.front j ++ c.split_at.ensures.back j)
    ∙ take-append-drop (length items / 2) items in
    let first : AreLeavesOf front c.in_ok-first.field-0.items = search rules in
    let second : AreLeavesOf back c.in_ok-second.field-0.items = search rules in
    IfOk-weaker c.both.result _ _ (λ held is. leaves_joined items front back c.in_ok-first.field-0.items
    c.in_ok-second.field-0.items held.items cut more more_too first second is) c.both.ensures
