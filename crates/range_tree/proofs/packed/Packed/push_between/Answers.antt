use Rattle.std.proofs.Common.{◌<◌, ◌≤◌, ◌∷◌, ◌++◌, [], ◌∙◌, sym, ap, length, rules, append_assoc}
use Rattle.std.proofs.lemmas.List.{append-nil}
use Rattle.range_tree.specs.Nodes.{span}
use Rattle.range_tree.proofs.Pieces.{span_same, span_more}
use Rattle.range_tree.proofs.packed.Packed.push_between.Goals as goal

pub loop-place-init : goal.loop-place-init
loop-place-init c =
    let held = c.args.held.now.items in
    sym (ap (λ ys. held ++ ys) (span_same c.min-start.result c.args.self.now) ∙ append-nil held)

pub loop-place-preserved : goal.loop-place-preserved
loop-place-preserved c =
    let xs = c.args.self.now in
    let start = c.min-start.result in
    let place = c.loop-place.place in
    let old = c.args.held.now.items in
    let low : start ≤ place = search rules in
    let high : place < length xs = search rules in
    c.in_ok-push.ensures.items ∙ ap (λ ys. ys ++ c.item.result ∷ []) c.loop-place.invariant
    ∙ append_assoc old (span start place xs) (c.item.result ∷ [])
    ∙ ap (λ ys. old ++ ys) (sym (span_more start place xs c.item.result low high c.item.ensures))
