use Rattle.std.proofs.Common.{◌≡◌, ◌+◌, ◌∷◌, [], ◌++◌, ◌∙◌, map, sym, ap, subst, arith, rules, Global}
use Rattle.std.specs.declared.sync.Arc.{Arc}
use Rattle.std.specs.Arc.{arc_value}
use Rattle.std.proofs.lemmas.List.{map-append, append_assoc}
use Rattle.std.proofs.lemmas.Result.{on_ok_weaker}
use Rattle.range_tree.specs.declared.leaf.Leaf.{Leaf}
use Rattle.range_tree.specs.Nodes.{IsFull}
use Rattle.range_tree.specs.Leaves.{leaf_width}
use Rattle.range_tree.proofs.Mending.{full_more, full_grown}
use Rattle.range_tree.proofs.part.push_leaf.Goals as goal
use Rattle.range_tree.proofs.part.push_leaf.Goals.{In-Some}

-- the leaves before the last one, and that one
before : (c : goal.In-Some) → IsFull leaf_width (map (arc_value {X = Leaf}) c.pop.new.self.items
    ++ arc_value c.in-Some.last ∷ [])
before c =
    subst (IsFull leaf_width) (ap (map (arc_value {X = Leaf})) c.in-Some.ensures.items
    ∙ map-append (arc_value {X = Leaf}) c.pop.new.self.items (c.in-Some.last ∷ [])) c.requires

pub returns-then-min-lt32-clause-full : goal.returns-then-min-lt32-clause-full
returns-then-min-lt32-clause-full c =
    let grown = full_grown leaf_width (map (arc_value {X = Leaf}) c.pop.new.self.items) (arc_value c.in-Some.last)
    (leaf_width (arc_value c.in-Some.last) + leaf_width (arc_value c.args.leaf)) c.in_ok-grown.grown
    (before (goal.at.returns-then-min-lt32-clause-full c).In-Some) (omega arith) (search rules) in
    on_ok_weaker c.push_grown.result (λ is. subst (IsFull leaf_width) (sym is) grown) c.push_grown.ensures

pub returns-clause-full : goal.returns-clause-full
returns-clause-full c =
    let value : Arc Leaf Global → Leaf = arc_value {X = Leaf} in
    let rest = c.pop.new.self.items in
    let last = c.in-Some.last in
    let leaf = c.args.leaf in
    let first : c.len.result ≡ leaf_width (value last) = c.len.ensures ∙ ap leaf_width c.deref.ensures in
    let second : c.len-2.result ≡ leaf_width (value leaf) = c.len-2.ensures ∙ ap leaf_width c.deref-2.ensures in
    let wide = c.if-min-lt32.false in
    let least = c.min.ensures in
    let is : map value c.push-3.new.self.items ≡ map value rest ++ value last ∷ value leaf ∷ [] =
    ap (map value) (c.in_ok-push-3.ensures.items ∙ ap (λ ls. ls ++ leaf ∷ []) c.in_ok-push-2.ensures.items
    ∙ append_assoc rest (last ∷ []) (leaf ∷ [])) ∙ map-append value rest (last ∷ leaf ∷ []) in
    subst (IsFull leaf_width) (sym is) (full_more leaf_width (map value rest) (value last) (value leaf)
    (before (goal.at.returns-clause-full c).In-Some) (omega arith) (omega arith))
