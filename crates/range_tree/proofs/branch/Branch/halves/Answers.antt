use Rattle.std.proofs.Common.{◌++◌, [], ◌∙◌, map, take, drop, ap, arith}
use Rattle.std.specs.List.{flat_map}
use Rattle.std.specs.Arc.{arc_value}
use Rattle.range_tree.specs.declared.leaf.Leaf.{Leaf}
use Rattle.range_tree.specs.Nodes.{IsFull}
use Rattle.range_tree.specs.Leaves.{leaf_items, leaf_width}
use Rattle.range_tree.proofs.Places.{flat_halves}
use Rattle.range_tree.proofs.Widths.{parts_full}
use Rattle.range_tree.proofs.branch.Branch.halves.Goals as goal
use Rattle.range_tree.proofs.branch.Branch.halves.Goals.{In_ok-back}

-- the leaves of both halves are wide
wide : (c : goal.In_ok-back) →
    IsFull leaf_width (map (arc_value {X = Leaf}) (take 32 c.into_nodes-nodes.result.items))
    × IsFull leaf_width (map (arc_value {X = Leaf}) (drop 32 c.into_nodes-nodes.result.items))
wide c =
    let many = c.requires.more in
    parts_full leaf_width (arc_value {X = Leaf}) 32 c.into_nodes-nodes.result.items c.args.leaves
    c.into_nodes-nodes.ensures (omega arith) c.requires.full

pub of-requires-clause-full : goal.of-requires-clause-full
of-requires-clause-full c =
    rw c.in_ok-back.ensures.items (wide (goal.at.of-requires-clause-full c).In_ok-back).0

pub of-requires-2-clause-full : goal.of-requires-2-clause-full
of-requires-2-clause-full c =
    rw c.in_ok-back.ensures.tail (wide (goal.at.of-requires-2-clause-full c).In_ok-back).1

pub returns-clause-items : goal.returns-clause-items
returns-clause-items c =
    (λ i. flat_map leaf_items (c.in_ok-front.ensures i) ++ (flat_map leaf_items (c.in_ok-of.ensures i) ++ []))
    ∙ (λ i. flat_map leaf_items (map (arc_value {X = Leaf}) (c.in_ok-back.ensures.items i))
    ++ (flat_map leaf_items (map (arc_value {X = Leaf}) (c.in_ok-back.ensures.tail i)) ++ []))
    ∙ flat_halves leaf_items (arc_value {X = Leaf}) 32 c.into_nodes-nodes.result.items
    ∙ ap (flat_map leaf_items) c.into_nodes-nodes.ensures
