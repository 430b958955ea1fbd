-- How many nodes there are where one of them grew.
use Rattle.std.proofs.Common.{◌≡◌, ℕ, ◌+◌, ◌<◌, ◌≤◌, List, ◌++◌, take, drop, length, ap, arith}
use Rattle.std.proofs.lemmas.List.{length-append, length-take-le, length-drop}
use Rattle.range_tree.specs.declared.node.Grown.{Grown}
use Rattle.range_tree.specs.declared.node.Grown.TheVariants.{One, Two}
use Rattle.range_tree.specs.Grown.{grown_nodes}

two_most : {P : Type 0} (g : Grown P) → length (grown_nodes g) ≤ 2
two_most (One p) = omega arith
two_most (Two p q) = omega arith

one_least : {P : Type 0} (g : Grown P) → 1 ≤ length (grown_nodes g)
one_least (One p) = omega arith
one_least (Two p q) = omega arith

pub length_grown : {P : Type 0} (held ps : List P) (g : Grown P) (i : ℕ) → i < length ps →
    held ≡ take i ps ++ grown_nodes g ++ drop (i + 1) ps →
    (length held ≤ length ps + 1) × (length ps ≤ length held)
length_grown held ps g i low e =
    let all : length held ≡ length (take i ps ++ grown_nodes g ++ drop (i + 1) ps) = ap length e in
    let nodes = length-append (take i ps ++ grown_nodes g) (drop (i + 1) ps) in
    let first = length-append (take i ps) (grown_nodes g) in
    let front = length-take-le i ps (omega arith) in
    let back = length-drop (i + 1) ps in
    let most = two_most g in
    let least = one_least g in
    (omega arith, omega arith)
