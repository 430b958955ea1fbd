-- A set has no more items than the lists that it is made of.
use Rattle.std.proofs.Common.{◌+◌, ◌≤◌, List, [], ◌∷◌, length, arith}
use Rattle.std.specs.Ordering.{match_ordering}
use Rattle.std.specs.declared.cmp.Ordering.{Ordering}
use Rattle.std.specs.declared.cmp.Ordering.TheVariants.{Less, Equal, Greater}
use Rattle.definitions.specs.Items.{Item, item_cmp}
use Rattle.definitions.specs.Sets.{add_item, set_of, union}

put_few : (x y : Item) (ys : List Item) (o : Ordering) → length (add_item ys x) ≤ length ys + 1 →
    length (match_ordering o (x ∷ y ∷ ys) (y ∷ ys) (y ∷ add_item ys x)) ≤ length (y ∷ ys) + 1
put_few x y ys Less rest = omega arith
put_few x y ys Equal rest = omega arith
put_few x y ys Greater rest = omega (arith, rest)

add_few : (A : List Item) (x : Item) → length (add_item A x) ≤ length A + 1
add_few [] x = omega arith
add_few (y ∷ ys) x = put_few x y ys (item_cmp x y) (add_few ys x)

pub union_few : (A xs : List Item) → length (union A xs) ≤ length A + length xs
union_few A [] = omega arith
union_few A (x ∷ xs) = omega (arith, union_few (add_item A x) xs, add_few A x)

pub set_few : (xs : List Item) → length (set_of xs) ≤ length xs
set_few xs = omega (arith, union_few [] xs)
