-- How many items a range holds, and how many parts a reply has.
use Rattle.std.proofs.Common.{◌≤◌, List, length, arith}
use Rattle.std.proofs.lemmas.List.Sums.{count_by-le-length, length-filter}
use Rattle.definitions.specs.Items.{Item, Range, contains}
use Rattle.definitions.specs.Sets.{items_in}

pub items_few : (A : List Item) (X : Range) → length (items_in A X) ≤ length A
items_few A X = omega (arith, length-filter (contains X) A, count_by-le-length (contains X) A)
