-- Spans of a list: the one in which the items of a range stand, and what stands before one.
use Rattle.std.proofs.Common.{◌≡◌, ℕ, ◌+◌, ◌-◌, ◌≤◌, List, ◌++◌, not, take, drop, length, filter}
use Rattle.std.proofs.Common.{sym, ap, ◌∙◌, arith}
use Rattle.std.proofs.Math.Seq.{take-add}
use Rattle.std.proofs.lemmas.List.{drop-take, length-drop, length-take-le}
use Rattle.definitions.specs.Items.{Item, Range, comes_before, is_below}
use Rattle.definitions.specs.Sets.{items_in}
use Rattle.definitions.proofs.Partitions.{PassFirst, filter_is_back, filter_twice}
use Rattle.store_core.specs.Stores.{span}

-- the items from the lower bound on, as far as they are below the upper one
pub span_is : (A : List Item) (X : Range) (from n : ℕ) → PassFirst (λ z. comes_before z X.lower) A from →
    filter (λ z. is_below z X.upper) (drop from A) ≡ take n (drop from A) → span from (from + n) A ≡ items_in A X
span_is A X from n parted front =
    drop-take from n A ∙ sym front
    ∙ ap (filter (λ z. is_below z X.upper)) (sym (filter_is_back (λ z. comes_before z X.lower) A from parted))
    ∙ filter_twice (λ z. not (comes_before z X.lower)) (λ z. is_below z X.upper) A

-- a span as a slice has it
pub span_slice : {X : Type 0} (A : List X) (from to : ℕ) → from ≤ to → take (to - from) (drop from A) ≡ span from to A
span_slice A from to order =
    let all : from + (to - from) ≡ to = omega (arith, order) in
    sym (drop-take from (to - from) A) ∙ ap (λ n. span from n A) all

-- the items up to the end of a span: those before the span, and then the span
pub front_and_span : {X : Type 0} (A : List X) (from to : ℕ) → from ≤ to → take to A ≡ take from A ++ span from to A
front_and_span A from to order =
    let all : from + (to - from) ≡ to = omega (arith, order) in
    ap (λ n. take n A) (sym all) ∙ take-add from (to - from) A
    ∙ ap (λ xs. take from A ++ xs) (span_slice A from to order)

-- how many elements a span has that ends within the list
pub length-span : {X : Type 0} (A : List X) (from to : ℕ) → to ≤ length A → length (span from to A) ≡ to - from
length-span A from to low = omega (arith, length-drop from (take to A), length-take-le to A low)
