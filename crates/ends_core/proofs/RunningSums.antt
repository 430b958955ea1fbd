-- The inner cuts of sizes are their running sums: they rise, and are below the sum of all.
use Rattle.std.proofs.Common.{◌≡◌, ℕ, zero, suc, ◌+◌, ◌-◌, ◌<◌, ◌≤◌, List, [], ◌∷◌, ◌++◌, length, take, sum, get_or}
use Rattle.std.proofs.Common.{refl, sym, ap, ◌∙◌, arith, take_all}
use Rattle.std.proofs.lemmas.List.{take_more}
use Rattle.std.specs.List.{AllByRecursion}
use Rattle.std.specs.List.Sorted.{IsStrictlySortedBy}
use Rattle.std.proofs.lemmas.List.Sums.{sum_by-cons}
use Rattle.std.specs.Ordering.{nat_cmp}
use Rattle.std.specs.Cmp.{nat_cmp_is}
use Rattle.std.specs.declared.cmp.Ordering.TheVariants.{Less}
use Rattle.definitions.specs.Replies.{inner_cuts}

sum-cons : (x : ℕ) (xs : List ℕ) → sum (x ∷ xs) ≡ x + sum xs
sum-cons x xs = sum_by-cons (λ y. y) x xs

all_above : (low start : ℕ) (sizes : List ℕ) → low ≤ start → AllByRecursion (λ s. 0 < s) sizes →
    AllByRecursion (λ y. nat_cmp low y ≡ Less) (inner_cuts start sizes)
all_above low start [] le some = tt
all_above low start (s ∷ []) le some = tt
all_above low start (s ∷ t ∷ ss) le some = (
  sym (nat_cmp_is low (start + s) Less (omega (arith, some.0))),
  all_above low (start + s) (t ∷ ss) (omega arith) some.1,
)

pub cuts_rise : (start : ℕ) (sizes : List ℕ) → AllByRecursion (λ s. 0 < s) sizes →
    IsStrictlySortedBy nat_cmp (start ∷ inner_cuts start sizes)
unfolding IsStrictlySortedBy
cuts_rise start [] some = (tt, tt)
cuts_rise start (s ∷ []) some = (tt, tt)
cuts_rise start (s ∷ t ∷ ss) some =
    (all_above start start (s ∷ t ∷ ss) (omega arith) some, cuts_rise (start + s) (t ∷ ss) some.1)

all_within : (m n : ℕ) (ys : List ℕ) → m ≤ n → AllByRecursion (λ y. y < m) ys → AllByRecursion (λ y. y < n) ys
all_within m n [] le h = tt
all_within m n (y ∷ ys) le h = (omega (arith, h.0), all_within m n ys le h.1)

pub cuts_within : (start : ℕ) (sizes : List ℕ) → AllByRecursion (λ s. 0 < s) sizes →
    AllByRecursion (λ y. y < start + sum sizes) (inner_cuts start sizes)
cuts_within start [] some = tt
cuts_within start (s ∷ []) some = tt
cuts_within start (s ∷ t ∷ ss) some = (
  omega (arith, some.1.0, sum-cons s (t ∷ ss), sum-cons t ss),
  all_within (start + s + sum (t ∷ ss)) (start + sum (s ∷ t ∷ ss)) (inner_cuts (start + s) (t ∷ ss))
      (omega (arith, sum-cons s (t ∷ ss))) (cuts_within (start + s) (t ∷ ss) some.1),
)

cuts_least : (start : ℕ) (sizes : List ℕ) (j d : ℕ) → j < length (inner_cuts start sizes) →
    start ≤ get_or (inner_cuts start sizes) j d
cuts_least start [] j d low = absurd (omega arith)
cuts_least start (s ∷ []) j d low = absurd (omega arith)
cuts_least start (s ∷ t ∷ ss) zero d low = omega arith
cuts_least start (s ∷ t ∷ ss) (suc j) d low =
    let rest : start + s ≤ get_or (inner_cuts (start + s) (t ∷ ss)) j d =
    cuts_least (start + s) (t ∷ ss) j d (omega arith) in
    omega arith

-- whatever the sizes, no cut is below one before it
pub cuts_order : (start : ℕ) (sizes : List ℕ) (i j d : ℕ) → i ≤ j → j < length (inner_cuts start sizes) →
    get_or (inner_cuts start sizes) i d ≤ get_or (inner_cuts start sizes) j d
cuts_order start [] i j d le low = absurd (omega arith)
cuts_order start (s ∷ []) i j d le low = absurd (omega arith)
cuts_order start (s ∷ t ∷ ss) zero zero d le low = omega arith
cuts_order start (s ∷ t ∷ ss) zero (suc j) d le low = cuts_least (start + s) (t ∷ ss) j d (omega arith)
cuts_order start (s ∷ t ∷ ss) (suc i) zero d le low = absurd (omega arith)
cuts_order start (s ∷ t ∷ ss) (suc i) (suc j) d le low =
    cuts_order (start + s) (t ∷ ss) i j d (omega arith) (omega arith)

pub cut_at : (start : ℕ) (sizes : List ℕ) (j d : ℕ) → suc j < length sizes →
    get_or (inner_cuts start sizes) j d ≡ start + sum (take (suc j) sizes)
cut_at start [] j d low = absurd (omega arith)
cut_at start (s ∷ []) j d low = absurd (omega arith)
cut_at start (s ∷ t ∷ ss) zero d low = omega (arith, sum-cons s [])
cut_at start (s ∷ t ∷ ss) (suc j) d low =
    let rest : get_or (inner_cuts start (s ∷ t ∷ ss)) (suc j) d ≡ start + s + sum (take (suc j) (t ∷ ss)) =
    cut_at (start + s) (t ∷ ss) j d (omega arith) in
    omega (arith, sum-cons s (take (suc j) (t ∷ ss)))

pub length-inner_cuts : (start : ℕ) (sizes : List ℕ) → length (inner_cuts start sizes) ≡ length sizes - 1
length-inner_cuts start [] = refl
length-inner_cuts start (s ∷ []) = refl
length-inner_cuts start (s ∷ t ∷ ss) = omega (arith, length-inner_cuts (start + s) (t ∷ ss))

-- one cut more
pub cuts_more : (sizes : List ℕ) (j : ℕ) → 1 ≤ j → j < length sizes →
    take (j - 1) (inner_cuts 0 sizes) ++ sum (take j sizes) ∷ [] ≡ take (j + 1 - 1) (inner_cuts 0 sizes)
cuts_more sizes zero some low = absurd (omega arith)
cuts_more sizes (suc i) some low =
    let cuts = inner_cuts 0 sizes in
    let before : suc i - 1 ≡ i = omega arith in
    let next : suc i + 1 - 1 ≡ i + 1 = omega arith in
    let inside : i < length cuts = omega (arith, length-inner_cuts 0 sizes) in
    let here : get_or cuts i 0 ≡ sum (take (suc i) sizes) = omega (arith, cut_at 0 sizes i 0 low) in
    rw (before, next) (ap (λ (x : ℕ). take i cuts ++ x ∷ []) (sym here) ∙ sym (take_more cuts i 0 inside))

-- these are all of them
pub cuts_all : (sizes : List ℕ) (j : ℕ) → length sizes ≤ j → take (j - 1) (inner_cuts 0 sizes) ≡ inner_cuts 0 sizes
cuts_all sizes j all = take_all (j - 1) (inner_cuts 0 sizes) (omega (arith, length-inner_cuts 0 sizes))
