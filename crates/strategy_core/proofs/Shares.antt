-- The shares of what is left of the weights, after some of them.
use Rattle.std.proofs.Common.{◌≡◌, ℕ, zero, suc, ◌+◌, ◌-◌, ◌*◌, ◌/◌, ◌<◌, ◌≤◌, Bool, true, false, List, [], ◌∷◌, length}
use Rattle.std.proofs.Common.{take, drop, refl, sym, ap, subst, ◌∙◌, arith, sum, cond, max, inl, inr}
use Rattle.std.specs.Prelude.{nat_lt, slice_index_or}
use mir.Val.{bool_byte}
use Rattle.std.specs.List.{AllByRecursion}
use Rattle.std.proofs.lemmas.Bool.{ltb-false, cases_lt, lt-ltb, le-ltb, cond-true, cond-false}
use Rattle.std.proofs.lemmas.List.{drop_more, drop_all}
use Rattle.std.proofs.lemmas.List.Sums.{sum_by-cons}
use Rattle.std.proofs.lemmas.Nat.{le-div}
use Rattle.std.proofs.Math.Nat.{zero-div, div-mul-le_self, mul-le-mul_left}
use Rattle.definitions.specs.Strategies.{running_sums, differences, cuts_by, without_zeros, shares_by, Split}
use Rattle.strategy_core.specs.Acts.{greatest}
use Rattle.strategy_core.specs.Weighed.{IsWeighed}
use Rattle.strategy_core.specs.declared.act.Cutting.{Cutting}

pub sum-cons : (x : ℕ) (xs : List ℕ) → sum (x ∷ xs) ≡ x + sum xs
sum-cons x xs = sum_by-cons (λ n. n) x xs

pub count_more : (d : ℕ) (ds : List ℕ) →
    length (without_zeros (d ∷ ds)) ≡ length (without_zeros (d ∷ [])) + length (without_zeros ds)
count_more d ds = elim (nat_lt 0 d) as (λ b. length (cond b (d ∷ without_zeros ds) (without_zeros ds))
    ≡ length (cond b (d ∷ []) []) + length (without_zeros ds)) [ true ↦ omega arith | false ↦ omega arith ]

pub greatest_more : (d : ℕ) (ds : List ℕ) → greatest (without_zeros (d ∷ ds)) ≡ max d (greatest (without_zeros ds))
greatest_more d ds =
    let either : (b : Bool) → nat_lt 0 d ≡ b →
    greatest (cond b (d ∷ without_zeros ds) (without_zeros ds)) ≡ max d (greatest (without_zeros ds)) =
    elim [ true ↦ λ e. refl | false ↦ λ e. omega (arith, ltb-false 0 d e) ] in
    either (nat_lt 0 d) refl

-- of at least one share, the first comes first
pub taken_more : (d j : ℕ) (ds : List ℕ) → 0 < j →
    sum (take j (without_zeros (d ∷ ds))) ≡ d + sum (take (j - cond (nat_lt 0 d) 1 0) (without_zeros ds))
taken_more d zero ds h = absurd (omega arith)
taken_more d (suc j) ds h =
    let either : (b : Bool) → nat_lt 0 d ≡ b → sum (take (suc j) (cond b (d ∷ without_zeros ds) (without_zeros ds)))
    ≡ d + sum (take (suc j - cond b 1 0) (without_zeros ds)) =
    elim [
      | true ↦ λ e. let less : j ≡ suc j - 1 = omega arith in
          sum-cons d (take j (without_zeros ds)) ∙ ap (λ k. d + sum (take k (without_zeros ds))) less
      | false ↦ λ e. let same : suc j ≡ suc j - 0 = omega arith in let none = ltb-false 0 d e in
          let rest = ap (λ k. sum (take k (without_zeros ds))) same in omega arith
    ] in
    either (nat_lt 0 d) refl

pub weights-positive : (ws : List ℕ) → AllByRecursion (λ w. (1 ≤ w) × (w ≤ 1024)) ws → length ws ≤ sum ws
weights-positive [] h = omega arith
weights-positive (w ∷ ws) h = omega (arith, h.0.0, weights-positive ws h.1, sum-cons w ws)

pub weights-few : (ws : List ℕ) → AllByRecursion (λ w. (1 ≤ w) × (w ≤ 1024)) ws → sum ws ≤ 1024 * length ws
weights-few [] h = omega arith
weights-few (w ∷ ws) h = omega (arith, h.0.1, weights-few ws h.1, sum-cons w ws)

-- ---- a walk over the weights

div-le-div : (a b k : ℕ) → 0 < k → a ≤ b → a / k ≤ b / k
div-le-div a b k some h = le-div (a / k) b k some (omega (arith, div-mul-le_self a k))

-- after weights of the sum reached the last cut is at cut, and these weights are still to come
pub record IsAt (weights : List ℕ) (n reached cut : ℕ) (ws : List ℕ) : Type 0 where
  pub some : 0 < sum weights
  pub reached_is : reached + sum ws ≡ sum weights
  pub cut_is : cut ≡ n * reached / sum weights

pub at_start : (weights : List ℕ) (n total : ℕ) → IsWeighed weights total → IsAt weights n 0 0 weights
at_start weights n total weighed = record {
  some = let two = weighed.weights_are.0 in omega (arith, weights-positive weights weighed.weights_are.2);
  reached_is = omega arith;
  cut_is = let none : 0 ≡ n * 0 = omega arith in sym (zero-div (sum weights)) ∙ ap (λ m. m / sum weights) none;
}

-- the cut after the next weight
pub record IsNext (weights : List ℕ) (n reached w next : ℕ) : Type 0 where
  pub next_is : next ≡ n * (reached + w) / sum weights

pub at_next : (weights : List ℕ) (n reached cut w next : ℕ) (ws : List ℕ) → IsNext weights n reached w next →
    IsAt weights n reached cut (w ∷ ws) → IsAt weights n (reached + w) next ws
at_next weights n reached cut w next ws is at = record {
  some = at.some;
  reached_is = let all = at.reached_is in omega (arith, sum-cons w ws);
  cut_is = is.next_is;
}

pub cut_below : (weights : List ℕ) (n reached cut w next : ℕ) (ws : List ℕ) → IsNext weights n reached w next →
    IsAt weights n reached cut (w ∷ ws) → cut ≤ next
cut_below weights n reached cut w next ws is at =
    let rises : n * reached ≤ n * (reached + w) = mul-le-mul_left n (omega arith) in
    let below = div-le-div (n * reached) (n * (reached + w)) (sum weights) at.some rises in
    omega (arith, at.cut_is, is.next_is)

pub reached_within : (weights : List ℕ) (n reached cut w total : ℕ) (ws : List ℕ) → IsWeighed weights total →
    IsAt weights n reached cut (w ∷ ws) → reached + w ≤ total
reached_within weights n reached cut w total ws weighed at =
    omega (arith, sum-cons w ws, at.reached_is, weighed.total_is)

-- the shares after it
abbrev pub shares_left : List ℕ → ℕ → ℕ → ℕ → List ℕ → List ℕ
shares_left weights n reached cut ws = without_zeros (differences cut (cuts_by weights n (running_sums reached ws)))

left_more : (weights : List ℕ) (n reached cut w next : ℕ) (ws : List ℕ) → IsNext weights n reached w next →
    shares_left weights n reached cut (w ∷ ws)
    ≡ without_zeros ((next - cut) ∷ differences next (cuts_by weights n (running_sums (reached + w) ws)))
left_more weights n reached cut w next ws is = ap
    (λ m. without_zeros ((m - cut) ∷ differences m (cuts_by weights n (running_sums (reached + w) ws))))
    (sym is.next_is)

-- the shares so far, and those that are left, are all
pub record IsCounted (weights : List ℕ) (n reached cut : ℕ) (ws : List ℕ) (cutting : Cutting) : Type 0 where
  pub count : cutting.count + length (shares_left weights n reached cut ws) ≡ length (shares_by (Split weights) n)
  pub greatest : max cutting.greatest (greatest (shares_left weights n reached cut ws))
      ≡ greatest (shares_by (Split weights) n)

pub counted_more : (weights : List ℕ) (n reached cut w next : ℕ) (ws : List ℕ) (old new : Cutting) →
    IsNext weights n reached w next →
    new.count ≡ old.count + length (without_zeros ((next - cut) ∷ [])) → new.greatest ≡ max old.greatest (next - cut) →
    IsCounted weights n reached cut (w ∷ ws) old → IsCounted weights n (reached + w) next ws new
counted_more weights n reached cut w next ws old new is count top counted =
    let same = left_more weights n reached cut w next ws is in
    record {
      count =
          let more = count_more (next - cut) (differences next (cuts_by weights n (running_sums (reached + w) ws))) in
          omega (arith, counted.count, ap length same);
      greatest = let more =
          greatest_more (next - cut) (differences next (cuts_by weights n (running_sums (reached + w) ws))) in
          omega (arith, counted.greatest, ap greatest same);
    }

-- the cut so far, and so many of the shares that are left, are the cut
pub record IsTaken (weights : List ℕ) (n j reached cut left : ℕ) (ws : List ℕ) : Type 0 where
  pub total : cut + sum (take left (shares_left weights n reached cut ws)) ≡ sum (take j (shares_by (Split weights) n))

pub taken_on : (weights : List ℕ) (n j reached cut w next left : ℕ) (ws : List ℕ) → IsNext weights n reached w next →
    IsAt weights n reached cut (w ∷ ws) → 0 < left →
    IsTaken weights n j reached cut left (w ∷ ws) →
    IsTaken weights n j (reached + w) next (left - cond (nat_lt 0 (next - cut)) 1 0) ws
taken_on weights n j reached cut w next left ws is at some taken =
    let same = left_more weights n reached cut w next ws is in
    record {
      total =
          let below = cut_below weights n reached cut w next ws is at in
          let more =
          taken_more (next - cut) left (differences next (cuts_by weights n (running_sums (reached + w) ws))) some in
          omega (arith, taken.total, ap (λ (xs : List ℕ). sum (take left xs)) same);
    }

-- ---- the same at an index of the weights

pub next_at : {A : Type 0} (P : List A → Type 0) (xs items : List A) (i : ℕ) (d : A) → items ≡ xs → i < length items →
    P (drop i xs) → P (slice_index_or items i d ∷ drop (i + 1) xs)
next_at P xs items i d same here p =
    let there : i < length xs = omega (arith, ap length same) in
    subst (λ (ys : List _). P (slice_index_or ys i d ∷ drop (i + 1) xs)) (sym same) (subst P (drop_more xs i d there) p)

pub total_small : (weights : List ℕ) (total : ℕ) → IsWeighed weights total → total ≤ 65536
total_small weights total weighed = let few = weighed.weights_are.1 in
    omega (arith, weights-few weights weighed.weights_are.2, weighed.total_is)

pub counted_none : (weights : List ℕ) (n : ℕ) → IsCounted weights n 0 0 weights (record { count = 0; greatest = 0 })
counted_none weights n = record { count = omega arith; greatest = omega arith }

pub is_next : (weights : List ℕ) (n reached w total next : ℕ) → IsWeighed weights total →
    next ≡ n * (reached + w) / total → IsNext weights n reached w next
is_next weights n reached w total next weighed e =
    record { next_is = e ∙ ap (λ m. n * (reached + w) / m) weighed.total_is }

pub one_at_most : (d : ℕ) → length (without_zeros (d ∷ [])) ≤ 1
one_at_most d = elim (nat_lt 0 d) as (λ b. length (cond b (d ∷ []) []) ≤ 1) [ true ↦ omega arith | false ↦ omega arith ]

pub counted_all : (weights : List ℕ) (n reached cut i : ℕ) (cutting : Cutting) → length weights ≤ i →
    IsCounted weights n reached cut (drop i weights) cutting →
    (cutting.count ≡ length (shares_by (Split weights) n)) × (cutting.greatest ≡ greatest (shares_by (Split weights) n))
counted_all weights n reached cut i cutting past counted =
    let none = drop_all i weights past in
    let counted' : IsCounted weights n reached cut [] cutting =
    subst (λ (ws : List ℕ). IsCounted weights n reached cut ws cutting) none counted in
    (omega (arith, counted'.count), omega (arith, counted'.greatest))

pub taken_all : (weights : List ℕ) (n j reached cut left i : ℕ) → length weights ≤ i →
    IsTaken weights n j reached cut left (drop i weights) → cut ≡ sum (take j (shares_by (Split weights) n))
taken_all weights n j reached cut zero i past taken = omega (arith, taken.total)
taken_all weights n j reached cut (suc left) i past taken =
    let none = drop_all i weights past in
    let taken' : IsTaken weights n j reached cut (suc left) [] =
    subst (λ (ws : List ℕ). IsTaken weights n j reached cut (suc left) ws) none taken in
    omega (arith, taken'.total)

pub taken_none : (weights : List ℕ) (n j reached cut left : ℕ) (ws : List ℕ) → left ≡ 0 →
    IsTaken weights n j reached cut left ws → cut ≡ sum (take j (shares_by (Split weights) n))
taken_none weights n j reached cut zero ws e taken = omega (arith, taken.total)
taken_none weights n j reached cut (suc left) ws e taken = absurd (omega arith)

pub one_if_above : (cut next one : ℕ) → one ≡ bool_byte (nat_lt cut next) → one ≡ cond (nat_lt 0 (next - cut)) 1 0
one_if_above cut next one e = elim (cases_lt cut next) [
  | inl above ↦ (rw (lt-ltb cut next above) at e)
      ∙ sym (cond-true (nat_lt 0 (next - cut)) 1 0 (lt-ltb 0 (next - cut) (omega arith)))
  | inr below ↦ (rw (le-ltb cut next below) at e)
      ∙ sym (cond-false (nat_lt 0 (next - cut)) 1 0 (le-ltb 0 (next - cut) (omega arith)))
]

-- ---- at the weight that is read

module _ {weights : List ℕ} {n reached cut total : ℕ} (items : List ℕ) (i : ℕ) (weighed : IsWeighed weights total)
    (same : items ≡ weights) (here : i < length items) (at : IsAt weights n reached cut (drop i weights)) where
  pub at_read : IsAt weights n reached cut (slice_index_or items i 0 ∷ drop (i + 1) weights)
  at_read = next_at (λ (ws : List ℕ). IsAt weights n reached cut ws) weights items i 0 same here at

  pub reached_low : reached + slice_index_or items i 0 ≤ total
  reached_low =
      reached_within weights n reached cut (slice_index_or items i 0) total (drop (i + 1) weights) weighed at_read

  pub reached_small : reached + slice_index_or items i 0 ≤ 65536
  reached_small = omega (arith, reached_low, total_small weights total weighed)

  module _ (next : ℕ) (cuts : next ≡ n * (reached + slice_index_or items i 0) / total) where
    next_read : IsNext weights n reached (slice_index_or items i 0) next
    next_read = is_next weights n reached (slice_index_or items i 0) total next weighed cuts

    pub cut_rises : cut ≤ next
    cut_rises = cut_below weights n reached cut (slice_index_or items i 0) next (drop (i + 1) weights) next_read at_read

    pub at_more : IsAt weights n (reached + slice_index_or items i 0) next (drop (i + 1) weights)
    at_more = at_next weights n reached cut (slice_index_or items i 0) next (drop (i + 1) weights) next_read at_read
