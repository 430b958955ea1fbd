-- The pieces of a span of a list, and lists that are made of others element by element.
-- A piece of a span is a span of the whole list, whose places are as many more as stand before the span
-- (`span_within`), and the last piece ends where the span does. So each piece of a span is the span between two places
-- of the whole list (`piece_is`).
use Rattle.std.proofs.Common.{◌≡◌, ℕ, zero, suc, ◌+◌, ◌-◌, ◌<◌, ◌≤◌, List, [], ◌∷◌, ◌++◌, map, take, drop, length}
use Rattle.std.proofs.Common.{get_or, refl, sym, ap, ◌∙◌, arith, inl, inr, ◌⊎◌, subst, sum}
use Rattle.std.proofs.lemmas.Bool.{cases_lt}
use Rattle.std.specs.List.{AllByRecursion}
use Rattle.std.specs.List.Sorted.{IsNonDecreasing}
use Rattle.std.proofs.lemmas.List.{get_or-map, length-map, take_more, map-append, append_assoc}
use Rattle.std.proofs.lemmas.List.{drop-take, drop-drop, length-drop, length-take-le}
use Rattle.definitions.specs.Items.{Item, Range}
use Rattle.definitions.specs.Replies.{inner_cuts}
use Rattle.definitions.specs.Sets.{items_in}
use Rattle.definitions.specs.Strategies.{Table, shares}
use Rattle.laws.specs.Ranks.{IsCut}
use Rattle.laws.specs.Cutting.{pieces_at}
use Rattle.store_core.specs.Stores.{span}
use Rattle.ends_core.proofs.RunningSums.{cuts_within}

pub map_goes_on : {X Y : Type 0} (f : X → Y) (xs : List X) (i : ℕ) (d : X) (y : Y) (before held now : List Y) →
    i < length xs → y ≡ f (get_or xs i d) → now ≡ held ++ y ∷ [] → held ≡ before ++ map f (take i xs) →
    now ≡ before ++ map f (take (i + 1) xs)
map_goes_on f xs i d y before held now low is adds so_far =
    adds ∙ ap (λ hs. hs ++ y ∷ []) so_far ∙ append_assoc before (map f (take i xs)) (y ∷ [])
    ∙ ap (λ z. before ++ (map f (take i xs) ++ z ∷ [])) is
    ∙ ap (λ zs. before ++ zs) (sym (map-append f (take i xs) (get_or xs i d ∷ []))
    ∙ ap (map f) (sym (take_more xs i d low)))

-- ---- spans of spans

take_shorter : (n m : ℕ) (A : List Item) → n ≤ m → take n (take m A) ≡ take n A
take_shorter zero m A low = refl
take_shorter (suc n) zero A low = absurd (omega arith)
take_shorter (suc n) (suc m) [] low = refl
take_shorter (suc n) (suc m) (x ∷ xs) low = ap (λ zs. x ∷ zs) (take_shorter n m xs (omega arith))

span_within : (A : List Item) (from to p q : ℕ) → from + q ≤ to →
    span p q (span from to A) ≡ span (from + p) (from + q) A
span_within A from to p q low =
    ap (drop p) (sym (drop-take from q (take to A)) ∙ ap (drop from) (take_shorter (from + q) to A low))
    ∙ drop-drop p from (take (from + q) A)

-- how many items a span has that ends within the list
pub length-span : (A : List Item) (from to : ℕ) → to ≤ length A → length (span from to A) ≡ to - from
length-span A from to low = omega (arith, length-drop from (take to A), length-take-le to A low)

-- ---- pieces

pub length-pieces : (B : List Item) (start : ℕ) (ps : List ℕ) → length (pieces_at start ps B) ≡ suc (length ps)
length-pieces B start [] = refl
length-pieces B start (p ∷ ps) = ap suc (length-pieces B p ps)

piece_at : (B : List Item) (start : ℕ) (ps : List ℕ) (i : ℕ) → i < length ps →
    get_or (pieces_at start ps B) i [] ≡ span (get_or (start ∷ ps) i 0) (get_or ps i 0) B
piece_at B start [] i low = absurd (omega arith)
piece_at B start (p ∷ ps) zero low = refl
piece_at B start (p ∷ ps) (suc i) low = piece_at B p ps i (omega arith)

piece_last : (B : List Item) (start : ℕ) (ps : List ℕ) (i : ℕ) → i ≡ length ps →
    get_or (pieces_at start ps B) i [] ≡ drop (get_or (start ∷ ps) i 0) B
piece_last B start [] zero same = refl
piece_last B start [] (suc i) same = absurd (omega arith)
piece_last B start (p ∷ ps) zero same = absurd (omega arith)
piece_last B start (p ∷ ps) (suc i) same = piece_last B p ps i (omega arith)

pub within_at : (n : ℕ) (ps : List ℕ) (i d : ℕ) → AllByRecursion (λ p. p < n) ps → i < length ps → get_or ps i d < n
within_at n [] i d all low = absurd (omega arith)
within_at n (p ∷ ps) zero d all low = all.0
within_at n (p ∷ ps) (suc i) d all low = within_at n ps i d all.1 (omega arith)

pub piece_is : (A : List Item) (from to : ℕ) (ps : List ℕ) (i end : ℕ) → AllByRecursion (λ p. p < to - from) ps →
    i ≤ length ps → (i < length ps → end ≡ from + get_or ps i 0) → (length ps ≤ i → end ≡ to) →
    get_or (pieces_at 0 ps (span from to A)) i [] ≡ span (from + get_or (0 ∷ ps) i 0) end A
piece_is A from to ps i end all low inner last = by (cases_lt i (length ps)) where
  by : (i < length ps) ⊎ (length ps ≤ i) →
      get_or (pieces_at 0 ps (span from to A)) i [] ≡ span (from + get_or (0 ∷ ps) i 0) end A
  by (inr past) = piece_last (span from to A) 0 ps i (omega arith)
      ∙ drop-drop (get_or (0 ∷ ps) i 0) from (take to A)
      ∙ ap (λ m. span (from + get_or (0 ∷ ps) i 0) m A) (sym (last past))
  by (inl before) = piece_at (span from to A) 0 ps i before
      ∙ span_within A from to (get_or (0 ∷ ps) i 0) (get_or ps i 0)
      (omega (arith, within_at (to - from) ps i 0 all before))
      ∙ ap (λ m. span (from + get_or (0 ∷ ps) i 0) m A) (sym (inner before))

place_order : (ps : List ℕ) (i : ℕ) → IsNonDecreasing ps → i < length ps → get_or (0 ∷ ps) i 0 ≤ get_or ps i 0
place_order ps zero rise low = omega arith
place_order ps (suc i) rise low = rise i (suc i) 0 (omega arith) low

place_least : (n : ℕ) (ps : List ℕ) (i : ℕ) → AllByRecursion (λ p. p < n) ps → i ≤ length ps →
    get_or (0 ∷ ps) i 0 ≤ n
place_least n ps zero all low = omega arith
place_least n ps (suc i) all low = omega (arith, within_at n ps i 0 all (omega arith))

-- each piece ends no sooner than it begins, and within the span
pub piece_order : (from to : ℕ) (ps : List ℕ) (i end : ℕ) → from ≤ to → AllByRecursion (λ p. p < to - from) ps →
    IsNonDecreasing ps → i ≤ length ps → (i < length ps → end ≡ from + get_or ps i 0) → (length ps ≤ i → end ≡ to) →
    (from + get_or (0 ∷ ps) i 0 ≤ end) × (end ≤ to)
piece_order from to ps i end order all rise low inner last = by (cases_lt i (length ps)) where
  by : (i < length ps) ⊎ (length ps ≤ i) → (from + get_or (0 ∷ ps) i 0 ≤ end) × (end ≤ to)
  by (inl before) =
      let is : end ≡ from + get_or ps i 0 = inner before in
      let start : get_or (0 ∷ ps) i 0 ≤ get_or ps i 0 = place_order ps i rise before in
      let inside : get_or ps i 0 < to - from = within_at (to - from) ps i 0 all before in
      (omega (arith, is, start), omega (arith, is, inside))
  by (inr past) =
      let is : end ≡ to = last past in
      let start : get_or (0 ∷ ps) i 0 ≤ to - from = place_least (to - from) ps i all low in
      (omega (arith, is, start, order), omega (arith, is))

-- ---- the places where the table cuts the items of a range

module _ (T : Table) (A : List Item) (X : Range) (from to : ℕ) (within : to ≤ length A)
    (at : span from to A ≡ items_in A X) where
  abbrev pub n : ℕ
  n = length (items_in A X)

  span_count : length (span from to A) ≡ n
  span_count = ap length at

  place_count : to - from ≡ n
  place_count = sym (length-span A from to within) ∙ span_count

  pub places_are : (m : ℕ) (ps : List ℕ) → m ≡ to - from → ps ≡ inner_cuts 0 (shares T m) →
      ps ≡ inner_cuts 0 (shares T n)
  places_are m ps same made = made ∙ ap (λ k. inner_cuts 0 (shares T k)) (same ∙ place_count)

  places_within : (k m : ℕ) (ps : List ℕ) → k ≡ n → m ≡ to - from → ps ≡ inner_cuts 0 (shares T m) →
      IsCut n (shares T n) → AllByRecursion (λ p. p < k) ps
  places_within k m ps same count made cut =
      let total : 0 + sum (shares T n) ≡ k = omega (arith, cut.total) in
      subst (λ qs. AllByRecursion (λ p. p < k) qs) (sym (places_are m ps count made))
      (subst (λ q. AllByRecursion (λ p. p < q) (inner_cuts 0 (shares T n))) total
      (cuts_within 0 (shares T n) cut.positive))

  -- they are below the number of the span's items, and below what it reaches over
  pub within_items : (m : ℕ) (ps : List ℕ) → m ≡ to - from → ps ≡ inner_cuts 0 (shares T m) →
      IsCut n (shares T n) → AllByRecursion (λ p. p < length (span from to A)) ps
  within_items m ps = places_within (length (span from to A)) m ps span_count

  pub within_reach : (m : ℕ) (ps : List ℕ) → m ≡ to - from → ps ≡ inner_cuts 0 (shares T m) →
      IsCut n (shares T n) → AllByRecursion (λ p. p < to - from) ps
  within_reach m ps = places_within (to - from) m ps place_count
