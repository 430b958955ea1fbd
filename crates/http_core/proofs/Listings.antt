-- The items of a range of several sets, some at a time.
use Rattle.std.proofs.Common.{◌≡◌, ◌⊎◌, ℕ, ◌+◌, ◌<◌, ◌≤◌, List, [], ◌∷◌, ◌++◌, drop, length, min, take, refl, sym, ap}
use Rattle.std.proofs.Common.{◌∙◌, arith, get_or, inl, inr, subst}
use Rattle.std.specs.Prelude.{flat_map}
use Rattle.std.proofs.lemmas.Bool.{cases_lt}
use Rattle.std.proofs.lemmas.List.{append_assoc, drop_all, drop_more, drop-drop, drop-take, length-drop, length-take}
use Rattle.std.proofs.lemmas.List.{nil_from_length, places, same_lists, take_all}
use Rattle.definitions.specs.Items.{Item, Range}
use Rattle.definitions.specs.Sets.{items_in}
use Rattle.store_core.specs.Stores.{span}
use Rattle.http_core.specs.Listings.{left}

-- a list is its first few elements, as many as those are, and the rest
few_and_rest : {X : Type 0} (xs : List X) (n : ℕ) → xs ≡ take n xs ++ drop (length (take n xs)) xs
few_and_rest xs n = same_lists _ _ (grind (arith, places)) (λ k d h. grind (arith, places))

none_left : {X : Type 0} (xs : List X) → take 2048 xs ≡ [] → xs ≡ []
none_left xs none = nil_from_length xs (omega (arith, length-take 2048 xs, ap length none))

-- an element that was found, and those after it
pub found : {X : Type 0} (xs ys : List X) (i : ℕ) (x : X) → ys ≡ xs → i < length ys → x ≡ get_or ys i x →
    drop i xs ≡ x ∷ drop (i + 1) xs
found xs ys i x same low is = subst (λ zs. drop i zs ≡ x ∷ drop (i + 1) zs) same
    (drop_more ys i x low ∙ ap (λ y. y ∷ drop (i + 1) ys) (sym is))

take_both : {X : Type 0} (m n : ℕ) (xs : List X) → take m (take n xs) ≡ take (min m n) xs
take_both m n xs = same_lists _ _ (grind (arith, places)) (λ k d h. grind (arith, places))

-- of a span the next elements after the first n
pub part : {X : Type 0} (A : List X) (f t n a b : ℕ) → t ≤ length A → a ≡ min (f + n) t → b ≡ min (a + 2048) t →
    span a b A ≡ take 2048 (drop n (span f t A))
part A f t n a b low from to = by (cases_lt t (f + n)) where
  more : take 2048 (drop n (span f t A)) ≡ drop (f + n) (take (f + n + 2048) (take t A))
  more = ap (take 2048) (drop-drop n f (take t A)) ∙ sym (drop-take (f + n) 2048 (take t A))

  by : (t < f + n) ⊎ (f + n ≤ t) → span a b A ≡ take 2048 (drop n (span f t A))
  by (inl past) =
      let at : a ≡ t = omega (arith, from, past) in
      let end : b ≡ t = omega (arith, to, at) in
      let none : length (take t A) ≤ t = omega (arith, length-take t A) in
      let whole : take (f + n + 2048) (take t A) ≡ take t A =
      take_all (f + n + 2048) (take t A) (omega (arith, none, past)) in
      rw (at, end) (drop_all t (take t A) none) ∙ sym (more ∙ ap (drop (f + n)) whole
      ∙ drop_all (f + n) (take t A) (omega (arith, none, past)))
  by (inr within) =
      let at : a ≡ f + n = omega (arith, from, within) in
      let end : b ≡ min (f + n + 2048) t = omega (arith, to, at) in
      rw (at, end) (ap (drop (f + n)) (sym (take_both (f + n + 2048) t A))) ∙ sym more

-- they are no more than are left of it
pub few : {X : Type 0} (A : List X) (f t n : ℕ) (v : List X) → v ≡ take 2048 (drop n (span f t A)) → 0 < length v →
    n + length v ≤ t
few A f t n v is some =
    let ys = span f t A in
    omega (
      arith,
      ap length is,
      length-take 2048 (drop n ys),
      length-drop n ys,
      length-drop f (take t A),
      length-take t A,
      some,
    )

-- at the start all are left
pub begun : {S : Type 0} (content : S → List Item) (X : Range) (stores : List S) →
    left content X 0 stores ≡ flat_map (λ s. items_in (content s) X) stores
begun content X [] = refl
begun content X (s ∷ stores) = refl

-- some of a set were given
pub goes_on : {S : Type 0} (content : S → List Item) (X : Range) (given : ℕ) (s : S) (stores : List S) (v : List Item) →
    v ≡ take 2048 (drop given (items_in (content s) X)) →
    left content X given (s ∷ stores) ≡ v ++ left content X (given + length v) (s ∷ stores)
goes_on content X given s stores v is =
    let xs = items_in (content s) X in
    let rest = flat_map (λ s. items_in (content s) X) stores in
    let later : drop (length v) (drop given xs) ≡ drop (given + length v) xs
    = same_lists _ _ (grind (arith, places)) (λ k d h. grind (arith, places)) in
    let all : drop given xs ≡ v ++ drop (given + length v) xs
    = few_and_rest (drop given xs) 2048 ∙ (λ k. sym is k ++ drop (length (sym is k)) (drop given xs))
    ∙ ap (λ ys. v ++ ys) later in
    ap (λ ys. ys ++ rest) all ∙ append_assoc v (drop (given + length v) xs) rest

-- none of a set were left
pub is_over : {S : Type 0} (content : S → List Item) (X : Range) (given : ℕ) (s : S) (stores : List S) (v : List Item) →
    v ≡ take 2048 (drop given (items_in (content s) X)) → v ≡ [] →
    left content X given (s ∷ stores) ≡ v ++ left content X 0 stores
is_over content X given s stores v is none =
    let rest = flat_map (λ s. items_in (content s) X) stores in
    ap (λ ys. ys ++ rest) (none_left _ (sym is ∙ none)) ∙ sym (begun content X stores)
    ∙ sym (ap (λ ys. ys ++ left content X 0 stores) none)
