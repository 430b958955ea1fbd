-- Lists that are made of a function of the number.
use Rattle.std.proofs.Common.{◌≡◌, ℕ, ◌+◌, ◌<◌, Bool, true, false, ◌&&◌, ◌||◌, ◌==◌, List, [], ◌∷◌}
use Rattle.std.proofs.Common.{length, map, get_or, set, refl, sym, ap, ◌∙◌, arith, inl, inr}
use Rattle.std.specs.List.{list_any, range_with_len}
use Rattle.std.proofs.lemmas.Bool.{cases_eq, eq-eqb}
use Rattle.std.proofs.Common.{replicate}
use Rattle.std.proofs.lemmas.List.{length-replicate, get_or-replicate}
use Rattle.std.proofs.lemmas.List.{get_or-set_same, get_or-set_other, length-set}
use Rattle.std.proofs.lemmas.List.Folds.{list_any_at}
use Rattle.std.proofs.lemmas.List.FromFn.{length-range_with_len, get_or-range_with_len, length-map-range_with_len}
use Rattle.std.proofs.lemmas.List.FromFn.{get_or-map-range_with_len, fill_by_all}

-- one place of such a list changes
pub map_set : {X : Type 0} (f g : ℕ → X) (m n : ℕ) (v d : X) → n < m → g n ≡ v → ((k : ℕ) → (k ≡ n → ⊥) → g k ≡ f k) →
    set (map f (range_with_len 0 m)) n v ≡ map g (range_with_len 0 m)
map_set {X} f g m n v d low here others =
    let fs : List X = map f (range_with_len 0 m) in
    let long : length fs ≡ m = length-map-range_with_len f 0 m in
    fill_by_all g (set fs n v) m d (length-set fs n v ∙ long) (λ k inside. elim (cases_eq k n) [
      | inl same ↦ rw same (get_or-set_same fs n v d (omega (arith, long)) ∙ sym here)
      | inr apart ↦ get_or-set_other fs n k v d apart
          ∙ get_or-map-range_with_len f 0 m k k d inside (omega arith) ∙ sym (others k apart)
    ])

pub map_same : {X : Type 0} (f g : ℕ → X) (m : ℕ) (d : X) → ((k : ℕ) → k < m → f k ≡ g k) →
    map f (range_with_len 0 m) ≡ map g (range_with_len 0 m)
map_same f g m d same =
    fill_by_all g (map f (range_with_len 0 m)) m d (length-map-range_with_len f 0 m)
    (λ k inside. get_or-map-range_with_len f 0 m k k d inside (omega arith) ∙ same k inside)

pub map-every : {X Y : Type 0} (f g : X → Y) → ((x : X) → f x ≡ g x) → (xs : List X) → map f xs ≡ map g xs
map-every f g same [] = refl
map-every f g same (x ∷ xs) = λ i. same x i ∷ map-every f g same xs i

pub map-map : {X Y Z : Type 0} (g : Y → Z) (f : X → Y) (xs : List X) → map g (map f xs) ≡ map (λ x. g (f x)) xs
map-map g f [] = refl
map-map g f (x ∷ xs) = ap (λ zs. g (f x) ∷ zs) (map-map g f xs)

-- so many times the same
pub replicate_is : {X : Type 0} (v : X) (n m : ℕ) → n ≡ m → replicate n v ≡ map (λ (s : ℕ). v) (range_with_len 0 m)
replicate_is v n m same = fill_by_all (λ s. v) (replicate n v) m v (length-replicate n v ∙ same)
    (λ k inside. get_or-replicate n k v v (omega (arith, same)))

-- a number below m is one of the first m
pub in_range : (n m : ℕ) → n < m → list_any (λ s. n == s) (range_with_len 0 m) ≡ true
in_range n m low =
    let long : length (range_with_len 0 m) ≡ m = length-range_with_len 0 m in
    let there : get_or (range_with_len 0 m) n 0 ≡ 0 + n = get_or-range_with_len 0 m n 0 low in
    list_any_at (λ s. n == s) (range_with_len 0 m) n 0 (omega (arith, long))
    (eq-eqb n (get_or (range_with_len 0 m) n 0) (omega (arith, there)))

pub and_or : (p q r : Bool) → ((p && r) || (q && r)) ≡ ((p || q) && r)
and_or false q r = refl
and_or true true true = refl
and_or true true false = refl
and_or true false true = refl
and_or true false false = refl
