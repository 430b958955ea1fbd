-- Groups of 32 to 63, taken one after another.
use Rattle.std.proofs.Common.{◌≡◌, ℕ, ◌+◌, ◌<◌, ◌≤◌, Bool, true, false, List, [], ◌∷◌, ◌++◌, length, map, take, drop}
use Rattle.std.proofs.Common.{nat_lt, refl, sym, ap, subst, ◌∙◌, arith}
use Rattle.std.specs.List.{flat_map}
use Rattle.std.proofs.lemmas.List.{map-append, take-append-drop, append-nil}
use Rattle.std.proofs.lemmas.Grind.{flat_map-append}
use Rattle.std.proofs.lemmas.Bool.{ltb-true, ltb-false}
use Rattle.range_tree.specs.Nodes.{IsFull}
use Rattle.range_tree.proofs.Widths.{IsWide, wide_append, wide_front, wide_back, full_from_wide}

-- so many are left, and they make a group or there is none before them
abbrev pub IsGrouped : {P : Type 0} → (P → ℕ) → List P → ℕ → Type 0
IsGrouped width ps left = IsFull width ps × (0 < left → IsWide width ps) × (0 < left → 0 < length ps → 32 ≤ left)

pub last_full : {P : Type 0} (width : P → ℕ) (ps : List P) (p : P) → IsWide width ps → (0 < length ps → 32 ≤ width p) →
    IsFull width (ps ++ p ∷ [])
last_full width [] p all last = tt
last_full width (q ∷ ps) p all last =
    full_from_wide width (q ∷ ps ++ p ∷ []) (wide_append width (q ∷ ps) (p ∷ []) all (last (omega arith), tt))

pub grouped_more : {P : Type 0} (width : P → ℕ) (ps : List P) (p : P) (left n rest : ℕ) → IsGrouped width ps left →
    0 < left → (left < 64 → n ≡ left) → (64 ≤ left → n ≡ 32) →
    width p ≡ n → rest + n ≡ left → IsGrouped width (ps ++ p ∷ []) rest
grouped_more {P} width ps p left n rest grouped some few many wide after = by_left (nat_lt left 64) refl where
  by_left : (b : Bool) → nat_lt left 64 ≡ b → IsGrouped width (ps ++ p ∷ []) rest
  by_left true t =
      let all : n ≡ left = few (ltb-true _ _ t) in
      let none : rest ≡ 0 = omega arith in (
        last_full width ps p (grouped.1 some) (λ more. let enough = grouped.2 some more in omega arith),
        (λ more. absurd (omega arith)),
        (λ more held. absurd (omega arith)),
      )
  by_left false t =
      let long : 64 ≤ left = ltb-false _ _ t in
      let same : n ≡ 32 = many long in
      let enough : 32 ≤ rest = omega arith in
      let all : IsWide width (ps ++ p ∷ []) = wide_append width ps (p ∷ []) (grouped.1 some) (omega arith, tt) in
      (full_from_wide width (ps ++ p ∷ []) all, (λ more. all), (λ more held. enough))

-- a node of a list of which all are wide, or one alone
pub full_front : {P : Type 0} (width : P → ℕ) (ps qs : List P) → IsFull width (ps ++ qs) → IsFull width ps
full_front width [] qs full = tt
full_front width (p ∷ []) qs full = tt
full_front width (p ∷ q ∷ ps) qs full = wide_front width (p ∷ q ∷ ps) qs full

pub full_back : {P : Type 0} (width : P → ℕ) (ps qs : List P) → IsFull width (ps ++ qs) → IsFull width qs
full_back width [] qs full = full
full_back width (p ∷ []) [] full = tt
full_back width (p ∷ []) (q ∷ qs) full = full_from_wide width (q ∷ qs) full.1
full_back width (p ∷ q ∷ ps) qs full = full_from_wide width qs (wide_back width (p ∷ q ∷ ps) qs full)

-- both sides of a cut
pub full_sides : {T P : Type 0} (width : P → ℕ) (v : T → P) (n : ℕ) (xs front back : List T) → front ≡ take n xs →
    back ≡ drop n xs → IsFull width (map v xs) →
    IsFull width (map v front) × IsFull width (map v back)
full_sides width v n xs front back in_front in_back full =
    let joined : map v (take n xs) ++ map v (drop n xs) ≡ map v xs =
    sym (map-append v (take n xs) (drop n xs)) ∙ ap (map v) (take-append-drop n xs) in
    let whole : IsFull width (map v (take n xs) ++ map v (drop n xs)) = subst (IsFull width) (sym joined) full in (
      subst (λ t. IsFull width (map v t)) (sym in_front)
          (full_front width (map v (take n xs)) (map v (drop n xs)) whole),
      subst (λ t. IsFull width (map v t)) (sym in_back) (full_back width (map v (take n xs)) (map v (drop n xs)) whole),
    )

pub items_sides : {T P A : Type 0} (f : P → List A) (v : T → P) (n : ℕ) (xs front back : List T) → front ≡ take n xs →
    back ≡ drop n xs →
    flat_map f (map v front) ++ flat_map f (map v back) ≡ flat_map f (map v xs)
items_sides f v n xs front back in_front in_back =
    (λ i. flat_map f (map v (in_front i)) ++ flat_map f (map v (in_back i)))
    ∙ sym (flat_map-append f (map v (take n xs)) (map v (drop n xs)))
    ∙ ap (flat_map f) (sym (map-append v (take n xs) (drop n xs)) ∙ ap (map v) (take-append-drop n xs))

pub items_more : {T P A : Type 0} (f : P → List A) (v : T → P) (xs : List T) (x : T) →
    flat_map f (map v (xs ++ x ∷ [])) ≡ flat_map f (map v xs) ++ f (v x)
items_more f v xs x =
    ap (flat_map f) (map-append v xs (x ∷ []))
    ∙ flat_map-append f (map v xs) (v x ∷ [])
    ∙ ap (λ t. flat_map f (map v xs) ++ t) (append-nil (f (v x)))
