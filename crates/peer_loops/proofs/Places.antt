-- A value of a list that is changed.
use Rattle.std.proofs.Common.{◌≡◌, ℕ, List, length, ◌≤◌, Option, Some, slice_set, inl, inr, refl, sym, subst}
use Rattle.std.specs.List.{slice_get}
use Rattle.std.proofs.lemmas.Option.{slice_get_past}
use Rattle.peer_loops.specs.Changes.{ChangesAt}

pub changes : {A : Type 0} (place : Option ℕ) (k : ℕ) (xs : List A) (x y : A) (P : A → A → Type 0) → place ≡ Some k →
    slice_get xs k ≡ Some x → P x y → ChangesAt place xs (slice_set xs k y) P
changes place k xs x y P is at holds =
    subst (λ p. ChangesAt p xs (slice_set xs k y) P) (sym is) (inr (x, y, at, refl, holds))

pub stays : {A : Type 0} (place : Option ℕ) (k : ℕ) (xs : List A) (P : A → A → Type 0) → place ≡ Some k →
    length xs ≤ k → ChangesAt place xs xs P
stays place k xs P is past =
    subst (λ p. ChangesAt p xs xs P) (sym is) (inl (slice_get_past xs k past, refl))
