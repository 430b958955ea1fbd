-- What a call does to a list of values.
--     ChangesOne place xs ys P    there is a value at this place, and it becomes one that stands so to it; the others
--                                 stay
--     ChangesAt place xs ys P     the value at this place becomes one that stands so to it, and the others stay; where
--                                 there is none all stay
use Rattle.std.specs.Prelude.{◌≡◌, ◌⊎◌, ℕ, List, slice_set, Option, Some, None}
use Rattle.std.specs.List.{slice_get}

abbrev pub ChangesOne : {A : Type 0} → ℕ → List A → List A → (A → A → Type 0) → Type 0
ChangesOne {A} place xs ys P = (x y : A) × (slice_get xs place ≡ Some x) × (ys ≡ slice_set xs place y) × P x y

abbrev pub ChangesAt : {A : Type 0} → Option ℕ → List A → List A → (A → A → Type 0) → Type 0
ChangesAt None xs ys P = ys ≡ xs
ChangesAt (Some place) xs ys P = ((slice_get xs place ≡ None) × (ys ≡ xs)) ⊎ ChangesOne place xs ys P
