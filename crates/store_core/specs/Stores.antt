-- What `with` gave, and what stands between two places.
use Rattle.std.specs.Prelude.{ℕ, Bool, true, false, ⊤, List, take, drop}
use Rattle.store_core.specs.declared.range_store.Insertion.{Insertion}
use Rattle.store_core.specs.declared.range_store.Insertion.TheVariants.{New, Already}

-- a fact of the new store, if there is one
abbrev pub IfNew : {S : Type 0} → Insertion S → (S → Type 0) → Type 0
IfNew (New s) P = P s
IfNew Already P = ⊤

abbrev pub is_new : {S : Type 0} → Insertion S → Bool
is_new (New s) = true
is_new Already = false

-- the elements from place `from` on and before place `to`
abbrev pub span : {X : Type 0} → ℕ → ℕ → List X → List X
span from to xs = drop from (take to xs)
