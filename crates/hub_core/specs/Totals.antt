-- Sums over the slots of a slab, and the greatest number in it.
--     total f slots                the sum over the slots that have a value
--     IsMost f slab key            this key has a value, and no value has a greater number
--     IsMostOf test f slab key     the same among those of which the test holds
--     better_of best key n         the first of the keys so far with the greatest number, with that number
use Rattle.std.specs.Prelude.{◌≡◌, ℕ, ◌+◌, ◌≤◌, Bool, true, List, [], ◌∷◌, Option, Some, None, nat_le, if◌then◌else◌}
use Rattle.slab.specs.Slab.{Slab, get}

-- what a slot counts for
abbrev pub in_slot : {T : Type 0} → (T → ℕ) → Option T → ℕ
in_slot f None = 0
in_slot f (Some x) = f x

abbrev pub total : {T : Type 0} → (T → ℕ) → List (Option T) → ℕ
total f [] = 0
total f (slot ∷ slots) = in_slot f slot + total f slots

pub record IsMost {T : Type 0} (f : T → ℕ) (slab : Slab T) (key : ℕ) : Type 0 where
  pub value : T
  pub there : get slab key ≡ Some value
  pub most : (other : ℕ) (x : T) → get slab other ≡ Some x → f x ≤ f value

-- the same among the values of which a test holds
pub record IsMostOf {T : Type 0} (test : T → Bool) (f : T → ℕ) (slab : Slab T) (key : ℕ) : Type 0 where
  pub value : T
  pub there : get slab key ≡ Some value
  pub is : test value ≡ true
  pub most : (other : ℕ) (x : T) → get slab other ≡ Some x → test x ≡ true → f x ≤ f value

abbrev pub better_of : {K : Type 0} → Option (K × ℕ) → K → ℕ → Option (K × ℕ)
better_of None key n = Some (key, n)
better_of (Some best) key n = if nat_le n best.1 then Some best else Some (key, n)
