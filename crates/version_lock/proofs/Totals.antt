-- Sums over a list of views in which one changes: the sum changes by as much as that view, by induction over the
-- list.
use Rattle.std.proofs.Common.{◌≡◌, ℕ, ◌+◌, ◌≤◌, zero, suc, refl, List, [], ◌∷◌, ◌++◌, set, sym, ap, arith}
use mathlib.Core.Option.{some-injective, some-ne-none}
use Rattle.version_lock.specs.declared.view.View.{View}
use Rattle.version_lock.specs.Lawful.{total}
use Rattle.version_lock.proofs.Seated.{At}

module _ (f : View → ℕ) where
  pub total_set : (views : List View) (id : ℕ) (v w : View) → At views id v →
      total f (set views id w) + f v ≡ total f views + f w
  total_set [] id v w at = absurd (some-ne-none v (sym at))
  total_set (u ∷ views) zero v w at = let same : f u ≡ f v = ap f (some-injective u v at) in omega arith
  total_set (u ∷ views) (suc id) v w at = omega (arith, total_set views id v w at)

  pub total_kept : (views : List View) (id : ℕ) (v w : View) → At views id v → f w ≡ f v →
      total f (set views id w) ≡ total f views
  total_kept views id v w at same = omega (arith, total_set views id v w at)

  pub total_more : (views : List View) (w : View) → total f (views ++ w ∷ []) ≡ total f views + f w
  total_more [] w = omega arith
  total_more (u ∷ views) w = omega (arith, total_more views w)

  -- the sum is no less than each, and nothing if each is
  pub total_has : (views : List View) (id : ℕ) (v : View) → At views id v → f v ≤ total f views
  total_has [] id v at = absurd (some-ne-none v (sym at))
  total_has (u ∷ views) zero v at = let same : f u ≡ f v = ap f (some-injective u v at) in omega arith
  total_has (u ∷ views) (suc id) v at = omega (arith, total_has views id v at)

  pub total_none : (views : List View) → ((id : ℕ) (v : View) → At views id v → f v ≡ 0) → total f views ≡ 0
  total_none [] none = refl
  total_none (u ∷ views) none = omega (arith, none 0 u refl, total_none views (λ id v e. none (suc id) v e))
