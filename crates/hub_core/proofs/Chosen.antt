-- The most silent peer of an origin, from the greatest number of a walk.
--
-- A peer of the origin has a number from 1 on, and any other has 0. So where the greatest is that of another, none is
-- of the origin; and among those of the origin the greatest number is the greatest silence.
use Rattle.std.proofs.Common.{◌≡◌, ◌+◌, ℕ, Bool, true, false, Some, refl, sym, ap, ◌∙◌, arith}
use Rattle.slab.specs.Slab.{Slab, get}
use Rattle.hub_core.specs.Hubs.{measured, silence, silence_from}
use Rattle.hub_core.specs.Peers.{PeerState, is_from}
use Rattle.hub_core.specs.Totals.{IsMost, IsMostOf}
use Rattle.hub_core.specs.declared.best.Measure.TheVariants as measures

module _ {I O : Type 0} (origin : ℕ) where
  own-number : (p : PeerState I O) → is_from origin p ≡ true → silence_from origin p ≡ silence p + 1
  own-number p is = rw is refl

  no-number : (p : PeerState I O) → is_from origin p ≡ false → silence_from origin p ≡ 0
  no-number p is = rw is refl

  pub most-of : (slab : Slab (PeerState I O)) (key : ℕ) (p : PeerState I O) (t : Bool) →
      IsMost (measured (measures.SilenceOf origin)) slab key → Some p ≡ get slab key → t ≡ is_from origin p →
      t ≡ true → IsMostOf (is_from origin) silence slab key
  most-of slab key p t m there test is =
      let same : p ≡ m.value = cc (m.there, there) in
      let own : is_from origin m.value ≡ true = ap (is_from origin) (sym same) ∙ sym test ∙ is in
      record {
        value = m.value;
        there = m.there;
        is = own;
        most = λ other x at from. omega (arith, m.most other x at, own-number x from, own-number m.value own);
      }

  pub none-of : (slab : Slab (PeerState I O)) (key : ℕ) (p : PeerState I O) (t : Bool) →
      IsMost (measured (measures.SilenceOf origin)) slab key → Some p ≡ get slab key → t ≡ is_from origin p →
      t ≡ false → (other : ℕ) (x : PeerState I O) → get slab other ≡ Some x → is_from origin x ≡ false
  none-of slab key p t m there test is other x at = by (is_from origin x) refl
    where
      same : p ≡ m.value
      same = cc (m.there, there)

      none : silence_from origin m.value ≡ 0
      none = no-number m.value (ap (is_from origin) (sym same) ∙ sym test ∙ is)

      by : (b : Bool) → is_from origin x ≡ b → b ≡ false
      by false from = refl
      by true from = absurd (omega (arith, m.most other x at, own-number x from, none))
