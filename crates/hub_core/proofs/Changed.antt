-- What holds of the two values of a key before and after a call holds of whatever values the key is said to have.
use Rattle.std.proofs.Common.{◌≡◌, ℕ, Bool, ◌-◌, Option, Some, None, Result, Ok, Err, OnOk}
use Rattle.std.proofs.Common.{sym, ap, ◌∙◌, subst}
use Rattle.std.specs.Prelude.{nat_lt, is_some, ◌||◌}
use Rattle.slab.specs.Slab.{Slab, get, with_value}
use Rattle.slab.proofs.SlabLemmas.{Updates-with_value}
use Rattle.hub_core.specs.Peers.{PeerState}
use Rattle.hub_core.specs.Hubs.{is_late}
use Rattle.hub_core.specs.declared.limits.HubLimits.{HubLimits}

abbrev or_else : {T : Type 0} → T → Option T → T
or_else d None = d
or_else d (Some x) = x

same-some : {T : Type 0} (p x : T) → Some p ≡ Some x → p ≡ x
same-some p x is = ap (or_else p) is

-- what a slab has at this key, once it has this value there
now-there : {T : Type 0} (slab : Slab T) (key : ℕ) (p q y : T) → get slab key ≡ Some p →
    get (with_value slab key q) key ≡ Some y → q ≡ y
now-there slab key p q y there is =
    let updates = Updates-with_value slab key q (ap is_some there) in
    same-some q y (sym updates.changed ∙ is)

-- the slab that had the value p at the key was the old one
module _ {T : Type 0} (R : T → T → Type 0) where
  pub of-both : (old slab : Slab T) (key : ℕ) (p q : T) → slab ≡ old → get slab key ≡ Some p → R p q →
      (x y : T) → get old key ≡ Some x → get (with_value slab key q) key ≡ Some y → R x y
  of-both old slab key p q same there holds x y was is =
      let before = ap (λ (s : Slab T). get s key) same in
      subst (λ (z : T). R z y) (same-some p x (sym there ∙ before ∙ was))
      (subst (λ (z : T). R p z) (now-there slab key p q y there is) holds)

  pub of-both-ok : {X E : Type 0} (r : Result X E) (old slab : Slab T) (key : ℕ) (p q : T) → slab ≡ old →
      get slab key ≡ Some p → OnOk r (R p q) →
      OnOk r ((x y : T) → get old key ≡ Some x → get (with_value slab key q) key ≡ Some y → R x y)
  of-both-ok (Ok n) old slab key p q same there holds = of-both old slab key p q same there holds
  of-both-ok (Err e) old slab key p q same there holds = tt

module _ {T : Type 0} (R : T → Type 0) where
  pub of-one : (slab : Slab T) (key : ℕ) (p q : T) → get slab key ≡ Some p → R q → (y : T) →
      get (with_value slab key q) key ≡ Some y → R y
  of-one slab key p q there holds y is = subst (λ (z : T). R z) (now-there slab key p q y there is) holds

-- a test of both times
pub late-is : {I O : Type 0} (limits : HubLimits) (now : ℕ) (p : PeerState I O) (h a : ℕ) (b : Bool) → h ≡ p.heard →
    a ≡ p.arrived → b ≡ (nat_lt limits.patience (now - h) || nat_lt limits.session (now - a)) → is_late limits now p ≡ b
late-is limits now p h a b heard arrived is =
    sym (is
    ∙ ap (λ (n : ℕ). nat_lt limits.patience (now - n) || nat_lt limits.session (now - a)) heard
    ∙ ap (λ (n : ℕ). nat_lt limits.patience (now - p.heard) || nat_lt limits.session (now - n)) arrived)
