-- What is counted for all peers, where one of them changes, comes or goes; and that it has a bound.
--
-- A slab that changes at one key changes the sum by what is there, by `total-one`. What is counted for one peer is a
-- number of 64 bits, and there are fewer keys than 2^64, so the sum is below 2^128.
use Rattle.std.proofs.Common.{◌≡◌, ℕ, ◌+◌, ◌-◌, ◌*◌, ◌^◌, ◌≤◌, ◌<◌, length, Option, Some, None}
use Rattle.std.proofs.Common.{sym, ap, ◌∙◌, arith}
use Rattle.std.specs.Prelude.{IfNone, is_some}
use Rattle.slab.specs.Slab.{Slab, get, with_value, Updates}
use Rattle.slab.proofs.SlabLemmas.{Updates-with_value}
use Rattle.hub_core.specs.Totals.{in_slot}
use Rattle.hub_core.specs.Peers.{PeerState, kept}
use Rattle.hub_core.specs.Hubs.{held_by}
use Rattle.hub_core.proofs.Totals.{total-one, total-has, total-none, total-below}

pub kept-fits : {I O : Type 0} (p : PeerState I O) → kept p ≤ 2 ^ 64 - 1
kept-fits p = omega arith

module _ {I O : Type 0} where
  held-one : (old new : Slab (PeerState I O)) (key : ℕ) (slot : Option (PeerState I O)) → Updates old new key slot →
      held_by new + in_slot kept (get old key) ≡ held_by old + in_slot kept slot
  held-one old new key slot updates =
      let one = total-one kept old.slots new.slots key updates.others in
      one ∙ ap (λ (o : Option (PeerState I O)). held_by old + in_slot kept o) updates.changed

  pub held-moved : (old new : Slab (PeerState I O)) (key : ℕ) (p q : PeerState I O) → get old key ≡ Some p →
      Updates old new key (Some q) → held_by new + kept p ≡ held_by old + kept q
  held-moved old new key p q there updates =
      sym (ap (λ (o : Option (PeerState I O)). held_by new + in_slot kept o) there)
      ∙ held-one old new key (Some q) updates

  pub held-in : (old new : Slab (PeerState I O)) (key : ℕ) (q : PeerState I O) → get old key ≡ None →
      Updates old new key (Some q) → held_by new ≡ held_by old + kept q
  held-in old new key q none updates =
      let one = held-one old new key (Some q) updates in
      let nothing : in_slot kept (get old key) ≡ 0 = ap (in_slot kept) none in
      omega (arith, one, nothing)

  pub held-out : (old new : Slab (PeerState I O)) (key : ℕ) (p : PeerState I O) → get old key ≡ Some p →
      Updates old new key None → held_by new + kept p ≡ held_by old
  held-out old new key p there updates =
      let one = held-one old new key None updates in
      let some : in_slot kept (get old key) ≡ kept p = ap (in_slot kept) there in
      omega (arith, one, some)

  pub held-has : (s : Slab (PeerState I O)) (key : ℕ) (p : PeerState I O) → get s key ≡ Some p → kept p ≤ held_by s
  held-has s key p there =
      let has = total-has kept s.slots key in
      let some : in_slot kept (get s key) ≡ kept p = ap (in_slot kept) there in
      omega (arith, has, some)

  pub held-none : (s : Slab (PeerState I O)) → ((key : ℕ) → get s key ≡ None) → held_by s ≡ 0
  held-none s none = total-none kept s.slots none

  -- where a walk finds no peer, nothing is held
  pub none-within : (r : Option ℕ) (s : Slab (PeerState I O)) (most : ℕ) → IfNone r ((key : ℕ) → get s key ≡ None) →
      IfNone r (held_by s ≤ most)
  none-within None s most none = omega (arith, held-none s none)
  none-within (Some key) s most none = tt

  pub held-fits : (s : Slab (PeerState I O)) (n : ℕ) → length s.slots ≤ n → n < 2 ^ 64 →
      held_by s ≤ (2 ^ 64 - 1) * (2 ^ 64 - 1)
  held-fits s n slots small =
      total-below kept s.slots (2 ^ 64 - 1) (2 ^ 64 - 1) (λ p. kept-fits p) (omega (arith, slots, small))

  -- ---- the number that a hub holds

  pub room-for : (held n cap : ℕ) (s : Slab (PeerState I O)) (q : PeerState I O) → held ≡ held_by s → n ≡ kept q →
      length s.slots ≤ cap → cap < 2 ^ 64 → held + n < 2 ^ 128
  room-for held n cap s q is own slots small =
      omega (arith, is, own, kept-fits q, held-fits s cap slots small)

  pub held-added : (held n : ℕ) (old new : Slab (PeerState I O)) (key : ℕ) (q : PeerState I O) → held ≡ held_by old →
      n ≡ kept q → get old key ≡ None → Updates old new key (Some q) → held + n ≡ held_by new
  held-added held n old new key q is own none updates = omega (arith, is, own, held-in old new key q none updates)

  pub held-enough : (held n : ℕ) (old : Slab (PeerState I O)) (key : ℕ) (p : PeerState I O) → held ≡ held_by old →
      n ≡ kept p → get old key ≡ Some p → n ≤ held
  held-enough held n old key p is own there = omega (arith, is, own, held-has old key p there)

  pub held-less : (held n : ℕ) (old new : Slab (PeerState I O)) (key : ℕ) (p : PeerState I O) → held ≡ held_by old →
      n ≡ kept p → get old key ≡ Some p → Updates old new key None → held - n ≡ held_by new
  held-less held n old new key p is own there updates =
      omega (arith, is, own, held-out old new key p there updates, held-has old key p there)

  -- where a peer changes, what is counted for it goes out of the sum, and what is counted for it now comes in
  pub room-changed : (held n m cap : ℕ) (s : Slab (PeerState I O)) (q : PeerState I O) → held ≡ held_by s → m ≡ kept q →
      length s.slots ≤ cap → cap < 2 ^ 64 → held - n + m < 2 ^ 128
  room-changed held n m cap s q is now slots small = omega (arith, room-for held m cap s q is now slots small)

  pub held-changed : (held n m : ℕ) (old : Slab (PeerState I O)) (key : ℕ) (p q : PeerState I O) → held ≡ held_by old →
      n ≡ kept p → m ≡ kept q → get old key ≡ Some p → held - n + m ≡ held_by (with_value old key q)
  held-changed held n m old key p q is own now there =
      let updates = Updates-with_value old key q (ap is_some there) in
      let moved = held-moved old (with_value old key q) key p q there updates in
      omega (arith, is, own, now, moved, held-has old key p there)
