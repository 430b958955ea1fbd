-- Of a slab one value less at a time: in the end there is none, and nothing is held.
use Rattle.std.proofs.Common.{◌≡◌, ◌∙◌, ℕ, ◌+◌, ◌≤◌, Bool, true, false, List, [], ◌∷◌, Option, Some, None, refl, ap}
use Rattle.std.proofs.Common.{sym, subst, arith}
use Rattle.std.specs.Prelude.{is_some, count_by, ◌<◌}
use Rattle.std.specs.Prelude.{cond}
use Rattle.std.proofs.lemmas.List.Sums.{sum_by-cons}
use Rattle.slab.specs.Slab.{Slab, get, slab_len}
use Rattle.hub_core.specs.Hubs.{OthersStay, held_by}
use Rattle.hub_core.specs.Peers.{kept}
use Rattle.hub_core.specs.Peers.{PeerState}
use Rattle.hub_core.specs.Totals.{in_slot, total, IsMost}
use Rattle.hub_core.proofs.Totals.{total-has, total-none, total-one}

module _ {T : Type 0} where
  abbrev one : T → ℕ
  one x = 1

  abbrev bit : Option T → ℕ
  bit o = cond (is_some o) 1 0

  count_ones : (xs : List (Option T)) → count_by is_some xs ≡ total one xs
  count_ones [] = refl
  count_ones (None ∷ xs) = sum_by-cons bit None xs ∙ ap (λ n. 0 + n) (count_ones xs)
  count_ones (Some x ∷ xs) = sum_by-cons bit (Some x) xs ∙ ap (λ n. 1 + n) (count_ones xs)

  in_none : (o : Option T) → in_slot one o ≡ 0 → o ≡ None
  in_none None is = refl
  in_none (Some x) is = absurd (omega (arith, is))

  in_some : (o : Option T) (x : T) → o ≡ Some x → in_slot one o ≡ 1
  in_some o x is = ap (in_slot one) is

  pub one_less : (old new : Slab T) (key : ℕ) (x : T) → get old key ≡ Some x → get new key ≡ None →
      OthersStay old new key → slab_len new + 1 ≡ slab_len old
  one_less old new key x there gone others =
      let was : in_slot one (get old key) ≡ 1 = in_some (get old key) x there in
      let now : in_slot one (get new key) ≡ 0 = ap (in_slot one) gone in
      omega (arith, total-one one old.slots new.slots key others, count_ones old.slots, count_ones new.slots, was, now)

  pub nobody : (s : Slab T) → slab_len s ≡ 0 → (key : ℕ) → get s key ≡ None
  nobody s none key = in_none (get s key)
      (omega (arith, total-has one s.slots key, count_ones s.slots, none))

pub none_held : {I O : Type 0} (s : Slab (PeerState I O)) → slab_len s ≡ 0 → held_by s ≡ 0
none_held s none = total-none kept s.slots (nobody s none)
