-- What a refusal leaves of an end.
use Rattle.std.proofs.Common.{◌≡◌, ℕ, Bool, true, false, List, IfSome, Err, refl, sym, ap, ◌∙◌}
use Rattle.std.specs.Prelude.{if◌then◌else◌}
use Rattle.definitions.specs.Fingerprints.{Summary}
use Rattle.definitions.specs.Messages.{Part}
use Rattle.definitions.specs.Talks.{nothing}
use Rattle.definitions.specs.Ends.{End, Fresh, Waits, Spent, is_live}
use Rattle.place_core.specs.Placements.{Placement}
use Rattle.ends_core.specs.EndStates.{EndState, stage_at}
use Rattle.ends_core.specs.Turns.{told_in, fresh, spend, after_part, refused}
use Rattle.ends_core.specs.declared.turn.EndFault.{EndFault}
use Rattle.ends_core.specs.declared.turn.EndFault.TheVariants as faults

-- the same end, whatever it had taken, unless it takes nothing
spend-same : {F : Type 0} (old mid : EndState F) → mid.steps ≡ old.steps → mid.end ≡ old.end →
    (is_live old.end.stage ≡ false → mid ≡ old) → spend mid ≡ spend old
spend-same {F} old mid steps end dead = by (is_live old.end.stage) refl where
  spent : List ℕ → End F → EndState F
  spent l e = fresh l (record e { stage = Spent; learned = nothing })

  by : (b : Bool) → is_live old.end.stage ≡ b → spend mid ≡ spend old
  by true live =
      (λ i. if is_live (end i).stage then spent (steps i) (end i) else mid)
      ∙ ap (λ b. if b then spent old.steps old.end else mid) live
      ∙ sym (ap (λ b. if b then spent old.steps old.end else old) live)
  by false none = ap spend (dead none)

pub part-refused : {F : Type 0} (S : Summary F) (old mid new : EndState F) (p : Part F) (f : EndFault) →
    mid.steps ≡ old.steps → mid.end ≡ old.end → (is_live old.end.stage ≡ false → mid ≡ old) → new ≡ refused mid f →
    IfSome (told_in (Err f)) (λ o. new ≡ after_part S old p o)
part-refused S old mid new p (faults.Placing g) steps end dead is = is ∙ spend-same old mid steps end dead
part-refused S old mid new p faults.TooManyParts steps end dead is = is ∙ spend-same old mid steps end dead
part-refused S old mid new p faults.Spent steps end dead is = is ∙ spend-same old mid steps end dead
part-refused S old mid new p faults.Memory steps end dead is = tt

-- a place is where messages are taken
pub open-live : {A : Type 0} {F : Type 0} (x : Placement F) → is_live (stage_at x) ≡ false → A
open-live {A} x none = by x.first none where
  by : (b : Bool) → is_live (if b then Fresh x.cut else Waits x.own) ≡ false → A
  by true e = absurd cc
  by false e = absurd cc
