use Rattle.std.proofs.Common.{rules, arith, ◌≡◌, ◌≤◌, ◌<◌, ℕ, List, ◌⊎◌, inl, inr, subst, take}
use Rattle.std.proofs.lemmas.Bool.{cases_lt}
use Rattle.definitions.specs.Items.{Item}
use Rattle.definitions.specs.Sets.{IsSet}
use Rattle.version_log.proofs.Rising.{first_rises, none_rises, rises_on, less_by}
use Rattle.version_log.proofs.front.rising_front.Goals as goal

pub loop-place-init : goal.loop-place-init
loop-place-init c = first_rises c.args.items.now

pub loop-place-preserved : goal.loop-place-preserved
loop-place-preserved c =
    rises_on c.args.items.now c.loop-place.place c.index-items-place.result c.index-items-place-in-loop-place.result
    (search rules) (search rules) c.index-items-place.is c.index-items-place-in-loop-place.is
    (less_by c.index-items-place.result c.index-items-place-in-loop-place.result c.if-ge.ensures)
    c.loop-place.invariant

ends : (k n : ℕ) (xs : List Item) → n ≤ k → (1 ≤ n → k ≤ n) → IsSet (take k xs) → (0 < n) ⊎ (n ≤ 0) →
    IsSet (take n xs)
ends k n xs past most set (inl some) =
    let on : k ≡ n = omega (arith, most some) in subst (λ m. IsSet (take m xs)) on set
ends k n xs past most set (inr none) = none_rises n xs (omega arith)

pub returns-clause-rises : goal.returns-clause-rises
returns-clause-rises c =
    ends c.loop-place.place c.min-most.result c.args.items.now c.loop-place-test.false c.loop-place.auto.place-end
    c.loop-place.invariant (cases_lt 0 c.min-most.result)
