use Rattle.std.proofs.Common.{◌≡◌, ap, sym, ◌∙◌, arith, rules, subst, length, List, ℕ}
use Rattle.definitions.specs.Ranks.{rank_by}
use Rattle.strategy_check.proofs.Steps.{RisesFrom, increasing}
use Rattle.strategy_check.proofs.Turns.{are_steps, turn_none, turn_keeps, turn_pushes}
use Rattle.strategy_check.proofs.climb.climb.Goals as goal
use Rattle.strategy_check.proofs.climb.climb.Goals.{then-cutting-eq0-via-then-cutting-eq0}
use Rattle.strategy_check.proofs.climb.climb.Goals.{then-cutting-eq0-via-else-cutting-eq0+then-rank-len}

pub rank-requires : goal.rank-requires
rank-requires c = increasing 0 c.deref.result.now (subst (RisesFrom 0) (sym c.deref.ensures.value)
    (are_steps c.args.strategy.now c.args.count c.args.steps.now.items c.requires.climbed).rise)

pub returns-then-cutting-eq0 : goal.returns-then-cutting-eq0
returns-then-cutting-eq0 c =
    let parts = c.in-Some.ensures.parts in
    let T = c.args.strategy.now in
    let n = c.args.count in
    let steps = c.args.steps.now.items in
    elim c.then-cutting-eq0.branch [
      | then-cutting-eq0-via-then-cutting-eq0 w ↦
          turn_none T n steps c.requires.climbed (sym c.in-Some.ensures.stuck) (sym parts.0 ∙ w.if-cutting-eq0.true)
      | then-cutting-eq0-via-else-cutting-eq0+then-rank-len w ↦
          let some = w.if-cutting-eq0.false in
          let low = w.if-rank-len.true in
          let size : w.len.result ≡ length steps = search rules in
          let same = ap (λ (ss : List ℕ). rank_by ss c.in-Some.cutting.greatest) w.deref.ensures.value in
          let top = ap (rank_by steps) parts.1 in
          turn_keeps T n steps c.requires.climbed (sym c.in-Some.ensures.stuck) (omega (arith, parts.0))
          (omega (arith, w.rank.ensures.rank))
    ]

pub returns : goal.returns
returns c =
    let parts = c.in-Some.ensures.parts in
    let some = c.if-cutting-eq0.false in
    let high = c.if-rank-len.false in
    let steps = c.args.steps.now.items in
    let size : c.len.result ≡ length steps = search rules in
    let same = ap (λ (ss : List ℕ). rank_by ss c.in-Some.cutting.greatest) c.deref.ensures.value in
    let top = ap (rank_by steps) parts.1 in
    rw c.in_ok-push.ensures.items (turn_pushes c.args.strategy.now c.args.count steps c.requires.climbed
    (sym c.in-Some.ensures.stuck) (omega (arith, parts.0)) (omega (arith, c.rank.ensures.rank)))
