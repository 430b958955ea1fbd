use Rattle.std.proofs.Common.{◌≡◌, ◌++◌, ◌∷◌, [], ap, sym, ◌∙◌, arith, subst, List, ℕ, Ok}
use Rattle.std.proofs.lemmas.Result.{err_from_is_err_and}
use Rattle.definitions.specs.Ranks.{found, IsLeastRankTable, ranks_by}
use Rattle.strategy_check.proofs.Turns.{find_fails, found_steps, whole_staircase, least_found, serves_least}
use Rattle.strategy_check.proofs.ranks.Ranks.climb_all.Goals as goal

pub returns-in_err-climb-clause-exact : goal.returns-in_err-climb-clause-exact
returns-in_err-climb-clause-exact c =
    let p = err_from_is_err_and c.from_residual.result c.from_residual.ensures.1 in
    let below = c.loop-count-test.true in
    rw (p.1, p.2) (find_fails c.args.strategy.now c.loop-count.count c.climb.new.steps.items c.in_err-climb.field-0.0
    (c.loop_finds.ensures c.args.strategy.now) (omega (arith, c.cap-count-end.ensures.cap)) c.in_err-climb.ensures)

at_cap : (c : goal.In_ok-push) → c.loop-count.count ≡ c.args.strategy.now.cap
at_cap c = let past = c.loop-count-test.false in let end = c.loop-count.auto.count-end in
    omega (arith, c.cap-count-end.ensures.cap)

found_is : (c : goal.In_ok-push) → found c.args.strategy.now ≡ Ok (c.push.new.self.items)
found_is c =
    rw (c.in_ok-push.ensures.items, c.cap.ensures.cap)
    (sym (c.loop_finds.ensures c.args.strategy.now)
    ∙ found_steps c.args.strategy.now c.loop-count.count c.loop-count.steps.items c.loop-count.invariant (at_cap c))

pub invariant_of-result : goal.invariant_of-result
invariant_of-result c = rw (c.in_ok-push.ensures.items, c.cap.ensures.cap)
    (whole_staircase c.args.strategy.now c.loop-count.count c.loop-count.steps.items c.loop-count.invariant (at_cap c))

pub returns-clause-exact : goal.returns-clause-exact
returns-clause-exact c = found_is c

least_is : (c : goal.In_ok-push) →
    IsLeastRankTable c.args.strategy.now (ranks_by c.push.new.self.items c.args.strategy.now.cap)
least_is c =
    least_found c.args.strategy.now c.push.new.self.items (c.least_where_not_stuck.ensures c.args.strategy.now)
    (c.least_ranks_are_gradual.ensures c.args.strategy.now) c.staircase_and_back.ensures.ranks (found_is c)

pub returns-clause-least : goal.returns-clause-least
returns-clause-least c = least_is c

pub returns-clause-serving : goal.returns-clause-serving
returns-clause-serving c =
    let items = c.in_ok-push.ensures.items ∙ ap (λ (n : ℕ). c.loop-count.steps.items ++ n ∷ []) c.cap.ensures.cap in
    rw (c.in_ok-push.ensures.items, c.cap.ensures.cap) (serves_least c.args.strategy.now c.loop-count.steps.items (subst
    (λ (ss : List ℕ). IsLeastRankTable c.args.strategy.now (ranks_by ss c.args.strategy.now.cap)) items (least_is c)))
