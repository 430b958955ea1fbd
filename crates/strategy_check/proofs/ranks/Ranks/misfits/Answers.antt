use Rattle.std.proofs.Common.{ap, sym, ◌∙◌, arith, List, ℕ}
use Rattle.std.specs.Prelude.{nat_le}
use Rattle.definitions.specs.Ranks.{rank_by}
use Rattle.strategy_check.proofs.Counts.{unfit_by_shares}
use Rattle.strategy_check.proofs.ranks.Ranks.misfits.Goals as goal

pub returns-then-cutting-gt0 : goal.returns-then-cutting-gt0
returns-then-cutting-gt0 c =
    let parts = c.in-Some.ensures.parts in
    let some = c.if-cutting-gt0.true in
    let within = c.if-n-last.false in
    let own =
    c.rank.ensures.rank ∙ ap (λ (ss : List ℕ). rank_by ss c.args.n) (c.deref.ensures.value ∙ c.self.view_is) in
    let top = c.rank-then-cutting-gt0.ensures.rank ∙ ap (λ (ss : List ℕ). rank_by ss c.in-Some.cutting.greatest)
    (c.deref-then-cutting-gt0.ensures.value ∙ c.self.view_is) ∙ ap (rank_by c.args.self.now) parts.1 in
    ap (λ m. nat_le m c.rank-then-cutting-gt0.result) own ∙ ap (nat_le (rank_by c.args.self.now c.args.n)) top
    ∙ sym (unfit_by_shares c.args.strategy.now c.args.self.now c.args.n (omega (arith, c.last.ensures))
    (sym c.in-Some.ensures.stuck) (omega (arith, parts.0)))
