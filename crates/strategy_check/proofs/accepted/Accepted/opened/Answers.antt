use Rattle.std.proofs.Common.{rules, ◌≡◌, ◌≤◌, ap, sym, ◌∙◌, true, arith, subst}
use Rattle.definitions.specs.Strategies.{act, is_cut, shares}
use Rattle.definitions.specs.Ranks.{rank_by}
use Rattle.strategy_core.specs.Acts.{greatest, kind_of}
use Rattle.strategy_core.specs.declared.act.Act.TheVariants as acts
use Rattle.strategy_check.proofs.Opened.{share-le, cut-rank}
use Rattle.strategy_check.proofs.accepted.Accepted.opened.Goals as goal

pub of-requires : goal.of-requires
of-requires c =
    let T = c.self.inside.strategy in
    let n = c.args.n in
    let split : kind_of (act T n) ≡ acts.Split = search rules in
    let small = share-le c.shares_are_parts.ensures T n c.self.invariant.is_table split in
    let share : c.cutting.result.greatest ≡ greatest (shares T n) = search rules in
    let room : n ≤ T.cap = search rules in
    omega (arith, small, share, room, c.self.invariant.serving.reaches)

pub returns-then-eq-clause-rank : goal.returns-then-eq-clause-rank
returns-then-eq-clause-rank c =
    let T = c.self.inside.strategy in
    let n = c.args.n in
    let split : kind_of (act T n) ≡ acts.Split = search rules in
    let cut : is_cut T.opening ≡ true = search rules in
    let share : c.cutting.result.greatest ≡ greatest (shares T n) = search rules in
    let got = c.of.ensures.rank ∙ ap (rank_by c.self.inside.ranks) share
    ∙ cut-rank T c.self.inside.ranks n c.args.may_cut c.if-may_cut.true cut split in
    search (rules, got)

pub returns-then-eq-clause-small : goal.returns-then-eq-clause-small
returns-then-eq-clause-small c =
    let T = c.self.inside.strategy in
    let n = c.args.n in
    let split : kind_of (act T n) ≡ acts.Split = search rules in
    let small = share-le c.shares_are_parts.ensures T n c.self.invariant.is_table split in
    let share : c.cutting.result.greatest ≡ greatest (shares T n) = search rules in
    omega (arith, small, share, c.of.ensures.small)
