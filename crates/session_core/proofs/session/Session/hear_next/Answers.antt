use Rattle.std.proofs.Common.{rules, ℕ, List, ◌++◌, sym, subst}
use Rattle.std.proofs.Math.Seq.{take-length}
use Rattle.session_core.specs.Sessions.{Knows}
use Rattle.session_core.proofs.session.Session.hear_next.Goals as goal

pub returns-then-branch-clause-pushes : goal.returns-then-branch-clause-pushes
returns-then-branch-clause-pushes g c = λ s pushed taken live k.
    let after = c.in_ok-keep.ensures.pushes c.if-branch.true s pushed taken live k in
    subst (λ (l : List ℕ). Knows g.F.WireSummary.summary g.F.WireSummary.profile s c.keep.new.self (pushed ++ l) taken)
    (sym (take-length c.args.piece.now)) after

pub returns-in_ok-go_on-in-Ok-clause-pushes : goal.returns-in_ok-go_on-in-Ok-clause-pushes
returns-in_ok-go_on-in-Ok-clause-pushes g c = λ s pushed taken live k.
    let after = c.in_ok-go_on-in-Ok.ensures.pushes s pushed taken live in
    search (rules, after)

pub returns-in-Err-Fault-clause-pushes : goal.returns-in-Err-Fault-clause-pushes
returns-in-Err-Fault-clause-pushes g c = λ s pushed taken live k.
    let after = c.refuse_for.ensures.pushes s pushed taken live in
    search (rules, after, take-length c.args.piece.now)
