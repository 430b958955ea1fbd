use Rattle.std.proofs.Common.{rules, ◌≡◌, length, take, Err, arith, refl, inl}
use Rattle.session_core.specs.declared.fault.LinkFault.TheVariants as faults
use Rattle.session_core.proofs.Calls.{pushes-nothing}
use Rattle.session_core.proofs.Moving.{pushes-none, pushes-open, pushes-whole}
use Rattle.session_core.proofs.pumping.hear.Goals as goal

pub returns-else-taken-piece-clause-pushes : goal.returns-else-taken-piece-clause-pushes
returns-else-taken-piece-clause-pushes g c =
    let piece = c.args.piece.now in
    let took = c.in_ok-taken-in-Moved in
    let all : took.taken ≡ length piece = omega (arith, took.ensures.took, c.if-taken-piece.false) in
    pushes-whole g.F.WireSummary.summary g.F.WireSummary.profile c.args.session.now c.push.new.self piece took.taken all
    (pushes-open g.F.WireSummary.summary g.F.WireSummary.profile c.args.session.now c.push.new.self
    (take took.taken piece) c.requires.goes took.ensures.pushes)

pub returns-in_default : goal.returns-in_default
returns-in_default g c = record {
  pushes = pushes-none g.F.WireSummary.summary g.F.WireSummary.profile c.args.session.now c.args.session.now
      c.args.piece.now (c.requires.none c.in_default.not-Moved) (λ s pushed taken live k. k);
  some = tt;
  fault = tt;
  ended = λ is. absurd (c.in_default.not-Ended is);
  waits = λ is. refl;
  over = λ is. inl is;
}

pub returns-in_err-taken-in-Moved-clause-some : goal.returns-in_err-taken-in-Moved-clause-some
returns-in_err-taken-in-Moved-clause-some g c =
    let is : c.from_residual.result ≡ Err faults.Memory = search rules in
    rw is (rw c.in_err-taken-in-Moved.ensures.memory
    (0, pushes-nothing g.F.WireSummary.summary g.F.WireSummary.profile c.args.session.now))

pub returns-then-taken-piece-clause-some : goal.returns-then-taken-piece-clause-some
returns-then-taken-piece-clause-some g c =
    let took = c.in_ok-taken-in-Moved in (
      took.taken,
      pushes-open g.F.WireSummary.summary g.F.WireSummary.profile c.args.session.now c.push.new.self
          (take took.taken c.args.piece.now) c.requires.goes took.ensures.pushes,
    )
