use Rattle.std.proofs.Common.{rules, ◌≡◌, ◌-◌, ℕ, true, List, length, take, drop, sym, ap, ◌∙◌, subst, arith}
use Rattle.std.proofs.lemmas.List.{length-drop}
use Rattle.std.proofs.Math.Seq.{take-length}
use Rattle.session_core.specs.Sessions.{SessionState, Pushes, is_open}
use Rattle.session_core.proofs.Calls.{pushes-on, pushes-so}
use Rattle.session_core.proofs.session.Session.hear_all.Goals as goal

pub loop-taken-preserved : goal.loop-taken-preserved
loop-taken-preserved g c =
    let before = c.loop-taken.invariant in
    let took = c.in-Ok.ensures.took in
    let piece = c.args.piece.now in
    let from = c.loop-taken.taken in
    let left = length-drop from piece in
    let rest : take (length piece - from) (drop from piece) ≡ drop from piece =
    ap (λ (n : ℕ). take n (drop from piece)) (sym left) ∙ take-length (drop from piece) in
    let goes : is_open c.loop-taken.self.talk.state ≡ true = search rules in
    let heard = subst (λ (l : List ℕ). Pushes g.F.WireSummary.summary g.F.WireSummary.profile c.loop-taken.self
    (take c.in-Ok.count l) c.hear_next.new.self) rest c.in-Ok.ensures.pushes in
    record {
      some = omega (arith, before.some, took.1, left, ap (λ (l : List ℕ). length l) rest);
      pushes = pushes-on g.F.WireSummary.summary g.F.WireSummary.profile c.args.self.now c.loop-taken.self
          c.hear_next.new.self piece from c.in-Ok.count before.pushes heard;
      over = c.in-Ok.ensures.over ∙ before.over;
      none = λ is. absurd (omega (arith, is, took.0));
      after = λ closed.
          let same = ap (λ (x : SessionState g.row.F.Denot). is_open x.talk.state) (before.none (before.after closed))
          in
          let wrong = sym goes ∙ same ∙ closed in absurd cc;
    }

pub returns-in-Err-clause-pushes : goal.returns-in-Err-clause-pushes
returns-in-Err-clause-pushes g c =
    pushes-so g.F.WireSummary.summary g.F.WireSummary.profile c.args.self.now c.loop-taken.self c.hear_next.new.self
    c.args.piece.now c.loop-taken.taken c.unless_none.result c.unless_none.ensures.some c.in-Err.ensures.memory
    c.loop-taken.invariant.pushes
