use Rattle.std.proofs.Common.{rules, ◌≡◌, Err}
use Rattle.hub_core.proofs.Greeted.{GreetsSo-both, GreetsSo-failed}
use Rattle.hub_core.proofs.Leaving.{leaves-both, ends-greeting, rests-greeting}
use Rattle.hub_core.proofs.greeting.Greeting.pump.Goals as goal

pub returns-in_err-next-clause-moved : goal.returns-in_err-next-clause-moved
returns-in_err-next-clause-moved g c =
    let is : c.from_residual-in_err-next.result ≡ Err c.in_err-next.field-0.0 = search rules in
    rw is (GreetsSo-failed c.loop-turn.step c.in_err-next.field-0.0 _ _ _ _ _ _ _ _ _ c.loop-turn.invariant.moved
    c.in_err-next.ensures.moved)

pub loop-turn-preserved : goal.loop-turn-preserved
loop-turn-preserved g c = record {
  moved = rw c.both-step.ensures (GreetsSo-both c.loop-turn.step c.in_ok-next.next _ _ _ _ _ _ _ _ _
      c.loop-turn.invariant.moved c.in_ok-next.ensures.moved);
  leaves = rw c.both-step.ensures (leaves-both c.loop-turn.step c.in_ok-next.next _ _ _ c.in_ok-next.ensures.leaves);
  over = ends-greeting c.args.self.now c.loop-turn.self c.move_once-in-loop-turn.new.self c.loop-turn.reader.last
      c.move_once-in-loop-turn.new.reader.last c.loop-turn.invariant.over c.in_ok-next.ensures.over
      c.in_ok-next.ensures.rests;
  rests = rests-greeting c.args.self.now c.loop-turn.self c.move_once-in-loop-turn.new.self c.args.reader.now.last
      c.loop-turn.reader.last c.move_once-in-loop-turn.new.reader.last c.loop-turn.invariant.rests
      c.in_ok-next.ensures.rests;
  room = search rules;
}
