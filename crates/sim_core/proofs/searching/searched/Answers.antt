use Rattle.std.proofs.Common.{ℕ, ◌≤◌, arith}
use Rattle.sim_core.proofs.searching.searched.Goals as goal

no-slower : (a b c : ℕ) → a ≤ b → b ≤ c → a ≤ c
no-slower a b c one two = omega arith

pub loop-preserved : goal.loop-preserved
loop-preserved g c = record {
  planned = c.in_ok-found.ensures.planned;
  timed = λ start. c.in_ok-found.ensures.timed (c.loop.invariant.timed start);
  never_slower = no-slower c.in_ok-found.found.planned.micros c.loop.found.planned.micros c.args.start.micros
      c.in_ok-found.ensures.never_slower c.loop.invariant.never_slower;
}
