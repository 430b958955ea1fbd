use Rattle.std.proofs.Common.{rules, ◌≡◌, ◌≤◌, true, [], length, refl}
use Rattle.hub_core.proofs.Greeted.{greets-none}
use Rattle.hub_core.specs.Steps.{is_ready}
use Rattle.hub_core.proofs.Leaving.{opens-leaves, ready-due, ready-over}
use Rattle.hub_core.proofs.greeting.Greeting.move_once.Goals as goal

pub returns-then-self-lt-HELLO-clause-moved : goal.returns-then-self-lt-HELLO-clause-moved
returns-then-self-lt-HELLO-clause-moved g c = c.say_once.ensures.moved _

pub returns-then-self-clause-moved : goal.returns-then-self-clause-moved
returns-then-self-clause-moved g c = ([], [], greets-none _ _ _, refl, refl)

pub returns-clause-moved : goal.returns-clause-moved
returns-clause-moved g c = c.hear_once.ensures.moved _

pub returns-then-self-lt-HELLO-clause-leaves : goal.returns-then-self-lt-HELLO-clause-leaves
returns-then-self-lt-HELLO-clause-leaves g c = c.say_once.ensures.leaves _

pub returns-then-self-clause-leaves : goal.returns-then-self-clause-leaves
returns-then-self-clause-leaves g c =
    let written : 4 ≤ length c.args.self.now.came → 4 ≤ c.args.self.now.said = λ four.
    elim c.else-len-ge-HELLO.branch [
      | goal.else-len-ge-HELLO-via-then-len-ge-HELLO+else-self-lt-HELLO w ↦ search (rules, w.if-self-lt-HELLO.false)
      | goal.else-len-ge-HELLO-via-else-len-ge-HELLO w ↦ search (rules, w.if-len-ge-HELLO.false, four)
    ] in
    let ready : is_ready c.args.self.now ≡ true =
    elim c.then-self.branch [
      | goal.then-self-via-then-self w ↦ ready-over c.args.self.now (search (rules, w.if-self.true))
      | goal.then-self-via-else-self+then-is_due w ↦
          ready-due c.args.self.now (search (rules, w.is_due.ensures, w.if-is_due.true))
    ] in
    let opens = opens-leaves c.args.self.now c.args.reader.now.last c.args.writer.now.last (search rules) written
    ready in
    search (rules, opens)

pub returns-clause-leaves : goal.returns-clause-leaves
returns-clause-leaves g c = c.hear_once.ensures.leaves _
