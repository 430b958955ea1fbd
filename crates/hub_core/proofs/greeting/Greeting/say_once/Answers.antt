use Rattle.std.proofs.Common.{rules, ◌≡◌, [], Ok, Err, take, drop, refl}
use Rattle.session_core.specs.declared.fault.LinkFault.TheVariants as faults
use Rattle.session_core.specs.Links.{pause_at}
use Rattle.hub_core.specs.Greetings.{own_hello}
use Rattle.hub_core.proofs.Greeted.{greets-said, counted-take}
use Rattle.hub_core.proofs.Leaving.{said-leaves, said-fails}
use Rattle.hub_core.proofs.greeting.Greeting.say_once.Goals as goal

pub returns-in_err-pause : goal.returns-in_err-pause
returns-in_err-pause g c = record {
  leaves = λ r.
      let is : c.from_residual.result ≡ Err c.in_err-pause.field-0.0 = search rules in
      let at : pause_at c.write-count.new.self.last faults.Write ≡ Err c.in_err-pause.field-0.0 = search rules in
      rw is (said-fails r c.write-count.new.self.last c.in_err-pause.field-0.0 at);
  moved = λ unread.
      let is : c.from_residual.result ≡ Err c.in_err-pause.field-0.0 = search rules in
      let same : c.hello-hello.result ≡ own_hello c.args.self.now.came = c.hello-hello.ensures in
      let from : c.self.inside.said ≡ c.args.self.now.said = search rules in
      let piece : c.rest_of.result.now ≡ drop c.args.self.now.said (own_hello c.args.self.now.came) = search rules in
      let n = c.write-count.result in
      rw is (
        [],
        take n c.rest_of.result.now,
        [],
        greets-said c.args.self.now _ unread _ _ c.rest_of.result.now n
            (search rules) (search rules) piece c.write-count.ensures.bytes,
      );
  over = search rules;
}

pub returns : goal.returns
returns g c = record {
  leaves = λ r.
      let at : pause_at c.write-count.new.self.last faults.Write ≡ Ok c.in_ok-pause.pause = search rules in
      let n = c.write-count.result in
      said-leaves n c.args.self.now.said r c.write-count.new.self.last _ c.in_ok-pause.pause c.write-count.ensures.last
      (search (rules, c.requires.four)) c.requires.some (search rules) at;
  moved = λ unread.
      let same : c.hello-hello.result ≡ own_hello c.args.self.now.came = c.hello-hello.ensures in
      let from : c.self.inside.said ≡ c.args.self.now.said = search rules in
      let piece : c.rest_of.result.now ≡ drop c.args.self.now.said (own_hello c.args.self.now.came) = search rules in
      let n = c.write-count.result in (
        [],
        take n c.rest_of.result.now,
        greets-said c.args.self.now _ unread _ _ c.rest_of.result.now n
            (search rules) (search rules) piece c.write-count.ensures.bytes,
        refl,
        counted-take n c.rest_of.result.now c.write-count.ensures.bound (search rules),
      );
  over = search rules;
}
