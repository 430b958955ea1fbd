use Rattle.std.proofs.Common.{rules, ◌≡◌, ◌≤◌, false, [], None, Ok, Err, take, length, refl, subst}
use Rattle.session_core.specs.Polls.{ReadsSo}
use Rattle.session_core.specs.declared.fault.LinkFault.TheVariants as faults
use Rattle.session_core.specs.declared.polled.Last.{Last}
use Rattle.session_core.specs.declared.polled.Last.TheVariants as lasts
use Rattle.session_core.specs.Links.{pause_at}
use Rattle.hub_core.specs.Steps.{is_ready}
use Rattle.hub_core.proofs.Greeted.{greets-lost, counted-take, came-long}
use Rattle.hub_core.proofs.Leaving.{heard-leaves, heard-fails, still-waits}
use Rattle.hub_core.proofs.greeting.Greeting.hear_once.Goals as goal

pub returns-in_err-keep-clause-moved : goal.returns-in_err-keep-clause-moved
returns-in_err-keep-clause-moved g c = λ held.
    let is : c.from_residual.result ≡ Err faults.Memory = search rules in
    let lost = take c.read-count.result c.read-count.new.room in
    rw is ([], [], lost, greets-lost _ _ _ _ held lost c.in_err-keep.ensures.memory c.read-count.ensures.bytes)

pub returns-in_err-pause-clause-moved : goal.returns-in_err-pause-clause-moved
returns-in_err-pause-clause-moved g c = λ held.
    let is : c.from_residual-in_err-pause.result ≡ Err c.in_err-pause.field-0.0 = search rules in
    let read = take c.read-count.result c.read-count.new.room in
    rw is (read, [], [], c.in_ok-keep.ensures.kept _ _ held c.read-count.ensures.bytes)

pub returns-clause-moved : goal.returns-clause-moved
returns-clause-moved g c = λ held.
    let read = take c.read-count.result c.read-count.new.room in (
      read,
      [],
      c.in_ok-keep.ensures.kept _ _ held c.read-count.ensures.bytes,
      counted-take c.read-count.result c.read-count.new.room c.read-count.ensures.bound (search rules),
      refl,
    )

pub returns-in_err-pause-clause-leaves : goal.returns-in_err-pause-clause-leaves
returns-in_err-pause-clause-leaves g c = λ w.
    let is : c.from_residual-in_err-pause.result ≡ Err c.in_err-pause.field-0.0 = search rules in
    let at : pause_at c.read-count.new.self.last faults.Read ≡ Err c.in_err-pause.field-0.0 = search rules in
    rw is (heard-fails c.read-count.new.self.last w c.in_err-pause.field-0.0 at)

pub returns-clause-leaves : goal.returns-clause-leaves
returns-clause-leaves g c = λ w.
    let n = c.read-count.result in
    let read = take n c.read-count.new.room in
    let at : pause_at c.read-count.new.self.last faults.Read ≡ Ok c.in_ok-pause.pause = search rules in
    let came = (c.in_ok-keep.ensures.kept _ _ None c.read-count.ensures.bytes).came in
    let long = came-long n c.read-count.new.room c.args.self.now.came c.keep.new.self.came c.read-count.ensures.bound
    came in
    let written : 4 ≤ length c.args.self.now.came → c.keep.new.self.said ≡ 4 = λ four.
    search (rules, c.requires.written four) in
    let idle : c.read-count.new.self.last ≡ lasts.Waits → is_ready c.keep.new.self ≡ false = λ waits.
    still-waits n c.read-count.new.room c.args.self.now c.keep.new.self
    (subst (λ (r : Last). ReadsSo n r) waits c.read-count.ensures.last) c.requires.waits came
    (search (rules, waits)) in
    heard-leaves n (length c.args.self.now.came) c.read-count.new.self.last w c.keep.new.self c.in_ok-pause.pause
    c.read-count.ensures.last long written (λ ended. search (rules, ended)) idle at
