use Rattle.std.proofs.Common.{rules, ◌≡◌, ◌≤◌, ◌<◌, ◌^◌, ℕ, List, length, take, Err, refl, subst}
use Rattle.std.specs.Io.KnownBytes.{Appends}
use Rattle.session_core.proofs.Moving.{says-so, says-and-fails}
use Rattle.session_core.proofs.pumping.say_once.Goals as goal

pub returns-in_err-pause-clause-moved : goal.returns-in_err-pause-clause-moved
returns-in_err-pause-clause-moved g c = λ unread.
    let is : c.from_residual.result ≡ Err c.in_err-pause.field-0.0 = search rules in
    let held = g.O.Write.contents c.args.writer.now.way in
    let holds = g.O.Write.contents c.write-count.new.self.way in
    let appended = subst (λ (l : List ℕ). Appends held holds (take c.write-count.result l)) c.due.ensures
    c.write-count.ensures.bytes in
    let fits = subst (λ (l : List ℕ). c.write-count.result ≤ length l) c.due.ensures c.write-count.ensures.bound in
    rw is (says-and-fails g.F.WireSummary.summary g.F.WireSummary.profile c.in_err-pause.field-0.0 c.args.session.now
    c.take.new.self unread held holds c.args.session.now.talk.outbox.ready c.write-count.result c.take.result appended
    fits c.take.ensures.count c.take.ensures.takes)

pub returns-clause-moved : goal.returns-clause-moved
returns-clause-moved g c = λ unread.
    let held = g.O.Write.contents c.args.writer.now.way in
    let holds = g.O.Write.contents c.write-count.new.self.way in
    let appended = subst (λ (l : List ℕ). Appends held holds (take c.write-count.result l)) c.due.ensures
    c.write-count.ensures.bytes in
    let fits = subst (λ (l : List ℕ). c.write-count.result ≤ length l) c.due.ensures c.write-count.ensures.bound in
    let small : c.write-count.result < 2 ^ 64 = search rules in
    says-so g.F.WireSummary.summary g.F.WireSummary.profile
    (record { pause = c.in_ok-pause.pause; read = 0; written = c.write-count.result }) c.args.session.now
    c.take.new.self unread held holds c.args.session.now.talk.outbox.ready c.write-count.result c.take.result appended
    fits small c.take.ensures.count c.take.ensures.takes refl refl
