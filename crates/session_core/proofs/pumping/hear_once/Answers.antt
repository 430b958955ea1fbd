use Rattle.std.proofs.Common.{rules, ◌≡◌, ◌<◌, ◌^◌, take, Err, refl}
use Rattle.session_core.proofs.Moving.{hears-so, hears-some, hears-and-fails}
use Rattle.session_core.proofs.pumping.hear_once.Goals as goal

pub returns-in_err-hear-clause-moved : goal.returns-in_err-hear-clause-moved
returns-in_err-hear-clause-moved g c = λ held.
    let is : c.from_residual.result ≡ Err c.in_err-hear.field-0.0 = search rules in
    rw is (hears-some g.F.WireSummary.summary g.F.WireSummary.profile c.in_err-hear.field-0.0 c.args.session.now
    c.hear.new.session (g.I.Read.remaining c.args.reader.now.way) (g.I.Read.remaining c.read-count.new.self.way) held
    (take c.read-count.result c.read-count.new.room) c.read-count.ensures.bytes c.in_err-hear.ensures.some)

pub returns-in_err-pause-clause-moved : goal.returns-in_err-pause-clause-moved
returns-in_err-pause-clause-moved g c = λ held.
    let is : c.from_residual-in_err-pause.result ≡ Err c.in_err-pause.field-0.0 = search rules in
    rw is (hears-and-fails g.F.WireSummary.summary g.F.WireSummary.profile c.in_err-pause.field-0.0 c.args.session.now
    c.hear.new.session (g.I.Read.remaining c.args.reader.now.way) (g.I.Read.remaining c.read-count.new.self.way) held
    (take c.read-count.result c.read-count.new.room) c.read-count.ensures.bytes c.in_ok-hear.ensures.pushes)

pub returns-clause-moved : goal.returns-clause-moved
returns-clause-moved g c = λ held.
    let small : c.read-count.result < 2 ^ 64 = search rules in
    hears-so g.F.WireSummary.summary g.F.WireSummary.profile
    (record { pause = c.in_ok-pause.pause; read = c.read-count.result; written = 0 }) c.args.session.now
    c.hear.new.session (g.I.Read.remaining c.args.reader.now.way) (g.I.Read.remaining c.read-count.new.self.way) held
    c.read-count.new.room c.read-count.result c.read-count.ensures.bytes c.read-count.ensures.bound small
    c.in_ok-hear.ensures.pushes refl refl
