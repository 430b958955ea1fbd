use Rattle.std.proofs.Common.{rules, ◌≡◌, Ok, Err, refl}
use Rattle.session_core.specs.declared.fault.LinkFault.TheVariants as faults
use Rattle.session_core.specs.declared.pumped.Pumped.{Pumped}
use Rattle.session_core.specs.declared.pumped.Pause.TheVariants as pauses
use Rattle.session_core.proofs.Moving.{MovesSo-made, moves-nothing, fails-at-once}
use Rattle.session_core.proofs.pumping.move_once.Goals as goal

pub returns-in_err-make_due-clause-moved : goal.returns-in_err-make_due-clause-moved
returns-in_err-make_due-clause-moved g c =
    let is : c.from_residual.result ≡ Err faults.Memory = search rules in
    rw is (rw c.in_err-make_due.ensures.memory
    (fails-at-once g.F.WireSummary.summary g.F.WireSummary.profile faults.Memory
    c.args.session.now (g.I.Read.remaining c.args.reader.now.way) (g.O.Write.contents c.args.writer.now.way)))

pub returns-then-not-is_empty-clause-moved : goal.returns-then-not-is_empty-clause-moved
returns-then-not-is_empty-clause-moved g c =
    let unread = g.I.Read.remaining c.args.reader.now.way in
    MovesSo-made g.F.WireSummary.summary g.F.WireSummary.profile c.say_once.result c.args.session.now
    c.make_due.new.self c.say_once.new.session unread unread (g.O.Write.contents c.args.writer.now.way)
    (g.O.Write.contents c.say_once.new.writer.way) c.in_ok-make_due.ensures.knows (c.say_once.ensures.moved unread)

pub returns-then-not-is_open-clause-moved : goal.returns-then-not-is_open-clause-moved
returns-then-not-is_open-clause-moved g c =
    let unread = g.I.Read.remaining c.args.reader.now.way in
    let held = g.O.Write.contents c.args.writer.now.way in
    let p : Pumped = record { pause = pauses.Over; read = 0; written = 0 } in
    MovesSo-made g.F.WireSummary.summary g.F.WireSummary.profile (Ok p) c.args.session.now c.make_due.new.self
    c.make_due.new.self unread unread held held c.in_ok-make_due.ensures.knows
    (moves-nothing g.F.WireSummary.summary g.F.WireSummary.profile p c.make_due.new.self unread held refl refl)

pub returns-clause-moved : goal.returns-clause-moved
returns-clause-moved g c =
    let held = g.O.Write.contents c.args.writer.now.way in
    MovesSo-made g.F.WireSummary.summary g.F.WireSummary.profile c.hear_once.result c.args.session.now
    c.make_due.new.self
    c.hear_once.new.session (g.I.Read.remaining c.args.reader.now.way) (g.I.Read.remaining c.hear_once.new.reader.way)
    held held c.in_ok-make_due.ensures.knows (c.hear_once.ensures.moved held)
