use Rattle.std.proofs.Common.{rules, ◌≡◌, ◌∙◌, Err}
use Rattle.session_core.proofs.Moving.{MovesSo-both, MovesSo-failed, stands-both}
use Rattle.session_core.proofs.Ending.{ends-both, rests-both}
use Rattle.session_core.proofs.pumping.pump.Goals as goal

pub loop-turn-init : goal.loop-turn-init
loop-turn-init g c = record {
  moved = c.in_ok-pumped.ensures.moved;
  stands = c.in_ok-pumped.ensures.stands;
  over = c.in_ok-pumped.ensures.over;
  rests = c.in_ok-pumped.ensures.rests;
  room = c.in_ok-pumped.ensures.room;
}

pub returns-then-ne-clause-moved : goal.returns-then-ne-clause-moved
returns-then-ne-clause-moved g c = c.loop-turn.invariant.moved

pub returns-in_err-next-clause-moved : goal.returns-in_err-next-clause-moved
returns-in_err-next-clause-moved g c =
    let is : c.from_residual-in_err-next.result ≡ Err c.in_err-next.field-0.0 = search rules in
    let next = c.move_once-in-loop-turn.new in
    rw is (MovesSo-failed g.F.WireSummary.summary g.F.WireSummary.profile c.loop-turn.pumped c.in_err-next.field-0.0
    c.args.session.now c.loop-turn.session next.session (g.I.Read.remaining c.args.reader.now.way)
    (g.I.Read.remaining c.loop-turn.reader.way) (g.I.Read.remaining next.reader.way)
    (g.O.Write.contents c.args.writer.now.way) (g.O.Write.contents c.loop-turn.writer.way)
    (g.O.Write.contents next.writer.way) c.loop-turn.invariant.moved c.in_err-next.ensures.moved)

pub loop-turn-preserved : goal.loop-turn-preserved
loop-turn-preserved g c =
    let next = c.move_once-in-loop-turn.new in
    rw c.both-pumped.ensures (record {
      moved = MovesSo-both g.F.WireSummary.summary g.F.WireSummary.profile c.loop-turn.pumped c.in_ok-next.next
          c.args.session.now c.loop-turn.session next.session (g.I.Read.remaining c.args.reader.now.way)
          (g.I.Read.remaining c.loop-turn.reader.way) (g.I.Read.remaining next.reader.way)
          (g.O.Write.contents c.args.writer.now.way) (g.O.Write.contents c.loop-turn.writer.way)
          (g.O.Write.contents next.writer.way) c.loop-turn.invariant.moved c.in_ok-next.ensures.moved;
      stands = stands-both g.F.WireSummary.summary g.F.WireSummary.profile c.loop-turn.pumped c.in_ok-next.next
          next.session next.reader.last next.writer.last
          c.in_ok-next.ensures.stands;
      over = ends-both c.args.session.now c.loop-turn.session next.session c.loop-turn.reader.last next.reader.last
          c.loop-turn.invariant.over c.in_ok-next.ensures.over c.in_ok-next.ensures.rests;
      rests = rests-both c.args.session.now c.loop-turn.session next.session c.args.reader.now.last
          c.loop-turn.reader.last next.reader.last c.loop-turn.invariant.rests c.in_ok-next.ensures.rests;
      room = c.in_ok-next.ensures.room ∙ c.loop-turn.invariant.room;
    })

pub returns-clause-moved : goal.returns-clause-moved
returns-clause-moved g c = c.loop-turn.invariant.moved
