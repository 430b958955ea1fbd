use Rattle.std.proofs.Common.{◌≡◌, length, Ok}
use Rattle.session_core.specs.Links.{MovesSo, Stands}
use Rattle.session_core.specs.Overs.{EndsBy, Rests}
use Rattle.session_core.proofs.pumping.pump.Given as goal

abbrev pub invariant-loop-turn : goal.invariant-loop-turn
invariant-loop-turn g l = record {
  moved : MovesSo g.F.WireSummary.summary g.F.WireSummary.profile l.fn.session l.session
      (g.I.Read.remaining l.fn.reader.way) (g.I.Read.remaining l.reader.way)
      (g.O.Write.contents l.fn.writer.way) (g.O.Write.contents l.writer.way) (Ok l.pumped);
  stands : Stands g.F.WireSummary.profile (Ok l.pumped) l.session l.reader.last l.writer.last;
  over : EndsBy l.fn.session l.session l.reader.last;
  rests : Rests l.fn.session l.session l.fn.reader.last l.reader.last;
  room : length l.room ≡ length l.fn.room;
}
