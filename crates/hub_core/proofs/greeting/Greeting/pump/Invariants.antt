use Rattle.std.proofs.Common.{◌≡◌, Ok, length}
use Rattle.hub_core.specs.Steps.{EndsGreeting, GreetsSo, LeavesGreeting, RestsGreeting}
use Rattle.hub_core.proofs.greeting.Greeting.pump.Given as goal

abbrev pub invariant-loop-turn : goal.invariant-loop-turn
invariant-loop-turn g l = record {
  moved : GreetsSo l.fn.self l.self (g.I.Read.remaining l.fn.reader.way) (g.I.Read.remaining l.reader.way)
      (g.O.Write.contents l.fn.writer.way) (g.O.Write.contents l.writer.way) (Ok l.step);
  leaves : LeavesGreeting l.self l.reader.last l.writer.last (Ok l.step);
  over : EndsGreeting l.fn.self l.self l.reader.last;
  rests : RestsGreeting l.fn.self l.self l.fn.reader.last l.reader.last;
  room : length l.room ≡ length l.fn.room;
}
