-- What time it is, the clock has said.
use Rattle.std.proofs.Common.{rules}
use Rattle.rangesync.specs.Ranges.{IsFloorNow}
use Rattle.rangesync.proofs.run.kept_of.Goals as goal

pub returns-in-None : goal.returns-in-None
returns-in-None g c =
    let now : IsFloorNow c.args.forgets c.floor_at.result = record {
      now = c.seconds_now.result;
      lower = c.floor_at.ensures.old;
      upper = c.floor_at.ensures.end;
      time = c.floor_at.ensures.time;
    } in
    search (rules, now)
