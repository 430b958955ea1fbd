use Rattle.std.proofs.Common.{◌+◌, ◌<◌, ◌≤◌, List, [], length, get_or, drop}
use Rattle.definitions.specs.Items.{Item}
use Rattle.version_log.specs.Arrivals.{before, HaveCome}
use Rattle.version_log.proofs.Arrivals.{StandsAt}
use Rattle.version_log.proofs.arrival.place_after.Given as goal

abbrev pub invariant-loop-arrival : goal.invariant-loop-arrival
invariant-loop-arrival l = record {
  fits : l.place ≤ l.fn.place + l.arrival-index;
  there : (A : List Item) → HaveCome l.arrivals A → l.fn.place < length (before l.arrivals A) →
      StandsAt (before (drop l.arrival-index l.arrivals) A) l.place (get_or (before l.arrivals A) l.fn.place []);
}
