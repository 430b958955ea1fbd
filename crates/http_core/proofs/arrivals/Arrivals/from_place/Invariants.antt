use Rattle.std.proofs.Common.{◌≡◌, drop, length, take}
use Rattle.http_core.proofs.arrivals.Arrivals.from_place.Given as goal

abbrev pub invariant-loop-later : goal.invariant-loop-later
invariant-loop-later l = record {
  taken : l.items.items ≡ take l.later (drop l.place l.self.items.items);
  all : length l.items.items ≡ l.later;
}
