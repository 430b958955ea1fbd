use Rattle.std.proofs.Common.{◌≡◌, ◌+◌, ◌≤◌, ◌++◌, ◌∷◌, take, map, length, get_or}
use Rattle.definitions.specs.Fingerprints.{two_lanes}
use Rattle.definitions.specs.Replies.{sum_of}
use Rattle.ends_core.proofs.replying.push_sums.Given as goal

abbrev pub invariant-loop-piece : goal.invariant-loop-piece
invariant-loop-piece g l = record {
  said : l.parts.items ≡ l.fn.parts.items ++ map (sum_of g.F.WireSummary.summary (g.S.RangeStore.content l.store))
      (take l.piece l.ranges);
  begins : l.piece ≤ length l.places → l.from ≡ l.at.from + get_or (0 ∷ l.places) l.piece 0;
  front : l.before ≡ two_lanes.of (take l.from (g.S.RangeStore.content l.store));
}
