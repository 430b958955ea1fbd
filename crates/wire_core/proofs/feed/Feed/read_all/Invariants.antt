use Rattle.std.proofs.Common.{◌≡◌, ◌++◌, length, take}
use Rattle.definitions.specs.Streams.{feed, stays}
use Rattle.wire_core.specs.Events.{event_values}
use Rattle.wire_core.specs.Standings.{put_after}
use Rattle.wire_core.proofs.feed.Feed.read_all.Given as goal

-- the events so far, in front of those of the rest, are all
abbrev pub invariant-events : goal.invariant-events
invariant-events g l = record {
  so_far : put_after (event_values l.fn.out.items)
      (feed g.F.WireSummary.profile l.self.standing (l.self.kept ++ l.piece))
      ≡ put_after (event_values l.out.items) (feed g.F.WireSummary.profile l.there.standing (l.there.kept ++ l.rest));
  held : feed g.F.WireSummary.profile l.there.standing l.there.kept ≡ stays l.there.standing l.there.kept;
  before : take (length l.fn.out.items) l.out.items ≡ l.fn.out.items;
}

abbrev pub decreases-events : goal.decreases-events
decreases-events g l = length l.rest
