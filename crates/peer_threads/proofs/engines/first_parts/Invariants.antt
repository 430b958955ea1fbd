use Rattle.std.proofs.Common.{◌≡◌, ℕ, ◌+◌, ◌≤◌, false}
use Rattle.peer_threads.specs.Inboxes.{Reads}
use Rattle.peer_threads.specs.Listening.{InStep, rest_of}
use Rattle.peer_threads.specs.Underway.{MayBegin, first_place}
use Rattle.peer_threads.proofs.FirstMessages.{HasParts}
use Rattle.peer_threads.proofs.engines.first_parts.Given as goal

-- the parts that came so far may stand first, and all else waits
abbrev pub invariant-parts : goal.invariant-parts
invariant-parts g l = record {
  listens : l.reader.failed ≡ false;
  step : (start : ℕ) → InStep start l.fn.reader.reads l.fn.inbox.reads → InStep start l.reader.reads l.inbox.reads;
  reads : l.reader.reads + l.fn.inbox.reads ≤ l.fn.reader.reads + l.inbox.reads;
  place : l.place.now ≡ first_place g.F.WireSummary.summary l.parts.items;
  fits : MayBegin g.F.WireSummary.summary l.parts.items;
  came : Reads g.F.WireSummary.profile (g.R.Read.remaining l.fn.reader.inner) (g.R.Read.remaining l.reader.inner)
      l.fn.inbox (HasParts g.F.WireSummary.summary g.F.WireSummary.profile l.inbox l.parts.items);
}

abbrev pub decreases-parts : goal.decreases-parts
decreases-parts g l = rest_of l.inbox
