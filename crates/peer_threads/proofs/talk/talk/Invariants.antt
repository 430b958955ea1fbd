use Rattle.std.proofs.Common.{◌≡◌, ℕ, ◌≤◌, ◌^◌, true, false, List, Option}
use Rattle.definitions.specs.Ends.{is_live}
use Rattle.definitions.specs.Engines.{Speaker}
use Rattle.peer_threads.specs.Inboxes.{Counts, ReadOn}
use Rattle.peer_threads.specs.Outcomes.{Origin, traffic_of}
use Rattle.peer_threads.specs.Listening.{InStep, rest_of}
use Rattle.peer_threads.specs.Underway.{Underway, most_sent}
use Rattle.peer_threads.proofs.talk.talk.Given as goal

abbrev pub invariant-turns : goal.invariant-turns
invariant-turns g l = record {
  fine : l.connection.writer.failed ≡ false;
  listens : l.connection.reader.failed ≡ false;
  step : (start : ℕ) → InStep start l.fn.connection.reader.reads l.fn.inbox.reads →
      InStep start l.connection.reader.reads l.inbox.reads;
  count : l.sender.sent ≡ l.party.end.sent;
  most : most_sent g.F.WireSummary.summary g.P.Role.side l.party
      ≡ most_sent g.F.WireSummary.summary g.P.Role.side l.fn.party;
  few : l.sender.sent ≤ most_sent g.F.WireSummary.summary g.P.Role.side l.fn.party;
  reads : l.fn.inbox.reads ≤ 2 ^ 32 →
      Counts l.fn.connection.reader.reads l.connection.reader.reads l.fn.inbox l.inbox;
  goes : (s : Speaker g.row.F.Denot) (unread : Origin) (held : Option (List ℕ)) → is_live s.start.stage ≡ true →
      Underway g.F.WireSummary.summary g.F.WireSummary.profile s l.fn.party l.fn.inbox
      l.fn.sender
      (traffic_of unread (g.R.Read.remaining l.fn.connection.reader.inner) held
      (g.W.Write.contents l.fn.connection.writer.inner)) →
      Underway g.F.WireSummary.summary g.F.WireSummary.profile s l.party l.inbox l.sender
      (traffic_of unread (g.R.Read.remaining l.connection.reader.inner) held
      (g.W.Write.contents l.connection.writer.inner))
      × ReadOn (g.R.Read.remaining l.fn.connection.reader.inner) (g.R.Read.remaining l.connection.reader.inner);
}

abbrev pub decreases-turns : goal.decreases-turns
decreases-turns g l = rest_of l.inbox
