use Rattle.std.proofs.Common.{ℕ, ◌≡◌, false, ◌+◌, ◌-◌, ◌≤◌, ◌^◌}
use Rattle.peer_threads.specs.Inboxes.{HasRead, Reads}
use Rattle.peer_threads.specs.Listening.{InStep, rest_of}
use Rattle.peer_threads.proofs.inbox.Inbox.next.Given as goal

-- what was read so far, and how often
abbrev pub invariant-reads : goal.invariant-reads
invariant-reads g l =
    Reads g.F.WireSummary.profile (g.R.Read.remaining l.fn.reader.inner) (g.R.Read.remaining l.reader.inner) l.fn.self
    (HasRead g.F.WireSummary.profile l.self)
    × (l.reader.reads + l.fn.self.reads ≤ l.fn.reader.reads + l.self.reads)
    × (l.reader.failed ≡ false)
    × ((start : ℕ) → InStep start l.fn.reader.reads l.fn.self.reads → InStep start l.reader.reads l.self.reads)
    × (rest_of l.self ≤ rest_of l.fn.self)

abbrev pub decreases-reads : goal.decreases-reads
decreases-reads g l = 2 ^ 32 - l.self.reads
