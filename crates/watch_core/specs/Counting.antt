-- What is counted of the visits of peers.
--     plus a b                 the sum, which stops at 2^64 - 1
--     ending_of o              how an outcome ended
--     no_endings               the counts of no visit
--     with_ending e c          the counts after one more visit, which ended so
--     count_of e c             how many visits ended so
--     HasNumbers c, IsEnding e    what holds of the counts and of an ending that a program has
--     no_traffic, traffic_sum  what no visit cost and found; what two did together
--     no_durations             the buckets of no session
--     with_duration millis b   a bucket after one more session
--     Lasted millis old new    all buckets before and after one more session
--     no_counts                all counts of no visit
--     with_ranged X c          the counts after one more session over this range, in the count of those over a range
--     Counted v old new        all counts before and after one more visit
--     visits_of c              how many visits are counted
use Rattle.std.specs.Prelude.{◌≡◌, ℕ, ◌+◌, ◌-◌, ◌^◌, min, List, [], ◌∷◌, map, set, slice_index, slice_index_or}
use Rattle.std.specs.Prelude.{◌<◌, length, ⊤, EachIndex, nat_le, if◌then◌else◌, Option, Some, None, replicate}
use Rattle.definitions.specs.Items.{Range}
use Rattle.session_table.specs.declared.outcome.Direction.TheVariants.{Read, Write}
use Rattle.session_table.specs.declared.outcome.Outcome.{Outcome}
use Rattle.session_table.specs.declared.outcome.Outcome.TheVariants as outcomes
use Rattle.watch_core.specs.Pieces.{has_bound}
use Rattle.watch_core.specs.declared.endings.Ending.{Ending}
use Rattle.watch_core.specs.declared.endings.Ending.TheVariants as endings
use Rattle.watch_core.specs.declared.endings.EndingCounts.{EndingCounts}
use Rattle.watch_core.specs.declared.visit.Traffic.{Traffic}
use Rattle.watch_core.specs.declared.visit.Visit.{Visit}
use Rattle.watch_core.specs.declared.durations.Bucket.{Bucket}
use Rattle.watch_core.specs.declared.durations.Durations.{Durations}
use Rattle.watch_core.specs.declared.counts.Counts.{Counts}

abbrev pub most : ℕ
most = 2 ^ 64 - 1

abbrev pub plus : ℕ → ℕ → ℕ
plus a b = min (a + b) most

abbrev pub with_one_more : List ℕ → ℕ → List ℕ
with_one_more counts place = set counts place (plus (slice_index counts place) 1)

abbrev pub ending_of : Outcome → Ending
ending_of (outcomes.Ended learned sent version) = endings.Ended
ending_of (outcomes.Refused code sent) = endings.Refused code
ending_of (outcomes.PeerRefused code sent) = endings.PeerRefused code
ending_of (outcomes.Io side sent) = endings.Io side
ending_of (outcomes.Memory sent) = endings.Memory

abbrev pub no_endings : EndingCounts
no_endings = record {
  all = 0;
  ended = 0;
  refused = replicate 256 0;
  peer_refused = replicate 256 0;
  io_read = 0;
  io_write = 0;
  memory = 0;
}

-- the one count of the ending rises by one, and so does that of all
abbrev pub with_ending : Ending → EndingCounts → EndingCounts
with_ending endings.Ended c = record c { all = plus c.all 1; ended = plus c.ended 1 }
with_ending (endings.Refused code) c = record c { all = plus c.all 1; refused = with_one_more c.refused code }
with_ending (endings.PeerRefused code) c =
    record c { all = plus c.all 1; peer_refused = with_one_more c.peer_refused code }
with_ending (endings.Io Read) c = record c { all = plus c.all 1; io_read = plus c.io_read 1 }
with_ending (endings.Io Write) c = record c { all = plus c.all 1; io_write = plus c.io_write 1 }
with_ending endings.Memory c = record c { all = plus c.all 1; memory = plus c.memory 1 }

abbrev pub count_of : Ending → EndingCounts → ℕ
count_of endings.Ended c = c.ended
count_of (endings.Refused code) c = slice_index c.refused code
count_of (endings.PeerRefused code) c = slice_index c.peer_refused code
count_of (endings.Io Read) c = c.io_read
count_of (endings.Io Write) c = c.io_write
count_of endings.Memory c = c.memory

-- there is a count for each number that a refusal may have
abbrev pub HasNumbers : EndingCounts → Type 0
HasNumbers c = (length c.refused ≡ 256) × (length c.peer_refused ≡ 256)

-- the number of a refusal is a byte
abbrev pub IsEnding : Ending → Type 0
IsEnding endings.Ended = ⊤
IsEnding (endings.Refused code) = code < 256
IsEnding (endings.PeerRefused code) = code < 256
IsEnding (endings.Io side) = ⊤
IsEnding endings.Memory = ⊤

abbrev pub no_traffic : Traffic
no_traffic = record { received = 0; sent = 0; messages = 0; ours = 0; theirs = 0 }

abbrev pub traffic_sum : Traffic → Traffic → Traffic
traffic_sum a b = record {
  received = plus a.received b.received;
  sent = plus a.sent b.sent;
  messages = plus a.messages b.messages;
  ours = plus a.ours b.ours;
  theirs = plus a.theirs b.theirs;
}

-- a bucket that no session is in
abbrev pub empty_bucket : ℕ → Bucket
empty_bucket bound = record { bound = bound; count = 0 }

abbrev pub bounds : List ℕ
bounds = 5 ∷ 10 ∷ 25 ∷ 50 ∷ 100 ∷ 250 ∷ 500 ∷ 1000 ∷ 2500 ∷ 5000 ∷ 10000 ∷ 60000 ∷ 600000 ∷ []

abbrev pub no_durations : Durations
no_durations = record { buckets = map empty_bucket bounds; millis = 0 }

-- the bucket after a session of so many milliseconds
abbrev pub with_duration : ℕ → Bucket → Bucket
with_duration millis b = if nat_le millis b.bound then record b { count = plus b.count 1 } else b

abbrev pub bucket_at : List Bucket → ℕ → Bucket
bucket_at buckets k = slice_index_or buckets k (empty_bucket 0)

-- the session is counted in each bucket whose bound it keeps, and its time is added
abbrev pub Lasted : ℕ → Durations → Durations → Type 0
Lasted millis old new = (new.millis ≡ plus old.millis millis)
    × EachIndex new.buckets (λ k. bucket_at new.buckets k ≡ with_duration millis (bucket_at old.buckets k))

abbrev pub no_counts : Counts
no_counts =
    record { sessions = no_endings; strangers = no_endings; ranged = 0; durations = no_durations; traffic = no_traffic }

-- a session is over a range if that has a bound
abbrev pub with_ranged : Range → Counts → Counts
with_ranged X c = if has_bound X then record c { ranged = plus c.ranged 1 } else c

-- a visit without a session is counted among the strangers alone, and one with a session among the sessions alone
abbrev pub CountedBy : Option ℕ → Visit → Counts → Counts → Type 0
CountedBy None v old new = (new.sessions ≡ old.sessions) × (new.durations ≡ old.durations)
    × (new.ranged ≡ old.ranged) × (new.strangers ≡ with_ending v.ending old.strangers)
CountedBy (Some serial) v old new = (new.sessions ≡ with_ending v.ending old.sessions)
    × Lasted v.millis old.durations new.durations × (new.ranged ≡ (with_ranged v.range old).ranged)
    × (new.strangers ≡ old.strangers)

-- the visit is counted once under its ending, and what it cost and found is added
abbrev pub Counted : Visit → Counts → Counts → Type 0
Counted v old new = CountedBy v.serial v old new × (new.traffic ≡ traffic_sum old.traffic v.traffic)

abbrev pub visits_of : Counts → ℕ
visits_of c = plus c.sessions.all c.strangers.all
