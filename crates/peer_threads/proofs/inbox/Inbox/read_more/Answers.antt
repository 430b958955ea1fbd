use Rattle.std.proofs.Common.{rules, ◌≡◌, ◌+◌, ◌<◌, ◌≤◌, ◌^◌, inr, [], length, refl, ap, arith, IsTrue}
use Rattle.peer_threads.specs.Outcomes.{seen}
use Rattle.peer_threads.specs.Inboxes.{InboxState, IsUnread}
use Rattle.session_table.specs.declared.outcome.Direction.TheVariants as directions
use Rattle.peer_threads.proofs.InboxSteps.{reads_nothing, came, ended_read}
use Rattle.peer_threads.proofs.inbox.Inbox.read_more.Goals as goal

pub returns-then-self-ge-MAX_READS-clause-read : goal.returns-then-self-ge-MAX_READS-clause-read
returns-then-self-ge-MAX_READS-clause-read g c =
    let unread = g.R.Read.remaining c.args.reader.now.inner in
    let most = c.if-self-ge-MAX_READS.true in
    let same = ap (λ (b : InboxState). b.reads) c.self.view_is in
    reads_nothing g.F.WireSummary.profile g.met.F.WireSummary.real unread c.args.self.now (λ bytes es. IsUnread
    g.F.WireSummary.profile (seen c.args.reader.now.failed c.args.reader.now.ended)
    bytes es directions.Read)
    (λ bytes es fits has. let counted = has.counted in
    let all : 2 ^ 32 ≤ length bytes = omega arith in
    (refl, inr all, (has.more, has.events)))

pub returns-clause-read : goal.returns-clause-read
returns-clause-read g c =
    let inside = c.self.inside in
    let old : InboxState = record { feed = inside.feed; waiting = inside.piece; reads = inside.reads } in
    let new : InboxState = record { feed = inside.feed; waiting = c.fill.new.self; reads = inside.reads + 1 } in
    let none : inside.piece ≡ [] = search rules in
    let bytes = c.in-Ok.ensures.bytes in
    let some : 0 < length c.fill.new.self = search rules in
    rw (← c.self.view_is)
    (came g.F.WireSummary.profile g.met.F.WireSummary.real _ _ old new none refl bytes.0 refl some bytes.1)

pub returns-then-count-eq0-clause-read : goal.returns-then-count-eq0-clause-read
returns-then-count-eq0-clause-read g c =
    let inside = c.self.inside in
    let old : InboxState = record { feed = inside.feed; waiting = inside.piece; reads = inside.reads } in
    let new : InboxState = record { feed = inside.feed; waiting = c.fill.new.self; reads = inside.reads + 1 } in
    let none : inside.piece ≡ [] = search rules in
    let nil : length c.fill.new.self ≡ 0 = search rules in
    let over = seen c.fill.new.reader.failed c.fill.new.reader.ended in
    let ended : IsTrue c.fill.new.reader.ended = search rules in
    rw (← c.self.view_is)
    (ended_read g.F.WireSummary.profile g.met.F.WireSummary.real _ _ old new over c.number.result c.fill.new.self none
    refl nil c.in-Ok.ensures.bytes.1 ended c.number.ensures)
