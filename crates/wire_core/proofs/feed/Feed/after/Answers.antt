use Rattle.std.proofs.Common.{rules, ◌≡◌, false, Err, IfErr, sym, subst}
use Rattle.definitions.specs.Items.{IsBytes}
use Rattle.definitions.specs.Streams.{feed, stays}
use Rattle.wire_core.specs.Standings.{is_over}
use Rattle.wire_core.specs.Nexts.{Refuses}
use Rattle.wire_core.proofs.Nexts.{shared, cut_one, next_of, next_taken, next_refused}
use Rattle.wire_core.proofs.feed.Feed.after.Goals as goal

pub read_after-requires-clause-one : goal.read_after-requires-clause-one
read_after-requires-clause-one g c =
    let P = g.F.WireSummary.profile in
    let old = c.args.self.now in
    let length = c.next_length-taken.ensures in
    let fits : IsBytes old.kept = search (rules, c.are_bytes.ensures) in
    let read : feed P old.standing old.kept ≡ stays old.standing old.kept = search rules in
    let goes_on : is_over old.standing ≡ false = search rules in
    let share = shared old _ c.deref-2.result.now c.args.piece.now c.next_length-taken.result c.self.view_is
    c.deref-2.ensures.value length.within length.over length.reach in
    cut_one P (c.next_is_exact.ensures P g.met.F.WireSummary.real) old.standing old.kept c.args.piece.now
    c.next_length-taken.result fits read goes_on share.0 (share.2 goes_on)

pub returns-in_err-event-clause-refused : goal.returns-in_err-event-clause-refused
returns-in_err-event-clause-refused g c =
    let P = g.F.WireSummary.profile in
    let old = c.args.self.now in
    let fits : IsBytes old.kept = search (rules, c.are_bytes.ensures) in
    let goes_on : is_over old.standing ≡ false = search rules in
    let e = c.in_err-event.field-0.0 in
    let same : c.from_residual-in_err-event.result ≡ Err e = search rules in
    subst (λ r. IfErr r (Refuses P old c.args.piece.now)) (sym same)
    (next_refused P (c.feeds_join.ensures P g.met.F.WireSummary.real) old c.args.piece.now c.next_length-taken.result e
    fits c.are_bytes-2.ensures goes_on c.in_err-event.ensures)

pub returns-clause-next : goal.returns-clause-next
returns-clause-next g c =
    let P = g.F.WireSummary.profile in
    let old = c.args.self.now in
    let length = c.next_length-taken.ensures in
    let fits : IsBytes old.kept = search (rules, c.are_bytes.ensures) in
    let read : feed P old.standing old.kept ≡ stays old.standing old.kept = search rules in
    let next = next_of P (c.next_is_exact.ensures P g.met.F.WireSummary.real) old _ c.deref-2.result.now
    c.args.piece.now
    c.next_length-taken.result c.self.view_is c.deref-2.ensures.value length.within length.over length.reach fits
    c.are_bytes-2.ensures read in
    next_taken P old c.in_ok-event.feed c.args.piece.now c.next_length-taken.result c.in_ok-event.event read
    length.within next c.in_ok-event.ensures
