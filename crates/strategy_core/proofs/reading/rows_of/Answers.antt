use Rattle.std.proofs.Common.{◌≡◌, length, rules}
use Rattle.strategy_core.proofs.Readings.{rows_start, rows_go_on, rows_fail, rows_end}
use Rattle.strategy_core.proofs.reading.rows_of.Goals as goal

pub loop-entry-init : goal.loop-entry-init
loop-entry-init c = rw c.new-rows.ensures.items (rows_start c.args.cap c.args.entries.now.items)

pub returns-in-Err : goal.returns-in-Err
returns-in-Err c =
    let count : c.len.result ≡ length c.loop-entry.rows.items = search rules in
    rw (c.in_row.ensures, count) (rows_fail c.args.cap c.args.entries.now.items
    c.deref-entry-items.result.now c.loop-entry.entry-index c.entry-item.result c.loop-entry.before
    c.loop-entry.rows.items c.in-Err.error c.deref-entry-items.ensures.value c.loop-entry-test.true c.entry-item.is
    (rw c.in-Err.is at c.row_of.ensures) c.loop-entry.invariant)

pub loop-entry-preserved : goal.loop-entry-preserved
loop-entry-preserved c =
    rw (c.in_ok-push.ensures.items, c.upto.ensures)
    (rows_go_on c.args.cap c.args.entries.now.items c.deref-entry-items.result.now c.loop-entry.entry-index
    c.entry-item.result c.loop-entry.before c.loop-entry.rows.items c.in-Ok.row c.deref-entry-items.ensures.value
    c.loop-entry-test.true c.entry-item.is (rw c.in-Ok.is at c.row_of.ensures) c.loop-entry.invariant)

pub returns : goal.returns
returns c = rows_end c.args.cap c.args.entries.now.items c.deref-entry-items.result.now c.loop-entry.entry-index
    c.loop-entry.before c.loop-entry.rows.items c.deref-entry-items.ensures.value c.loop-entry-test.false
    c.loop-entry.invariant
