use Rattle.std.proofs.Common.{rules, arith}
use Rattle.compact_core.proofs.Texts.{entries_more, entries_all}
use Rattle.compact_core.proofs.spelling.push_entries.Goals as goal

pub each-preserved : goal.each-preserved
each-preserved c =
    entries_more c.args.width c.each.before.now c.bytes-before.result.now c.each.out.items c.push_entry.new.out.items _
    c.args.items.now c.each.item-index c.item-item.result (omega arith) (search rules) (search rules) (search rules)
    c.each.invariant
