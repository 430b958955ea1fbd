use Rattle.std.proofs.Common.{◌≡◌, ◌<◌, ◌≤◌, ◌+◌, ◌-◌, length, rules, arith}
use Rattle.std.proofs.lemmas.Result.{err_from_is_err_and}
use Rattle.definitions.specs.CompactReading.{gives, item_from}
use Rattle.compact_core.specs.Readings.{Fails}
use Rattle.compact_core.specs.declared.stop.ReadError.TheVariants as errors
use Rattle.compact_core.proofs.Entries.{entries_begin, entries_go_on, entries_stop, one_more}
use Rattle.compact_core.proofs.items.take_entries.Goals as goal

pub each-init : goal.each-init
each-init c =
    let some : 0 < length c.args.bytes.now.now = search rules in
    let none : length c.new-items.result.items ≡ 0 = search rules in
    record {
      so_far = entries_begin c.args.width c.args.range.now.upper c.args.room c.args.range.now.lower c.lower.result.now
          c.args.bytes.now.now c.new-items.result.items (search rules) (search rules) some;
      fuel = omega arith;
    }

pub returns-in_err-item : goal.returns-in_err-item
returns-in_err-item c =
    let p = err_from_is_err_and c.from_residual.result c.from_residual.ensures.1 in
    let some : 0 < length c.each.bytes.now = search rules in
    let read : Fails (errors.Stop c.in_err-item.field-0.0) (item_from c.args.width c.args.range.now.upper c.each.left
    c.each.first c.each.before c.each.bytes.now) = search rules in
    rw (p.1, p.2)
    (entries_stop c.args.width c.args.range.now.upper c.each.left c.each.first c.each.before c.each.bytes.now
    c.each.items.items (length c.args.bytes.now.now) (errors.Stop c.in_err-item.field-0.0) _ some
    c.each.invariant.fuel read c.each.invariant.so_far)

pub each-preserved : goal.each-preserved
each-preserved c =
    let some : 0 < length c.each.bytes.now = search rules in
    let read : item_from c.args.width c.args.range.now.upper c.each.left c.each.first c.each.before c.each.bytes.now
    ≡ gives c.in_ok-item.item c.take_item.new.bytes.now = search rules in
    let more = one_more c.each.items.items c.push.new.self.items c.in_ok-item.item c.in_ok-push.ensures.items in
    let less : length c.take_item.new.bytes.now < length c.each.bytes.now = search rules in
    let fuel = c.each.invariant.fuel in
    record {
      so_far = entries_go_on c.args.width c.args.range.now.upper c.each.left c.each.first c.each.before c.each.bytes.now
          c.take_item.new.bytes.now c.in_ok-item.item c.each.items.items c.push.new.self.items _
          (length c.args.bytes.now.now) c.from-before.result _ some fuel read c.in_ok-push.ensures.items (search rules)
          (search rules) c.each.invariant.so_far;
      fuel = omega arith;
    }
