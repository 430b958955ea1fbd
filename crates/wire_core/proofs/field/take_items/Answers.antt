use Rattle.std.specs.Option.{option_copied}
use Rattle.std.proofs.lemmas.Result.{err_from_is_err_and}
use Rattle.wire_core.specs.declared.fault.DecodeError.TheVariants as errors
use Rattle.wire_core.proofs.Loops.{items_go_on, items_end}
use Rattle.wire_core.proofs.field.take_items.Goals as goal

pub returns-in_err-text : goal.returns-in_err-text
returns-in_err-text c =
    let p = err_from_is_err_and c.from_residual-in_err-text.result c.from_residual-in_err-text.ensures.1 in
    rw (p.1, p.2) (items_end c.args.range.now (errors.Fault c.in_err-text.field-0.0) c.each.items.items c.args.count
    c.each.counter (option_copied c.each.before) c.each.bytes.now _ c.each-test.true
    c.in_err-text.ensures.read c.each.invariant)

pub each-preserved : goal.each-preserved
each-preserved c =
    rw (c.in_ok-push.ensures.items, c.of.ensures)
    (items_go_on c.args.range.now c.each.items.items c.args.count c.each.counter
    (option_copied c.each.before) c.each.bytes.now c.in_ok-text.text.now c.take_item.new.bytes.now _ c.each-test.true
    c.in_ok-text.ensures.read c.each.invariant)
