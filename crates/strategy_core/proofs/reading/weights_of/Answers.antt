use Rattle.std.proofs.Common.{ap, sym, ◌∙◌, arith, length, refl, Ok}
use Rattle.std.proofs.lemmas.Result.{err_from_is_err_and}
use Rattle.strategy_core.proofs.Readings.{weights_start, weights_go_on, weights_fail, weights_end, read_more, read_few}
use Rattle.strategy_core.proofs.reading.weights_of.Goals as goal

pub loop-value-init : goal.loop-value-init
loop-value-init c = rw c.new-weights.ensures.items record {
  so_far = weights_start c.args.array.now.items;
  read = record { are = tt; count_is = refl; total_is = refl };
}

pub overflow_add-total : goal.overflow_add-total
overflow_add-total c =
    let few =
    read_few c.loop-value.weights.items c.loop-value.value-index c.loop-value.total c.loop-value.invariant.read in
    let now = c.in_ok-weight.ensures.span in
    omega (arith, ap length c.deref-value-items.ensures.value)

pub returns-in_err-weight : goal.returns-in_err-weight
returns-in_err-weight c =
    let p = err_from_is_err_and c.from_residual.result c.from_residual.ensures.1 in
    rw (p.1, p.2) (weights_fail c.args.array.now.items c.deref-value-items.result.now c.loop-value.value-index
    c.value-item.result c.loop-value.weights.items _ c.deref-value-items.ensures.value c.loop-value-test.true
    c.value-item.is c.in_err-weight.ensures.number c.loop-value.invariant.so_far)

pub loop-value-preserved : goal.loop-value-preserved
loop-value-preserved c =
    rw c.in_ok-push.ensures.items record {
      so_far = weights_go_on c.args.array.now.items c.deref-value-items.result.now c.loop-value.value-index
          c.value-item.result c.loop-value.weights.items c.in_ok-weight.weight c.deref-value-items.ensures.value
          c.loop-value-test.true c.value-item.is c.in_ok-weight.ensures.number c.loop-value.invariant.so_far;
      read = read_more c.loop-value.weights.items c.loop-value.value-index c.loop-value.total c.in_ok-weight.weight
          c.in_ok-weight.ensures.span.0 c.in_ok-weight.ensures.span.1 c.loop-value.invariant.read;
    }

pub new-requires : goal.new-requires
new-requires c =
    let past = c.loop-value-test.false in
    let read = c.loop-value.invariant.read in
    let size = ap length c.deref-value-items.ensures.value in
    record {
      weights_are = (omega (arith, read.count_is), omega (arith, read.count_is), read.are);
      total_is = read.total_is;
    }

pub returns : goal.returns
returns c =
    weights_end c.args.array.now.items c.deref-value-items.result.now c.loop-value.value-index
    c.loop-value.weights.items c.deref-value-items.ensures.value c.loop-value-test.false c.loop-value.invariant.so_far
    ∙ ap Ok (sym c.new.ensures)
