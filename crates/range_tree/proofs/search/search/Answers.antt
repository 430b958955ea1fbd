use Rattle.std.proofs.Common.{◌≡◌, ◌+◌, ◌-◌, ◌/◌, ◌<◌, Bool, true, false, length, get_or, [], rules, arith}
use Rattle.std.proofs.lemmas.List.{get_or_default}
use Rattle.definitions.specs.Items.{Item, comes_before}
use Rattle.range_tree.proofs.Searches.{passes_up_to, fails_from, halved}
use Rattle.range_tree.proofs.search.search.Goals.{then-is_before, else-is_before}
use Rattle.range_tree.proofs.search.search.Goals as goal

pub overflow_add-steps : goal.overflow_add-steps
overflow_add-steps g c =
    let steps = c.loop-low.invariant.steps in
    let high = c.loop-low.invariant.high in
    search rules

pub loop-low-preserved : goal.loop-low-preserved
loop-low-preserved g c =
    let low = c.loop-low.low in
    let high = c.loop-low.high in
    let middle = low + (high - low) / 2 in
    let xs = g.L.HasItems.leads c.args.list.now in
    let x = get_or xs middle [] in
    let held = c.loop-low.invariant in
    let before : Item → Bool = λ z. comes_before z c.args.item.now in
    let open_yet : low < high = omega arith in
    let below : middle < high = omega arith in
    let within : middle < length xs = let top = held.high in omega arith in
    let read : x ≡ get_or xs middle x = get_or_default xs middle [] x within in
    elim c.if-is_before.branch [
      | then-is_before w ↦
          let test : before x ≡ true = search rules in
          rw (w.low-is, w.high-is) (record {
            steps = let kept = held.steps in omega arith;
            few = λ small.
                halved c.loop-low.steps (high - low) (high - (middle + 1)) (held.few small) (omega arith) (omega arith);
            low = omega arith;
            high = held.high;
            before = passes_up_to before xs c.requires middle x within read test;
            after = held.after;
          })
      | else-is_before w ↦
          let test : before x ≡ false = search rules in
          rw (w.low-is, w.high-is) (record {
            steps = let kept = held.steps in omega arith;
            few = λ small.
                halved c.loop-low.steps (high - low) (middle - low) (held.few small) (omega arith) (omega arith);
            low = omega arith;
            high = omega arith;
            before = held.before;
            after = fails_from before xs c.requires middle x within read test;
          })
    ]
