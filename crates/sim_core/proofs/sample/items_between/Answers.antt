use Rattle.std.proofs.Common.{◌≡◌, ◌≤◌, ◌-◌, ◌+◌, ◌∙◌, ◌++◌, ◌∷◌, [], rules, ap, arith, sym}
use Rattle.sim_core.specs.Samples.{items_from}
use Rattle.sim_core.proofs.Scattered.{items-more, items-none}
use Rattle.sim_core.proofs.sample.items_between.Goals as goal

pub loop-number-init : goal.loop-number-init
loop-number-init c = record {
  so_far = c.new-items.ensures.items ∙ items-none c.args.size c.args.first;
  order = omega arith;
}

pub loop-number-preserved : goal.loop-number-preserved
loop-number-preserved c =
    let pushed : c.push.new.self.items ≡ c.loop-number.items.items ++ c.item_of.result ∷ [] = search rules in
    record {
      so_far = items-more c.args.size c.args.first c.loop-number.number c.loop-number.items.items c.push.new.self.items
          c.item_of.result c.loop-number.invariant.order c.loop-number.invariant.so_far pushed c.item_of.ensures;
      order = omega (arith, c.loop-number.invariant.order);
    }

pub returns : goal.returns
returns c =
    let end : c.loop-number.number ≡ c.args.end = omega (
      arith,
      c.loop-number-test.false,
      c.loop-number.auto.number-end,
      c.requires.order,
    ) in
    c.loop-number.invariant.so_far ∙ ap (λ k. items_from c.args.size c.args.first (k - c.args.first)) end
