use Rattle.std.proofs.Common.{◌≡◌, ◌∙◌, ◌==◌, ap, sym, subst, arith}
use Rattle.std.specs.Prelude.{IsTrue}
use Rattle.std.specs.List.{list_any}
use Rattle.shard_core.specs.declared.choice.Asked.{Asked}
use Rattle.shard_core.specs.Choices.{told, chosen, HasOne}
use Rattle.shard_core.proofs.Holders.{chosen_more, chosen_all, one_more, all_asked}
use Rattle.shard_core.proofs.choice.asked_of.Goals as goal

pub loop-shard-preserved : goal.loop-shard-preserved
loop-shard-preserved c = record {
  so_far = chosen_more (told c.args.directories.now) c.args.last c.loop-shard.shard c.loop-shard.asked.items
      c.ask_more.new.asked.items (chosen (told c.args.directories.now) c.args.first c.args.last) (omega arith)
      c.loop-shard.invariant.so_far c.in_ok-ask_more.ensures.asked;
  one = one_more (told c.args.directories.now) c.args.first c.loop-shard.shard c.loop-shard.invariant.one
      c.in_ok-ask_more.ensures.one;
  within = c.in_ok-ask_more.ensures.within c.loop-shard.invariant.within;
  low = omega arith;
}

pub returns-clause-one : goal.returns-clause-one
returns-clause-one c = λ t low high. c.loop-shard.invariant.one t low (omega arith)

pub returns-clause-covers : goal.returns-clause-covers
returns-clause-covers c = λ us only s low high named.
    let asked : c.loop-shard.asked.items ≡ chosen (told c.args.directories.now) c.args.first c.args.last =
    chosen_all (told c.args.directories.now) c.args.last c.loop-shard.shard c.loop-shard.asked.items
    (chosen (told c.args.directories.now) c.args.first c.args.last) (omega arith) c.loop-shard.invariant.so_far in
    let one : HasOne (told c.args.directories.now) s = c.loop-shard.invariant.one s low (omega arith) in
    subst (λ l. IsTrue (list_any (λ (a : Asked). s == a.shard) l))
    (sym (asked ∙ ap (λ ds. chosen ds c.args.first c.args.last) only))
    (all_asked us c.args.first c.args.last s low high (subst (λ ds. HasOne ds s) only one) named)
