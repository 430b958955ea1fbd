use Rattle.std.proofs.Common.{◌≡◌, ◌∙◌, sym, ap, arith, subst, [], ◌∷◌, ◌++◌, length, set, get_or}
use Rattle.std.proofs.lemmas.List.{with_items_is}
use Rattle.shard_core.specs.Splits.{held}
use Rattle.shard_core.proofs.Dealt.{dealt_step, dealt_all, dealt_none}
use Rattle.shard_core.proofs.dealing.deal.Goals as goal

pub loop-item-init : goal.loop-item-init
loop-item-init c = record {
  dealt = λ before is. is ∙ dealt_none c.args.bits before;
  all = c.requires.all;
}

pub loop-item-preserved : goal.loop-item-preserved
loop-item-preserved c =
    let now : c.deref_mut.result.now ≡ c.loop-item.lists.items = c.deref_mut.ensures.value in
    let long : length c.deal_one.new.lists ≡ c.loop-item.lists.len =
    c.in_ok-deal_one.ensures.all ∙ ap length now ∙ sym c.loop-item.lists.ok.0 in
    let dealt : held c.deal_one.new.lists ≡ set (held c.loop-item.lists.items) c.shard_of.result
    (get_or (held c.loop-item.lists.items) c.shard_of.result [] ++ c.item-item.result ∷ []) =
    subst (λ Z. held c.deal_one.new.lists
    ≡ set (held Z) c.shard_of.result (get_or (held Z) c.shard_of.result [] ++ c.item-item.result ∷ [])) now
    c.in_ok-deal_one.ensures.dealt in
    record {
      dealt = λ before is. ap held (with_items_is c.loop-item.lists c.deal_one.new.lists long)
          ∙ dealt_step c.args.bits before c.args.items.now c.loop-item.item-index c.item-item.result
          c.shard_of.result (held c.loop-item.lists.items) (held c.deal_one.new.lists) c.requires.low (omega arith)
          c.item-item.is c.shard_of.ensures.number (c.loop-item.invariant.dealt before is) dealt;
      all = ap length (with_items_is c.loop-item.lists c.deal_one.new.lists long) ∙ c.in_ok-deal_one.ensures.all
          ∙ ap length now ∙ c.loop-item.invariant.all;
    }

pub returns-clause-dealt : goal.returns-clause-dealt
returns-clause-dealt c = λ before is.
    c.loop-item.invariant.dealt before is
    ∙ dealt_all c.args.bits before c.args.items.now c.loop-item.item-index c.loop-item-test.false
