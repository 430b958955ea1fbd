use Rattle.std.proofs.Common.{◌≡◌, ◌∙◌, ap, sym, length, map}
use Rattle.std.proofs.lemmas.List.{with_items_is}
use Rattle.definitions.specs.Sets.{set_of}
use Rattle.shard_core.specs.Splits.{held}
use Rattle.shard_core.proofs.Cut.{sets_of_shards}
use Rattle.shard_core.proofs.Spanned.{each_is_set, set_again}
use Rattle.shard_core.proofs.numbering.rising_lists.Goals as goal

pub returns-clause-sets : goal.returns-clause-sets
returns-clause-sets g c =
    let long : length c.each_rises.new.lists ≡ c.args.lists.len =
    c.each_rises.ensures.all ∙ ap length c.deref_mut.ensures.value ∙ sym c.args.lists.ok.0 in
    let sets : held c.each_rises.new.lists ≡ map set_of (held c.deref_mut.result.now) =
    each_is_set c.deref_mut.result.now c.each_rises.new.lists c.each_rises.ensures.all c.each_rises.ensures.sets in
    ap held (with_items_is c.args.lists c.each_rises.new.lists long) ∙ sets
    ∙ ap (λ Z. map set_of (held Z)) c.deref_mut.ensures.value

pub returns-clause-holds : goal.returns-clause-holds
returns-clause-holds g c = λ b first last xs (dealt, lists, same). (
  set_of dealt,
  returns-clause-sets g c ∙ ap (λ Z. map set_of Z) lists ∙ sets_of_shards b dealt,
  set_again dealt ∙ same,
)
