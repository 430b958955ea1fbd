-- A filter keeps the order.
use Rattle.std.proofs.Common.{rules, ◌≡◌, ◌<◌, List, length, sym, subst}
use Rattle.std.proofs.lemmas.Fn.{filter_same}
use Rattle.std.proofs.lemmas.List.Kept.{IsStrictlySortedBy-filter}
use Rattle.definitions.specs.Items.{Item, item_cmp}
use Rattle.definitions.specs.Sets.{IsSet}
use Rattle.shard_core.specs.Floors.{keeps}
use Rattle.loading.proofs.loading.kept_of.Goals as goal

pub returns-then-len-cap-clause-many : goal.returns-then-len-cap-clause-many
returns-then-len-cap-clause-many c =
    let above : c.args.cap < length c.retain.new.self.items = search rules in
    subst (λ (l : List Item). c.args.cap < length l)
    (filter_same _ _ _ (λ x b f' k. search rules) _ _ c.retain.ensures.filtered) above

pub returns-clause-held : goal.returns-clause-held
returns-clause-held c = filter_same _ _ _ (λ x b f' k. search rules) _ _ c.retain.ensures.filtered

pub returns-clause-rises : goal.returns-clause-rises
returns-clause-rises c =
    subst IsSet (sym (filter_same _ _ _ (λ x b f' k. search rules) _ _ c.retain.ensures.filtered))
    (IsStrictlySortedBy-filter item_cmp (keeps c.args.kept.now) c.args.items.items c.requires)
