-- A filter keeps the order.
use Rattle.std.proofs.Common.{◌≡◌, List, length, subst, rules}
use Rattle.std.proofs.lemmas.Fn.{filter_same}
use Rattle.definitions.specs.Items.{Item}
use Rattle.shard_core.specs.Floors.{left_by, LacksAQuarter}
use Rattle.loading.proofs.rewriting.left_if_fewer.Goals as goal

pub returns-then-not-lacks_a_quarter-clause-left : goal.returns-then-not-lacks_a_quarter-clause-left
returns-then-not-lacks_a_quarter-clause-left c =
    let kept : c.retain.new.self.items ≡ left_by c.args.floor.now c.args.items.items
    = filter_same _ _ _ (λ x b f' k. search rules) _ _ c.retain.ensures.filtered in
    let few : LacksAQuarter (length c.args.items.items) (length c.retain.new.self.items) → ⊥ = search rules in
    subst (λ (l : List Item). LacksAQuarter (length c.args.items.items) (length l) → ⊥) kept few

pub returns-clause-kept : goal.returns-clause-kept
returns-clause-kept c = filter_same _ _ _ (λ x b f' k. search rules) _ _ c.retain.ensures.filtered
