use Rattle.std.proofs.Common.{◌≡◌, ◌<◌, ◌∙◌, rules, refl, subst, length}
use Rattle.std.specs.List.{AllByRecursion}
use Rattle.definitions.specs.Items.{IsItem}
use Rattle.range_tree.proofs.Fields.{as_many_ends}
use Rattle.range_tree.proofs.packed.Packed.len.Goals as goal

pub returns-clause-length : goal.returns-clause-length
returns-clause-length c =
    let own : c.len.result ≡ length c.self.inside.ends.items = search rules in
    own ∙ as_many_ends c.self.inside c.args.self.now c.self.invariant c.self.view_is c.self.inside.ends.items refl

pub returns-clause-are_items : goal.returns-clause-are_items
returns-clause-are_items c = subst (AllByRecursion IsItem) c.self.view_is c.self.invariant.are_items

pub returns-clause-few : goal.returns-clause-few
returns-clause-few c = subst (λ xs. length xs < 1024) c.self.view_is c.self.invariant.are_few
