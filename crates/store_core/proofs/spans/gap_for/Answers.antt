use Rattle.std.proofs.Common.{◌≡◌, ◌∙◌, sym, false, rules}
use Rattle.std.specs.Option.{option_copied}
use Rattle.definitions.proofs.Additions.{has_got, put_there, is_item}
use Rattle.store_core.proofs.spans.gap_for.Goals as goal

pub returns-in_default-clause-found : goal.returns-in_default-clause-found
returns-in_default-clause-found c =
    let other : is_item (option_copied c.get.result) c.args.item.now ≡ false = rw c.in-Some.is (search rules) in
    sym (has_got _ _ _ c.requires (rw c.from.ensures at c.place-place.ensures.parted) _ c.get.ensures.lookup ∙ other)

pub returns-in_default-clause-gap : goal.returns-in_default-clause-gap
returns-in_default-clause-gap c =
    let other : is_item (option_copied c.get.result) c.args.item.now ≡ false = rw c.in-Some.is (search rules) in
    put_there _ _ _ c.requires (rw c.from.ensures at c.place-place.ensures.parted) _ c.get.ensures.lookup other

pub returns-in_default-2-clause-found : goal.returns-in_default-2-clause-found
returns-in_default-2-clause-found c =
    let other : is_item (option_copied c.get.result) c.args.item.now ≡ false = rw c.in_default.is (search rules) in
    sym (has_got _ _ _ c.requires (rw c.from.ensures at c.place-place.ensures.parted) _ c.get.ensures.lookup ∙ other)

pub returns-in_default-2-clause-gap : goal.returns-in_default-2-clause-gap
returns-in_default-2-clause-gap c =
    let other : is_item (option_copied c.get.result) c.args.item.now ≡ false = rw c.in_default.is (search rules) in
    put_there _ _ _ c.requires (rw c.from.ensures at c.place-place.ensures.parted) _ c.get.ensures.lookup other
