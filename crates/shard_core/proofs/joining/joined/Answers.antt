use Rattle.std.proofs.Common.{◌≡◌, ◌∙◌, sym, ap, length}
use Rattle.std.proofs.lemmas.List.{with_items_is}
use Rattle.shard_core.specs.Splits.{held}
use Rattle.shard_core.specs.Spans.{joined_to}
use Rattle.shard_core.proofs.joining.joined.Goals as goal

-- as many as before
long : (c : goal.In_ok-append_each) → length c.append_each.new.lists ≡ c.args.lists.len
long c = c.in_ok-append_each.ensures.all ∙ ap length c.deref_mut.ensures.value ∙ sym c.args.lists.ok.0

pub returns-clause-joined : goal.returns-clause-joined
returns-clause-joined c =
    let many = long c in
    ap held (with_items_is c.args.lists c.append_each.new.lists many) ∙ c.in_ok-append_each.ensures.joined
    ∙ ap (λ Z. joined_to (length Z) (held Z) (held c.args.more.now)) c.deref_mut.ensures.value

pub returns-clause-all : goal.returns-clause-all
returns-clause-all c =
    let many = long c in
    ap length (with_items_is c.args.lists c.append_each.new.lists many) ∙ many ∙ c.args.lists.ok.0
