use Rattle.std.proofs.Common.{◌∙◌, sym}
use Rattle.ends_core.proofs.replying.span_in.Goals as goal

pub returns-clause-items : goal.returns-clause-items
returns-clause-items g c =
    let A = g.S.RangeStore.content c.args.store.now in
    c.fitted.ensures.same A (sym c.len.ensures) ∙ c.span_of.ensures.items
