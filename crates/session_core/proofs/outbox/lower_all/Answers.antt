use Rattle.std.proofs.Common.{◌<◌, ◌-◌, ◌∙◌, get_or, length, sym, arith}
use Rattle.std.proofs.lemmas.List.{get_or_default}
use Rattle.std.proofs.lemmas.List.Edits.{map_over_more}
use Rattle.session_core.proofs.outbox.lower_all.Goals as goal

pub loop-end-preserved : goal.loop-end-preserved
loop-end-preserved c =
    let ends = c.loop-end.ends in
    let i = c.loop-end.end-index in
    let low : i < length ends = omega (arith, c.loop-end-test.true, c.loop-end.auto.ends) in
    rw c.saturating_sub.ensures
    (map_over_more (λ x. x - c.args.count) c.args.ends.now ends i (get_or ends i 0) c.loop-end-test.true
    c.loop-end.invariant (get_or_default ends i 0 (get_or ends i 0) low))
