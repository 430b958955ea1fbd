use Rattle.std.proofs.Common.{[], ◌≡◌, ◌∙◌, sym, ◌<◌, length, get_or, rules}
use Rattle.ends_core.proofs.Marked.{none_marked, pushed}
use Rattle.ends_core.proofs.learning.marked_of.Goals as goal

pub loop-index-init : goal.loop-index-init
loop-index-init c = c.new-found.ensures ∙ sym (none_marked c.args.marks.now)

pub loop-index-preserved : goal.loop-index-preserved
loop-index-preserved c =
    let xs = c.args.listed.now in
    let i = c.loop-index.index in
    let x = c.index-listed-index.result in
    let low : i < length xs = search rules in
    let here : get_or xs i x ≡ x = search rules in
    pushed c.args.marks.now xs i x c.unwrap_or.result [] _ _ low here
    (search rules) c.loop-index.invariant c.in_ok-push_where.ensures
