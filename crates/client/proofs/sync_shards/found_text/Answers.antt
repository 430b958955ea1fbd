use Rattle.std.proofs.Common.{◌∙◌}
use Rattle.std.proofs.lemmas.Result.{IfOk-weaker}
use Rattle.printing_core.specs.ShardTexts.{merged_text}
use Rattle.client.proofs.sync_shards.found_text.Goals as goal

pub returns-clause-adds_up : goal.returns-clause-adds_up
returns-clause-adds_up c = IfOk-weaker c.merged_text.result _ _
    (λ text is. λ b A B low setA setB knows no_clash covers.
    let sums = c.in_ok-merged.ensures.adds_up b A B low setA setB knows no_clash covers in
    let ours = c.deref.ensures.value ∙ sums.0 in
    let theirs = c.deref-2.ensures.value ∙ sums.1 in
    is ∙ (λ i. merged_text c.args.listing c.args.counts (ours i) (theirs i)))
    c.merged_text.ensures
