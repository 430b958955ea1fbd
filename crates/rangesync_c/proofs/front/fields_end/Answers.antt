use Rattle.std.proofs.Common.{◌∙◌, sym}
use Rattle.shard_core.proofs.Fields.{ends}
use Rattle.rangesync_c.proofs.front.fields_end.Goals as goal

pub returns-then-not-has_length-clause-end : goal.returns-then-not-has_length-clause-end
returns-then-not-has_length-clause-end c =
    sym (ends c.loop-more.place c.loop-more.more-index c.args.fields.now c.args.bytes.now c.loop-more-test.true
    (sym c.has_length.ensures ∙ c.if-not-has_length.true)) ∙ c.loop-more.invariant.0
