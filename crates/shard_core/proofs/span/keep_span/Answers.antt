use Rattle.std.proofs.Common.{ap, subst, sym, ◌+◌, ◌∙◌}
use Rattle.std.proofs.lemmas.Result.{IfOk-weaker}
use Rattle.shard_core.specs.Splits.{held, HasRoom}
use Rattle.shard_core.proofs.Spanned.{part_held, part_shards, part_has_room}
use Rattle.shard_core.proofs.span.keep_span.Goals as goal

pub returns-clause-span : goal.returns-clause-span
returns-clause-span c = IfOk-weaker c.split_off.result _ _
    (λ v is. ap held is ∙ part_held c.args.lists.items c.truncate.new.self.items c.args.first (c.args.last + 1)
    c.truncate.ensures.items) c.split_off.ensures.tail

pub returns-clause-shards : goal.returns-clause-shards
returns-clause-shards c = λ b A within all. IfOk-weaker c.split_off.result _ _
    (λ v is. part_shards b c.args.first c.args.last A (held c.args.lists.items) (held v.items) c.requires.0 within all
    (ap held is ∙ part_held c.args.lists.items c.truncate.new.self.items c.args.first (c.args.last + 1)
    c.truncate.ensures.items)) c.split_off.ensures.tail

pub returns-clause-room : goal.returns-clause-room
returns-clause-room c = λ cap room. IfOk-weaker c.split_off.result _ _
    (λ v is. subst (λ Z. HasRoom cap Z)
    (sym (ap held is ∙ part_held c.args.lists.items c.truncate.new.self.items c.args.first (c.args.last + 1)
    c.truncate.ensures.items))
    (part_has_room cap c.args.first c.args.last (held c.args.lists.items) room)) c.split_off.ensures.tail
