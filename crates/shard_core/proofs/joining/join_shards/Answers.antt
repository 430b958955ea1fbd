use Rattle.std.proofs.Common.{arith, ◌∙◌}
use Rattle.shard_core.proofs.Joins.{joined_sets, joined_kept, joined_many, spans_same, spans_few}
use Rattle.shard_core.proofs.joining.join_shards.Goals as goal

pub joined-requires : goal.joined-requires
joined-requires c =
    let (bits, end, low, rises, within, own, others) = c.requires.spans in
    spans_same bits c.args.first end c.args.cap c.args.lists.items c.args.more.now own others

pub into_sets-requires : goal.into_sets-requires
into_sets-requires c =
    let (bits, end, low, rises, within, own, others) = c.requires.spans in
    let most = spans_few bits c.args.first end c.args.cap c.args.lists.items low rises within own in
    let many = c.in_ok-joined.ensures.all in
    omega (arith, most, many)

pub returns-in-Ok-clause-joined : goal.returns-in-Ok-clause-joined
returns-in-Ok-clause-joined c = λ b last A B ours theirs.
    c.in-Ok.ensures.sets ∙ joined_sets b c.args.first last A B c.args.lists.items c.args.more.now
    c.in_ok-joined.field-0.items c.in_ok-joined.ensures.joined ours theirs

pub returns-in-Ok-clause-kept : goal.returns-in-Ok-clause-kept
returns-in-Ok-clause-kept c = λ b last ours theirs.
    joined_kept b c.args.first last c.args.cap c.args.lists.items c.args.more.now c.in_ok-joined.field-0.items
    c.in-Ok.sets.items c.in_ok-joined.ensures.joined c.in-Ok.ensures.sets c.in-Ok.ensures.room ours theirs

pub returns-in-Err-clause-many : goal.returns-in-Err-clause-many
returns-in-Err-clause-many c = λ b last A B ours theirs.
    let (bits, end, low, rises, within, own, others) = c.requires.spans in
    let few = spans_few bits c.args.first end c.args.cap c.args.lists.items low rises within own in
    joined_many b c.args.first last c.args.cap A B c.args.lists.items c.args.more.now c.in_ok-joined.field-0.items
    c.in-Err.fault c.counted_from.result c.in_ok-joined.ensures.joined ours theirs few c.in-Err.ensures.full
    c.counted_from.ensures
