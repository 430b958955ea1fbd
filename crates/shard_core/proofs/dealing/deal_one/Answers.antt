use Rattle.std.proofs.Common.{rules}
use Rattle.shard_core.proofs.Dealt.{deal_at}
use Rattle.shard_core.proofs.dealing.deal_one.Goals as goal

pub returns-clause-dealt : goal.returns-clause-dealt
returns-clause-dealt c =
    let dealt = deal_at c.args.lists.now c.args.number c.index-lists-number.result c.push.new.self c.args.item
    c.requires c.in_ok-push.ensures.items in
    search (rules, dealt)
