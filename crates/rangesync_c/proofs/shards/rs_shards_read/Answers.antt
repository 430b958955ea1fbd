use Rattle.std.proofs.Common.{rules}
use Rattle.rangesync_c.proofs.ReadShards.{is_read, is_unread}
use Rattle.rangesync_c.proofs.shards.rs_shards_read.Goals as goal

pub returns-in-Ok-filled-clause-read : goal.returns-in-Ok-filled-clause-read
returns-in-Ok-filled-clause-read c = λ fine.
    let here = is_read c.args.strategy.now.value c.args.name.now c.args.text.now c.args.bits c.args.form c.in-Ok.shards
    c.in-Ok-filled.shards c.in-Ok.ensures.made c.in-Ok-filled.ensures.read in
    search (rules, fine, here)

pub returns-in-Err-filled-clause-refused : goal.returns-in-Err-filled-clause-refused
returns-in-Err-filled-clause-refused c = λ fails.
    is_unread c.args.strategy.now.value c.args.name.now c.args.text.now c.args.bits c.args.form c.in-Err-filled.code
    c.in-Ok.shards c.in-Ok.ensures.made c.in-Ok.ensures.cut c.in-Err-filled.ensures.refused
