use Rattle.std.proofs.Common.{rules}
use Rattle.shard_core.proofs.Numbers.{few}
use Rattle.rangesync_c.proofs.differing.say.Goals as goal

pub write_told-requires : goal.write_told-requires
write_told-requires c =
    let most = few c.args.bits c.requires.0 in
    search (rules, most)
