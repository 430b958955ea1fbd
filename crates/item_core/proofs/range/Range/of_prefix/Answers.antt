use Rattle.std.proofs.Common.{rules}
use Rattle.item_core.proofs.Prefixes.{rises}
use Rattle.item_core.proofs.range.Range.of_prefix.Goals as goal

pub unreachable-requires : goal.unreachable-requires
unreachable-requires c =
    let risen = rises c.args.prefix.now in
    search (rules, risen)
