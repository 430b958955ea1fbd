use Rattle.std.proofs.Common.{refl}
use Rattle.item_files.proofs.Pieces.{nothing_read}
use Rattle.item_files.proofs.dealing.Dealing.new.Goals as goal

pub returns-clause-dealt : goal.returns-clause-dealt
returns-clause-dealt c = nothing_read c.args.options c.new-waiting.result.items 0
    c.in_ok-lists.lists.items c.new-waiting.ensures.items refl
    (c.in_ok-lists.ensures.holds c.args.options.first c.args.options.last)
