use Rattle.std.proofs.Common.{rules}
use Rattle.version_log.proofs.Rising.{rests, history_at_rest}
use Rattle.version_log.proofs.log.Log.at_rest.Goals as goal

pub invariant_of-result : goal.invariant_of-result
invariant_of-result g c =
    rests c.args.cap c.args.next_writer c.new.result.items (g.S.RangeStore.content c.args.store) c.new.ensures.items
    (g.met.S.RangeStore.rises c.args.store) c.requires.cap c.requires.next c.requires.fits

pub returns : goal.returns
returns g c =
    let history = history_at_rest c.new.result.items (g.S.RangeStore.content c.args.store) c.new.ensures.items
    (g.met.S.RangeStore.rises c.args.store) in
    search (rules, history)
