use Rattle.std.proofs.Common.{◌∙◌, ap}
use Rattle.shard_core.specs.Shards.{entry}
use Rattle.shard_core.specs.Directories.{sum_of}
use Rattle.peer_loops.proofs.Entries.{entry_is}
use Rattle.peer_loops.proofs.desk.Desk.entry.Goals as goal

pub returns-clause-entry : goal.returns-clause-entry
returns-clause-entry g c =
    c.entry_of.ensures
    ∙ ap (λ w. entry c.args.number w.count w.fingerprint) (c.of.ensures
    ∙ ap sum_of (c.store.ensures ∙ c.in_ok-pin.ensures.items))
    ∙ entry_is c.args.number _
