use Rattle.std.proofs.Common.{rules, ◌≡◌, Err}
use Rattle.definitions.specs.Sets.{set_of}
use Rattle.shard_core.specs.Shards.{shards}
use Rattle.rangesync_c.specs.Faults.{of_split}
use Rattle.rangesync_c.proofs.NotSplit.{first_above}
use Rattle.rangesync_c.proofs.stores.dealt_stores.Goals as goal

pub returns-in_err-lists-clause-many : goal.returns-in_err-lists-clause-many
returns-in_err-lists-clause-many c =
    let is : c.from_residual.result ≡ Err (of_split c.in_err-lists.field-0.0) = search rules in
    rw is (first_above c.args.cap (shards c.args.bits (set_of c.args.items.now)) c.in_err-lists.field-0.0
    c.in_err-lists.ensures.many)
