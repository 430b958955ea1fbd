use Rattle.std.proofs.Common.{subst}
use Rattle.shard_core.specs.Selectors.{ReadsOnly}
use Rattle.rangesync_c.proofs.sharded.Shards.selecting.Goals as goal

pub returns-clause-only : goal.returns-clause-only
returns-clause-only c =
    let own = subst (λ n. ReadsOnly n c.self.inside.bits c.args.bytes.now c.read_selector.result) c.deref.ensures.value
    c.read_selector.ensures.only in
    subst (λ s. ReadsOnly s.name s.bits c.args.bytes.now c.read_selector.result) c.self.view_is own
