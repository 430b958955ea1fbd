use Rattle.hub_core.proofs.Peering.{fresh-made}
use Rattle.hub_core.proofs.peer.Peer.new.Goals as goal

pub returns : goal.returns
returns g c = record {
  way = c.take.result;
  inner = c.take.ensures.inner;
  limit = c.take.ensures.limit;
  is = fresh-made c.take.result c.args.writer c.args.serial c.args.now c.new.result c.new-2.result c.new-3.result
      c.new.ensures c.new-2.ensures c.new-3.ensures;
}
