use Rattle.std.specs.Arc.{arc_value}
use Rattle.peer_threads.proofs.Dialing.{speaks-over}
use Rattle.peer_threads.proofs.dial.dial_pinned.Goals as goal

pub returns-clause-bytes : goal.returns-clause-bytes
returns-clause-bytes g c =
    speaks-over g.F.WireSummary.summary g.F.WireSummary.profile (arc_value c.args.shared.now.accepted.now) _
    c.args.pin.items c.args.pin.version _ _ _ c.initiate.result c.of-host.ensures c.initiate.ensures.bytes
    (λ bytes are known.
    c.sides_keep_bounds.ensures.initiator c.args.pin.items bytes are c.requires.set c.requires.fits)
