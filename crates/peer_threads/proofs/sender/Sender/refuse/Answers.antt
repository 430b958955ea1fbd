use Rattle.peer_threads.proofs.Endings.{wrote-either}
use Rattle.peer_threads.specs.Senders.{refusal_text}
use Rattle.peer_threads.proofs.sender.Sender.refuse.Goals as goal

pub returns : goal.returns
returns g c = wrote-either c.write_refusal.result _ _ _
    (refusal_text g.F.WireSummary.profile c.args.self c.args.code) c.write_refusal.ensures.whole
    c.write_refusal.ensures.front
    c.write_refusal.ensures.failed
