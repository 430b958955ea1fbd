use Rattle.std.proofs.Common.{rules, ◌≡◌, refl}
use Rattle.session_table.specs.declared.outcome.Outcome.{Outcome}
use Rattle.session_table.specs.declared.outcome.Outcome.TheVariants as outcomes
use Rattle.version_lock.specs.declared.view.View.{View}
use Rattle.peer_threads.specs.Workers.{HasNotEnded, PutsInLearned, Says, says}
use Rattle.server.proofs.stdio.answer_peer.Goals as goal

-- of a session that did not end nothing is put in
puts_nothing : (gate : Says) (o : Outcome) (v : View) → HasNotEnded o → PutsInLearned gate o v v
puts_nothing gate (outcomes.Ended learned sent version) v not_ended = absurd not_ended
puts_nothing gate (outcomes.Refused code sent) v not_ended = refl
puts_nothing gate (outcomes.PeerRefused code sent) v not_ended = refl
puts_nothing gate (outcomes.Io side sent) v not_ended = refl
puts_nothing gate (outcomes.Memory sent) v not_ended = refl

pub returns-in_default : goal.returns-in_default
returns-in_default g c =
    let not_ended : HasNotEnded c.in_default.outcome = search rules in
    let nothing = puts_nothing
    (says (g.G.Gate.lets_in c.args.shared.now.gate.now) (g.G.Gate.floors c.args.shared.now.gate.now))
    c.in_default.outcome
    c.serve_one.new.seat.view not_ended in
    search (rules, nothing)
