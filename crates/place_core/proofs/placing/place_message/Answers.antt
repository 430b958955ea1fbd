use Rattle.std.proofs.Common.{◌≡◌, rules}
use Rattle.definitions.specs.Placing.{Placed, place_fault}
use Rattle.place_core.specs.PlaceFaults.{fault_in}
use Rattle.place_core.proofs.Refusals.{none_is_ok}
use Rattle.place_core.proofs.placing.place_message.Goals as goal

pub returns-clause-placed : goal.returns-clause-placed
returns-clause-placed g c apart =
    let sent = c.args.sent.now in
    let message = c.args.message.now in
    let rise = c.messages_have_ranges.ensures g.F.WireSummary.profile message c.parts-received.ensures.message in
    let starts = c.start-cursor.ensures sent in
    let fault : fault_in c.finish.result ≡ place_fault sent message = search (rules, starts) in
    none_is_ok c.finish.result (place_fault sent message) (Placed sent message) fault
    (c.placing_is_exact.ensures sent message apart rise)
