use Rattle.std.proofs.Common.{◌≡◌, rules}
use Rattle.definitions.specs.Placing.{IsOpening, opening_fault}
use Rattle.place_core.specs.PlaceFaults.{fault_in}
use Rattle.place_core.proofs.Refusals.{none_is_ok}
use Rattle.place_core.proofs.placing.place_opening.Goals as goal

pub returns-clause-opening : goal.returns-clause-opening
returns-clause-opening g c =
    let message = c.args.message.now in
    let cut = g.F.WireSummary.summary.may_cut in
    let fault : fault_in c.finish.result ≡ opening_fault cut message = search rules in
    none_is_ok c.finish.result (opening_fault cut message) (IsOpening cut message) fault
    (c.opening_is_exact.ensures cut message)
