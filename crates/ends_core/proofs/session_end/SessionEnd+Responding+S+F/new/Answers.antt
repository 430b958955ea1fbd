use Rattle.std.proofs.Common.{refl, subst}
use Rattle.std.specs.Arc.{arc_value}
use Rattle.definitions.specs.Replies.{Peer}
use Rattle.definitions.specs.Ends.{responder}
use Rattle.strategy_check.specs.Checked.{IsChecked}
use Rattle.ends_core.proofs.Standing.{stands-first}
use Rattle.ends_core.proofs.session_end.SessionEnd+Responding+S+F.new.Goals as goal

pub invariant_of-result : goal.invariant_of-result
invariant_of-result g c =
    let P : Peer = record { table = (arc_value c.args.accepted).table; items = g.S.RangeStore.content c.args.store } in
    stands-first g.F.WireSummary.summary g.F.WireSummary.profile (responder g.F.WireSummary.summary) c.responding.result
    (arc_value c.args.accepted).steps P
    c.responding.ensures refl (subst IsChecked c.deref.ensures c.cap.ensures.checked) c.requires
    (g.met.S.RangeStore.rises c.args.store)
