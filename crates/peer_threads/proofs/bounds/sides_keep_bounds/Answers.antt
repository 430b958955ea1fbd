use Rattle.std.proofs.Common.{◌≤◌, ◌+◌, length, subst}
use Rattle.definitions.specs.Engines.{initiating, responding}
use Rattle.definitions.specs.Histories.{content, items_of}
use Rattle.definitions.specs.Ranks.{rank_by}
use Rattle.definitions.specs.Worlds.{opened_of}
use Rattle.strategy_check.specs.Checked.{Checked}
use Rattle.ends_core.specs.Sides.{KeepsBounds, peer_of}
use Rattle.peer_threads.proofs.bounds.sides_keep_bounds.Goals as goal

pub returns-clause-initiator : goal.returns-clause-initiator
returns-clause-initiator g c = λ A bytes are set room.
    let S = g.F.WireSummary.summary in
    subst (λ (a : Checked). length A ≤ a.table.cap →
    KeepsBounds S g.F.WireSummary.profile (initiating S (peer_of a A)) bytes
    (opened_of S a.steps (peer_of a A) + 2) a.table.limit)
    c.deref.ensures (c.sides_keep_bounds.ensures.initiator A bytes set are) room

pub returns-clause-responder : goal.returns-clause-responder
returns-clause-responder g c = λ h bytes are room.
    let S = g.F.WireSummary.summary in
    let kept = c.sides_keep_bounds.ensures.responder (content h) bytes (c.set_of_a_list.ensures.set (items_of h)) are in
    subst (λ (a : Checked). length (content h) ≤ a.table.cap →
    KeepsBounds S g.F.WireSummary.profile (responding S (peer_of a (content h))) bytes
    (rank_by a.steps (length (content h)) + 1) a.table.limit)
    c.deref.ensures kept room
