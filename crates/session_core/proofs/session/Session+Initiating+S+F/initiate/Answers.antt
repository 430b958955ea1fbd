use Rattle.std.proofs.Common.{rules, refl, subst, sym, ap, ◌≡◌, ◌∙◌}
use Rattle.std.specs.Arc.{arc_value}
use Rattle.definitions.specs.Engines.{Speaker, initiating}
use Rattle.definitions.specs.Ends.{own_of}
use Rattle.definitions.specs.Messages.{open_parts}
use Rattle.definitions.specs.Replies.{Peer, opening, opening_ranges}
use Rattle.laws.proofs.Openings.{sums_open}
use Rattle.ends_core.specs.Sizes.{message_size}
use Rattle.ends_core.specs.Sides.{peer_of}
use Rattle.session_core.specs.Sessions.{SessionState, Begins}
use Rattle.session_core.proofs.Calls.{begins-opened}
use Rattle.session_core.proofs.session.Session+Initiating+S+F.initiate.Goals as goal

pub returns-clause-begins : goal.returns-clause-begins
returns-clause-begins g c =
    let a = arc_value c.args.accepted in
    let s : Speaker g.row.F.Denot =
    initiating g.F.WireSummary.summary (peer_of (arc_value c.args.accepted) (g.S.RangeStore.content c.args.store)) in
    subst (λ (d : SessionState g.row.F.Denot). Begins g.F.WireSummary.summary g.F.WireSummary.profile a s d)
    (sym c.of-2.ensures)
    (begins-opened g.F.WireSummary.summary g.F.WireSummary.profile a s _ _ (search rules) (search rules) (search rules)
    refl (search rules) (search rules) (search rules))

-- all that a session begins with is open
pub of-requires-2 : goal.of-requires-2
of-requires-2 g c =
    let S = g.F.WireSummary.summary in
    let P : Peer = peer_of (arc_value c.args.accepted) (g.S.RangeStore.content c.args.store) in
    let said : c.parts.result.now ≡ opening S P = search rules in
    let size : c.open_size-waits.result ≡ message_size (open_parts c.parts.result.now) = search rules in
    let own : own_of c.in_ok-end.end.end.stage ≡ opening S P = ap (λ h. own_of h.end.stage) c.in_ok-end.ensures.end in
    size ∙ ap message_size (ap open_parts said ∙ sums_open S P.items (opening_ranges S P) ∙ sym own)
