use Rattle.std.proofs.Common.{refl, rules, ◌≡◌, ◌∙◌, [], Err, sym, append-nil, subst}
use Rattle.peer_threads.specs.Inboxes.{InboxState, HasRead, Held}
use Rattle.peer_threads.specs.Stops.{of_decoding}
use Rattle.peer_threads.proofs.InboxSteps.{held, stopped}
use Rattle.peer_threads.proofs.inbox.Inbox.next_held.Goals as goal

pub returns-in_err-taken-clause-held : goal.returns-in_err-taken-clause-held
returns-in_err-taken-clause-held g c =
    let inside = c.self.inside in
    let old : InboxState = record { feed = inside.feed; waiting = inside.piece; reads = inside.reads } in
    let new : InboxState = record { feed = c.next.new.self; waiting = inside.piece; reads = inside.reads } in
    let e = c.in_err-taken.field-0.0 in
    let is : c.from_residual.result ≡ Err (of_decoding e) = search rules in
    let rest = c.rest.result.now in
    let parts = sym c.rest.ensures ∙ sym (append-nil rest) in
    let did = c.in_err-taken.ensures in
    λ bytes es fits has over. subst (Held g.F.WireSummary.profile over new bytes es) (sym is)
    (stopped g.F.WireSummary.profile g.met.F.WireSummary.real old c.next.new.self rest [] e parts did.next did.fault
    did.joined bytes es fits
    (subst (λ (b : InboxState). HasRead g.F.WireSummary.profile b bytes es) (sym c.self.view_is) has) over)

pub returns-clause-held : goal.returns-clause-held
returns-clause-held g c =
    let inside = c.self.inside in
    let old : InboxState = record { feed = inside.feed; waiting = inside.piece; reads = inside.reads } in
    let new : InboxState = record { feed = c.next.new.self; waiting = c.skip.new.self; reads = inside.reads } in
    let did = c.in_ok-taken.ensures in
    let taken = c.in_ok-taken.taken in
    let event = c.in_ok-taken.event in
    rw (← c.self.view_is)
    (held g.F.WireSummary.profile g.met.F.WireSummary.real old new c.rest.result.now c.rest.ensures taken event did.next
    did.joined c.skip.ensures refl)
