use Rattle.std.proofs.Common.{◌≡◌, ◌∙◌, false, ap, rules}
use Rattle.definitions.specs.Messages.{Message, open_parts}
use Rattle.definitions.specs.Placing.{place_after}
use Rattle.definitions.specs.Replies.{Peer, opening}
use Rattle.place_core.specs.Placements.{Placement}
use Rattle.ends_core.proofs.session_end.begin.Goals as goal

pub returns : goal.returns
returns g c =
    let S = g.F.WireSummary.summary in
    let P : Peer = record { table = c.args.strategy.now; items = g.S.RangeStore.content c.args.store.now } in
    let exact = c.openings_are_exact.ensures S P (g.met.S.RangeStore.rises c.args.store.now) in
    let is : c.parts.result.now ≡ opening S P = search rules in
    let kept : open_parts c.parts.result.now ≡ opening S P = ap open_parts is ∙ exact.all_open in (
      c.in_ok-place.ensures
          ∙ (λ i. record { first = false; cut = S.may_cut; own = kept i; now = place_after (kept i) }),
      c.in_ok-first.ensures,
    )
