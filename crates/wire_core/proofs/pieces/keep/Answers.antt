use Rattle.std.proofs.Common.{rules, ◌≡◌, sym, subst}
use Rattle.definitions.specs.Streams.{feed, stays}
use Rattle.wire_core.specs.Standings.{standing_of}
use Rattle.wire_core.proofs.Waiting.{still_waits, wants_more, no_fault}
use Rattle.wire_core.proofs.pieces.keep.Goals as goal

pub returns-clause-kept : goal.returns-clause-kept
returns-clause-kept g c =
    let goes_on = c.requires.counts in
    let wants = wants_more c.args.kept.now.items c.deref.result.now c.args.piece.now c.wanted.result
    c.deref.ensures.value c.wanted.ensures.short c.wanted.ensures.frame (search rules) in
    let waits =
    still_waits g.F.WireSummary.profile (standing_of c.args.standing) c.args.kept.now.items c.args.piece.now goes_on
    c.requires.read wants in
    let same = c.in_ok-append.ensures.kept in
    λ told. (
      same,
      subst (λ bytes. feed g.F.WireSummary.profile (standing_of c.args.standing) bytes
          ≡ stays (standing_of c.args.standing) bytes) (sym same) waits,
      no_fault (standing_of c.args.standing) goes_on,
    )
