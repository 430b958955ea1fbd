use Rattle.std.proofs.Common.{◌≡◌, false, Err, ap, ◌∙◌, refl, rules}
use Rattle.definitions.specs.Ends.{is_over}
use Rattle.peer_threads.proofs.Hearings.{heard-goes}
use Rattle.peer_threads.proofs.Serving.{taken-more, stops-among}
use Rattle.peer_threads.proofs.engines.take_all.Goals as goal

pub loop-part-init : goal.loop-part-init
loop-part-init g c = record {
  heard = heard-goes g.F.WireSummary.summary g.F.WireSummary.profile c.args.party.now c.requires;
  end = refl;
  most = refl;
}

pub returns-in_err-take-clause-stopped : goal.returns-in_err-take-clause-stopped
returns-in_err-take-clause-stopped g c =
    let stop = c.in_err-take.field-0.0 in
    let is : c.from_residual.result ≡ Err stop = search rules in
    let live : is_over c.loop-part.party.end.stage ≡ false =
    ap (λ e. is_over e.stage) c.loop-part.invariant.end ∙ c.requires in
    rw is
    (stops-among g.F.WireSummary.summary g.F.WireSummary.profile c.args.party.now c.loop-part.party c.args.parts.now
    c.loop-part.part-index c.part-item.result stop c.loop-part-test.true c.part-item.is live
    c.loop-part.invariant.heard c.in_err-take.ensures.stopped)

pub loop-part-preserved : goal.loop-part-preserved
loop-part-preserved g c =
    let live : is_over c.loop-part.party.end.stage ≡ false =
    ap (λ e. is_over e.stage) c.loop-part.invariant.end ∙ c.requires in
    record {
      heard = taken-more g.F.WireSummary.summary g.F.WireSummary.profile c.args.party.now c.loop-part.party
          c.take.new.party c.args.parts.now c.loop-part.part-index c.part-item.result c.loop-part-test.true
          c.part-item.is live
          c.loop-part.invariant.heard c.in_ok-take.ensures.heard;
      end = c.in_ok-take.ensures.end ∙ c.loop-part.invariant.end;
      most = c.in_ok-take.ensures.most ∙ c.loop-part.invariant.most;
    }
