use Rattle.std.proofs.Common.{◌≡◌, Err, sym, rules}
use Rattle.ends_core.proofs.Parts_taken.{among-stops}
use Rattle.ends_core.proofs.end.End.take_all.Goals as goal

pub returns-in_err-take-clause-refused : goal.returns-in_err-take-clause-refused
returns-in_err-take-clause-refused g c =
    let f = c.in_err-take.field-0.0 in
    let is : c.from_residual.result ≡ Err f = search rules in
    rw is
    (among-stops g.F.WireSummary.summary c.args.self.now c.loop-part.self c.take.new.self c.args.parts.now
    c.loop-part.part-index c.part-item.result f
    c.loop-part-test.true (sym c.part-item.is) c.loop-part.invariant c.requires.live
    c.in_err-take.ensures.fault c.in_err-take.ensures.after)
