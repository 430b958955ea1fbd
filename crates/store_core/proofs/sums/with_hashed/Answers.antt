use Rattle.std.proofs.Common.{◌≡◌, ◌++◌, ◌∷◌, ◌∙◌, [], take, ap, rules}
use Rattle.definitions.specs.Fingerprints.{join_lanes}
use Rattle.store_core.proofs.Running.{inserted}
use Rattle.store_core.proofs.sums.with_hashed.Goals as goal

pub returns : goal.returns
returns c A same =
    let start : c.push.new.self.items ≡ take c.args.place c.args.sums.now ++ c.join.result ∷ [] = search rules in
    let own = c.fingerprint-own.result in
    inserted A c.args.hashed.now c.args.place c.loop-sum.sum-index own c.join.result c.args.sums.now
    c.split_at.result.1.now c.push.new.self.items c.loop-sum.held.items same c.fingerprint-own.ensures
    (c.join.ensures ∙ ap (λ f. join_lanes f own) (c.before-2.ensures A same)) c.split_at.ensures.back start
    c.loop-sum-test.false c.loop-sum.invariant
