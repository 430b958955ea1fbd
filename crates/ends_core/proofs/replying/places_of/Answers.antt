use Rattle.std.proofs.Common.{◌≡◌, ◌<◌, ◌≤◌, ◌++◌, ◌∷◌, [], ◌∙◌, length, arith, rules}
use Rattle.definitions.specs.Strategies.{shares}
use Rattle.ends_core.proofs.RunningSums.{cuts_more, cuts_all}
use Rattle.ends_core.proofs.replying.places_of.Goals as goal

pub loop-before-preserved : goal.loop-before-preserved
loop-before-preserved c =
    let sizes = shares c.args.strategy.now c.args.n in
    let j = c.loop-before.before in
    let low : j < length sizes = omega (arith, c.loop-before-test.true, c.share_count-before-end.ensures) in
    let pushed : c.push.new.self.items ≡ c.loop-before.places.items ++ c.cut.result ∷ [] = search rules in
    rw (pushed, c.loop-before.invariant, c.cut.ensures) (cuts_more sizes j c.loop-before.auto.before low)

pub returns : goal.returns
returns c =
    let sizes = shares c.args.strategy.now c.args.n in
    let all : length sizes ≤ c.loop-before.before =
    omega (arith, c.loop-before-test.false, c.share_count-before-end.ensures) in
    c.loop-before.invariant ∙ cuts_all sizes c.loop-before.before all
