use Rattle.std.proofs.Common.{rules, ◌≡◌, ℕ, [], take, length, subst}
use Rattle.std.specs.Arc.{arc_value}
use Rattle.definitions.specs.Engines.{responding}
use Rattle.ends_core.specs.Sides.{peer_of}
use Rattle.session_core.specs.Sessions.{Knows}
use Rattle.hub_core.proofs.Opened.{pushed-all}
use Rattle.hub_core.proofs.opening.begun.Goals as goal

pub returns-clause-knows : goal.returns-clause-knows
returns-clause-knows g c =
    let S = g.F.WireSummary.summary in
    let W = g.F.WireSummary.profile in
    let P = peer_of (arc_value c.args.accepted) (g.S.RangeStore.content c.args.store) in
    let session = c.in_ok-session.session in
    let came = c.args.greeting.now.came in
    let n = c.in_ok-taken.taken in
    let knows = subst (λ (k : ℕ). Knows S W (responding S P) session [] (take k W.hello)) c.said.ensures.said
    c.in_ok-session.ensures.knows in
    let all : n ≡ length came = search rules in
    pushed-all S W P session c.push.new.self c.finish_if.new.session _ came (take c.args.greeting.now.said W.hello) n
    (search rules) knows c.in_ok-session.ensures.listens c.in_ok-taken.ensures.pushes all
    c.in_ok-finish_if.ensures.knows
