use Rattle.std.proofs.Common.{◌≡◌, false, rules}
use Rattle.definitions.specs.Ends.{is_live}
use Rattle.ends_core.proofs.Parts_taken.{dead-answers}
use Rattle.ends_core.proofs.end.End.receive.Goals as goal

pub returns-then-not-is_live-clause-answer : goal.returns-then-not-is_live-clause-answer
returns-then-not-is_live-clause-answer g c =
    let dead : is_live c.args.self.now.end.stage
    ≡ false = search (rules, c.is_live.ensures.live, c.if-not-is_live.true) in
    dead-answers g.F.WireSummary.summary c.args.self.now c.args.message.now (c.is_live.ensures.dead dead)
