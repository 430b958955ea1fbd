use Rattle.std.proofs.Common.{rules}
use Rattle.sim_core.proofs.Numbers.{number_none}
use Rattle.sim_core.proofs.step_text.number_of.Goals as goal

pub returns-in-Err : goal.returns-in-Err
returns-in-Err c = number_none c.args.digits.now c.parse.result _ (let h = c.is_plain.ensures in
    let no = c.if-not-is_plain.false in search (rules, h, no)) c.parse.ensures.value.0 c.in-Err.is
