use Rattle.std.proofs.Common.{◌∙◌, rules}
use Rattle.tcp_front.proofs.Ports.{too_high}
use Rattle.tcp_front.proofs.unreached.is_too_high.Goals as goal

pub returns : goal.returns
returns c = c.is_err.ensures.value ∙ too_high c.args.digits.now c.parse.result (search rules) (search rules)
    c.parse.ensures.value.0
