use Rattle.settings_core.proofs.Adding.{with_none, with_more, with_all}
use Rattle.settings_core.proofs.arguments.with_arguments.Goals as goal

pub loop-argument-init : goal.loop-argument-init
loop-argument-init c = λ before is. with_none before c.args.command is

pub loop-argument-preserved : goal.loop-argument-preserved
loop-argument-preserved c = λ before is. with_more before c.args.arguments.now c.loop-argument.argument-index _
    c.loop-argument.command c.arg_of.result c.in_ok-command.command c.loop-argument-test.true
    (c.loop-argument.invariant before is) c.arg_of.ensures c.in_ok-command.ensures

pub returns : goal.returns
returns c = λ before is. with_all before c.args.arguments.now c.loop-argument.argument-index c.loop-argument.command
    c.loop-argument-test.false (c.loop-argument.invariant before is)
