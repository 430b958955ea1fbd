use Rattle.std.proofs.Common.{rules}
use Rattle.clap.specs.Words.{new_app}
use Rattle.settings_core.specs.Program.{IsCommand}
use Rattle.settings_core.proofs.arguments.command_of.Goals as goal

pub returns : goal.returns
returns c =
    let start : IsCommand (new_app c.args.name.now) c.about.result = search rules in
    c.with_arguments.ensures (new_app c.args.name.now) start
