use Rattle.std.proofs.Common.{map, take}
use Rattle.clap.specs.Words.{App}
use Rattle.settings_core.specs.Program.{IsCommand, with_rules}
use Rattle.settings_core.specs.Rules.{rule}
use Rattle.settings_core.proofs.arguments.with_arguments.Given as goal

-- the command has the arguments so far
abbrev pub invariant-loop-argument : goal.invariant-loop-argument
invariant-loop-argument l = (before : App) → IsCommand before l.fn.command
    → IsCommand (with_rules before (map rule (take l.argument-index l.arguments))) l.command
