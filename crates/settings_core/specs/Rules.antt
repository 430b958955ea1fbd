-- What `clap` reads of an argument, as the program names it.
--     rule a      the rule of the argument
use Rattle.clap.specs.Words.{Rule}
use Rattle.settings_core.specs.Program.{placed, flag, valued, number, defaulting}
use Rattle.settings_core.specs.declared.arguments.Argument.{Argument}
use Rattle.settings_core.specs.declared.arguments.Argument.TheVariants as arguments

abbrev pub rule : Argument → Rule
rule (arguments.Placed id must help) = placed id.now must
rule (arguments.Flag name help) = flag name.now
rule (arguments.Valued name value help) = valued name.now
rule (arguments.ValuedOr name value default help) = defaulting (valued name.now) default.now
rule (arguments.Number name value least most help) = number name.now least most
rule (arguments.NumberOr name value least most default help) = defaulting (number name.now least most) default.now
