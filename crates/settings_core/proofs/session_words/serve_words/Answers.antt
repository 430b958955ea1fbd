use Rattle.settings_core.specs.Program.{served}
use Rattle.settings_core.proofs.session_words.serve_words.Goals as goal

pub returns : goal.returns
returns c = c.with_arguments.ensures served c.in_ok-command.ensures
