-- The range of the items that a command speaks of, and what it forgets.
--     range_asked command         the range that its words ask for; None where it speaks of all items
--     forgotten_asked command     which items a server forgets; a client forgets none
--     IsFloorNow rule f           at some time the floor keeps what the rule does not forget, and nothing else
use Rattle.std.specs.Prelude.{◌≡◌, ℕ, [], Option, None, option_map, Result, Ok}
use Rattle.definitions.specs.Items.{Range}
use Rattle.loading.specs.Forgetting.{IsFloorAt}
use Rattle.shard_core.specs.declared.floor.Floor.{Floor}
use Rattle.settings_core.specs.PartWords.{part_asked}
use Rattle.settings_core.specs.FloorWords.{rule_asked}
use Rattle.settings_core.specs.declared.floor_words.FloorFlaw.{FloorFlaw}
use Rattle.settings_core.specs.declared.floor_words.FloorRule.{FloorRule}
use Rattle.settings_core.specs.declared.part_words.PartFlaw.{PartFlaw}
use Rattle.settings_core.specs.declared.commands.Command.{Command}
use Rattle.settings_core.specs.declared.commands.Command.TheVariants as commands

abbrev pub range_asked : Command → Result (Option Range) PartFlaw
range_asked (commands.Sync w) = part_asked w.form (option_map (λ text. text.now) w.from)
    (option_map (λ text. text.now) w.to) (option_map (λ text. text.now) w.prefix) w.stdio
range_asked command = Ok None

abbrev pub forgotten_asked : Command → Result FloorRule FloorFlaw
forgotten_asked (commands.Serve w) = rule_asked w.form (option_map (λ text. text.now) w.not_below)
    (option_map (λ text. text.now) w.newest) (option_map (λ text. text.now) w.time_form)
forgotten_asked command = Ok (record { not_below = []; newest = None })

pub record IsFloorNow (rule : FloorRule) (f : Floor) : Type 0 where
  pub now : ℕ
  pub lower : IsFloorAt rule now f.range.lower
  pub upper : f.range.upper ≡ None
  pub time : f.time ≡ option_map (λ n. n.time) rule.newest
