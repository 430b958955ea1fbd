use Rattle.std.proofs.Common.{rules, ◌+◌, ◌≤◌, ◌^◌, arith}
use Rattle.settings_core.specs.FloorWords.{max_newest}
use Rattle.settings_core.proofs.ShardDigits.{no_number}
use Rattle.settings_core.proofs.floor_words.number_in.Goals as goal

pub returns-in_err-number : goal.returns-in_err-number
returns-in_err-number c =
    let few : max_newest + 1 ≤ 2 ^ 32 = omega arith in
    let none = no_number 32 (max_newest + 1) c.args.text.now c.parse.result few (search rules) (search rules)
    c.parse.ensures.value.0 (search rules) in
    search (rules, none)
