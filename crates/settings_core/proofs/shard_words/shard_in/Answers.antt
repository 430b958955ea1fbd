use Rattle.std.proofs.Common.{rules}
use Rattle.settings_core.proofs.ShardDigits.{too_great}
use Rattle.settings_core.proofs.shard_words.shard_in.Goals as goal

pub returns-in_err-number : goal.returns-in_err-number
returns-in_err-number c =
    let none = too_great c.args.bits c.args.text.now c.parse.result (search rules) (search rules) (search rules)
    c.parse.ensures.value.0 (search rules) in
    search (rules, none)
