use Rattle.std.proofs.Common.{◌≡◌, ◌-◌, ◌≤◌, take, drop}
use Rattle.http_core.specs.Upgrades.{has_word, has_word_from}
use Rattle.http_core.proofs.upgrades.has_word.Given as goal

-- what the piece and the rest have, all have
abbrev pub invariant-loop-at : goal.invariant-loop-at
invariant-loop-at l = (l.start ≤ l.at)
    × (has_word l.text l.word ≡ has_word_from l.word (take (l.at - l.start) (drop l.start l.text)) (drop l.at l.text))
