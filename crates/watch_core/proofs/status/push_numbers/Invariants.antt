use Rattle.std.proofs.Common.{◌≡◌, ◌++◌, take}
use Rattle.std.specs.Prelude.{flat_map, map}
use Rattle.watch_core.specs.StatusTexts.{named, number_tokens}
use Rattle.watch_core.proofs.status.push_numbers.Given as goal

abbrev pub invariant-loop-number : goal.invariant-loop-number
invariant-loop-number l = record {
  before : l.json.before ≡ l.fn.json.before;
  tokens : l.json.tokens ≡ l.fn.json.tokens ++ flat_map number_tokens (map named (take l.number-index l.numbers));
}
