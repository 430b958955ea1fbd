use Rattle.std.proofs.Common.{◌≡◌, ◌++◌, take}
use Rattle.std.specs.Prelude.{flat_map}
use Rattle.watch_core.specs.StatusTexts.{partner_tokens}
use Rattle.watch_core.proofs.status.push_partners.Given as goal

abbrev pub invariant-loop-partner : goal.invariant-loop-partner
invariant-loop-partner l = record {
  before : l.json.before ≡ l.fn.json.before;
  tokens : l.json.tokens ≡ l.fn.json.tokens ++ flat_map partner_tokens (take l.partner-index l.partners);
}
