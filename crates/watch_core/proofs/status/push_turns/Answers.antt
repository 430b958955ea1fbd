use Rattle.std.proofs.Common.{◌∙◌, ◌++◌, ap}
use Rattle.std.specs.Prelude.{codes, flat_map}
use Rattle.std.proofs.lemmas.Result.{on_ok_weaker}
use Rattle.watch_core.specs.StatusTexts.{known_tokens, number_tokens}
use Rattle.watch_core.proofs.Joined.{joined_three}
use Rattle.watch_core.proofs.status.push_turns.Goals as goal

pub returns : goal.returns
returns c =
    let first = c.in_ok-push_numbers.ensures in
    let second = c.in_ok-push_known.ensures in
    let numbers = first.1 ∙ ap (λ ns. c.args.json.now.tokens ++ flat_map number_tokens ns) c.counted.ensures in
    let ago = second.1
    ∙ ap (λ n. c.push_numbers.new.json.tokens ++ known_tokens (codes "seconds_ago") n) c.seconds_ago.ensures in
    on_ok_weaker c.push_fault.result
    (λ d. (d.0 ∙ (second.0 ∙ first.0), joined_three _ _ _ _ _ _ _ numbers ago d.1)) c.push_fault.ensures
