use Rattle.std.proofs.Common.{rules, ◌≡◌, ◌∙◌, ap, sym}
use Rattle.definitions.specs.Messages.{Message, open_parts}
use Rattle.definitions.specs.Ends.{Replies, own_of}
use Rattle.ends_core.specs.EndStates.{EndState}
use Rattle.ends_core.specs.Turns.{after_end}
use Rattle.ends_core.specs.Sizes.{message_size}
use Rattle.session_core.proofs.Waiting.{own-after}
use Rattle.session_core.proofs.outbox.Outbox.answer.Goals as goal

pub returns-in-Reply-clause-waits : goal.returns-in-Reply-clause-waits
returns-in-Reply-clause-waits g c =
    let after : c.end.new.self ≡ after_end c.args.end.now (Replies c.in-Reply.reply) = search rules in
    c.open_size-waits.ensures ∙ ap (λ (M : Message g.row.F.Denot). message_size (open_parts M)) c.parts.ensures.parts
    ∙ sym (own-after c.in-Reply.reply)
    ∙ ap (λ (h : EndState g.row.F.Denot). message_size (own_of h.end.stage)) (sym after)
