use Rattle.std.proofs.Common.{rules, ◌≡◌, ◌+◌, ◌∙◌, [], ◌∷◌, ◌++◌, length, take, List, ℕ, ap, sym}
use Rattle.std.specs.Prelude.{flat_map}
use Rattle.definitions.specs.Wire.{message_text}
use Rattle.session_core.proofs.Writing.{ends-more, texts-more, text_size}
use Rattle.session_core.proofs.outbox.texts_of.Goals as goal

pub loop-message-preserved : goal.loop-message-preserved
loop-message-preserved g c =
    let W = g.F.WireSummary.profile in
    let all = c.args.messages.now in
    let i = c.loop-message.message-index in
    let M = c.message-item.result in
    let low = c.loop-message-test.true in
    let here = sym c.message-item.is in
    let made = c.loop-message.invariant in
    let text : c.push_message.new.out.items ≡ c.loop-message.texts.items ++ message_text W M = search rules in
    let texts : c.push_message.new.out.items ≡ flat_map (message_text W) (take (i + 1) all) =
    text ∙ ap (λ (l : List ℕ). l ++ message_text W M) made.written ∙ sym (texts-more W all i M low here) in
    let long : c.len.result ≡ length c.push_message.new.out.items = search rules in
    let end : c.in_ok-end_of.field-0 ≡ c.args.start + c.len.result = search rules in
    let place : c.in_ok-end_of.field-0 ≡ c.args.start + text_size W (take (i + 1) all) =
    end ∙ ap (λ (n : ℕ). c.args.start + n) (long ∙ ap (λ (l : List ℕ). length l) texts) in
    let pushed : c.push.new.self.items ≡ c.loop-message.ends.items ++ c.in_ok-end_of.field-0 ∷ [] = search rules in
    record {
      written = texts;
      ended = pushed ∙ (λ k. made.ended k ++ place k ∷ []) ∙ sym (ends-more W c.args.start all i M low here);
    }
