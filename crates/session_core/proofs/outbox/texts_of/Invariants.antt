use Rattle.std.proofs.Common.{◌≡◌, take}
use Rattle.std.specs.Prelude.{flat_map}
use Rattle.definitions.specs.Wire.{message_text}
use Rattle.session_core.specs.Outboxes.{ends_from}
use Rattle.session_core.proofs.outbox.texts_of.Given as goal

abbrev pub invariant-loop-message : goal.invariant-loop-message
invariant-loop-message g l = record {
  written : l.texts.items ≡ flat_map (message_text g.F.WireSummary.profile) (take l.message-index l.messages);
  ended : l.ends.items ≡ ends_from g.F.WireSummary.profile l.start (take l.message-index l.messages);
}
