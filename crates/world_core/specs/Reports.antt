-- What is shown of a session, as the definitions have it.
use Rattle.std.specs.Prelude.{unwrap_or}
use Rattle.std.specs.Option.{option_copied}
use Rattle.definitions.specs.Talks.{Knowledge, nothing}
use Rattle.definitions.specs.Worlds as worlds
use Rattle.world_core.specs.declared.report.Lists.{Lists}
use Rattle.world_core.specs.declared.report.Report.{Report}

-- a side that has not begun has learned nothing
abbrev pub knowledge_of : Lists → Knowledge
knowledge_of k = unwrap_or (option_copied k.learned) nothing

abbrev pub report_of : Report → worlds.Report
report_of r = record {
  initiator_node = r.initiator_node;
  responder_node = r.responder_node;
  messages = r.messages;
  bound = r.bound;
  parts = r.parts;
  ended = r.ended;
  initiator_learned = knowledge_of r.initiator_learned;
  responder_learned = knowledge_of r.responder_learned;
}
