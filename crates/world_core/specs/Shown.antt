-- What is shown of a session, by what is kept of it.
--     learned_by l side, bound_by S l, shown S l
use Rattle.std.specs.Prelude.{ℕ, ◌==◌, Option, option_map, unwrap_or, length}
use Rattle.definitions.specs.Fingerprints.{Summary}
use Rattle.definitions.specs.Ranks.{rank_by}
use Rattle.definitions.specs.Talks.{Knowledge, nothing}
use Rattle.definitions.specs.Worlds as worlds
use Rattle.definitions.specs.Worlds.{message_bound, opened_of}
use Rattle.ends_core.specs.EndStates.{EndState}
use Rattle.world_core.specs.Live.{kept_of, made}
use Rattle.world_core.specs.declared.session.RunSession.{RunSession}

abbrev pub learned_in : {F : Type 0} → Option (EndState F) → Knowledge
learned_in second = unwrap_or (option_map (λ e. e.learned) (option_map (λ h. h.end) second)) nothing

abbrev pub learned_by : {F : Type 0} → RunSession F → worlds.Side → Knowledge
learned_by l worlds.Initiator = (kept_of l).initiator.learned
learned_by l worlds.Responder = learned_in l.second

-- the rank of the number of an end's items
abbrev pub rank_held : {F : Type 0} → EndState F → ℕ
rank_held h = rank_by h.steps (length h.end.peer.items)

-- the greatest rank of a part that it opened as initiator
abbrev pub opened_held : {F : Type 0} → Summary F → EndState F → ℕ
opened_held S h = opened_of S h.steps h.end.peer

abbrev pub bound_by : {F : Type 0} → Summary F → RunSession F → Option ℕ
bound_by S l = option_map (λ h. message_bound (opened_held S l.first) (rank_held h)) l.second

abbrev pub shown : {F : Type 0} → Summary F → RunSession F → worlds.Report
shown S l = record {
  initiator_node = l.initiator_node;
  responder_node = l.responder_node;
  messages = made l;
  bound = bound_by S l;
  parts = l.parts;
  ended = made l == l.delivered;
  initiator_learned = learned_by l worlds.Initiator;
  responder_learned = learned_by l worlds.Responder;
}
