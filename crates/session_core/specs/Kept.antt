-- How many bytes of memory are counted for a session: what came of a frame that is not whole, the reply to a message
-- that has not ended and what it teaches, what is said and not taken, what waits for the peer's answer, and what was
-- learned.
--     kept_by c
use Rattle.std.specs.Prelude.{ℕ, length}
use Rattle.definitions.specs.Ends.{own_of}
use Rattle.ends_core.specs.Sizes.{plus, message_size, messages_size, known_size, taken_size}
use Rattle.session_core.specs.Outboxes.{OutboxState}
use Rattle.session_core.specs.Sessions.{TalkState, SessionState}

-- texts that are made, and messages whose text is not made
abbrev pub kept_to_say : {F : Type 0} → OutboxState F → ℕ
kept_to_say o = plus (length o.ready) (messages_size o.later)

-- what the parts of the peer's message that has not ended came to; the open parts of our message, which it answers;
-- what is to be said; and what was learned
abbrev pub kept_of : {F : Type 0} → TalkState F → ℕ
kept_of t = plus
    (plus (plus (taken_size t.held.taken) (message_size (own_of t.held.end.stage))) (kept_to_say t.outbox))
    (known_size t.held.end.learned)

-- and the bytes after the last whole frame
abbrev pub kept_by : {F : Type 0} → SessionState F → ℕ
kept_by c = plus c.begun (kept_of c.talk)
