use Rattle.std.proofs.Common.{◌≡◌, List, ℕ, subst, map, take, Result, Err}
use Rattle.httparse.specs.Spans.{header_bytes, span_bytes}
use Rattle.websocket.specs.declared.handshake.failure.HandshakeError.{HandshakeError}
use Rattle.websocket.specs.Handshake.{Answers, requested_key}
use Rattle.http_core.specs.Upgrades.{HasNoKey}
use Rattle.http_core.proofs.upgrades.accepted.Goals as goal

no_key : (key r : Result (List ℕ) HandshakeError) (e : HandshakeError) → r ≡ Err e → Answers r key → HasNoKey key
no_key key r e is answers = (e, subst (λ r. Answers r key) is answers)

pub returns-in-Err-clause-none : goal.returns-in-Err-clause-none
returns-in-Err-clause-none c =
    no_key
    (requested_key (span_bytes c.args.came.now c.args.head.now.method) c.args.head.now.version
    (map (header_bytes c.args.came.now) (take c.args.head.now.headers c.args.spans.now)))
    _ _ c.in-Err.is c.check_request.ensures
