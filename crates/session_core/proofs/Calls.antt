-- What calls that hear nothing make of all that a session says of the bytes so far.
--
-- A session that begins has heard nothing, and the text of its first messages is due. To make texts, or to take bytes
-- of them, moves bytes between what is due and what was taken, and keeps their sum. One push after another is a push of
-- both pieces, since what is known of a session holds whatever was pushed before; so a piece that is pushed bit by bit
-- was pushed as far as the calls came, also where memory ran out. Once the session has stopped, the rest of a piece
-- counts no more (`later` of Steps).
use Rattle.std.proofs.Common.{◌≡◌, ℕ, ◌+◌, ◌<◌, Bool, true, false, List, [], ◌++◌, length, take, drop, Result, Ok, Err}
use Rattle.std.proofs.Common.{IfOk, OnOk, flat_map, inl, inr, refl, sym, ap, ◌∙◌, subst, append_assoc, append-nil}
use Rattle.std.proofs.Common.{◌≤◌, length-append, arith}
use Rattle.std.specs.declared.alloc.AllocError.{AllocError}
use Rattle.std.proofs.lemmas.List.{take-append-drop, length-take-le}
use Rattle.std.proofs.Math.Seq.{take-add, take-length}
use Rattle.definitions.specs.Fingerprints.{Summary}
use Rattle.definitions.specs.Items.{IsBytes}
use Rattle.definitions.specs.Messages.{Message}
use Rattle.definitions.specs.Wire.{Profile, message_text, session_text}
use Rattle.definitions.specs.Taking.{nothing_taken}
use Rattle.strategy_check.specs.Checked.{Checked}
use Rattle.definitions.specs.Streams.{Before_hello}
use Rattle.definitions.specs.Ends.{End, is_live}
use Rattle.definitions.specs.Engines.{Speaker}
use Rattle.definitions.specs.Hearing.{Goes_on}
use Rattle.laws.proofs.Fields.{rest_fits}
use Rattle.ends_core.specs.EndStates.{EndState}
use Rattle.ends_core.specs.Sides.{said_to}
use Rattle.session_core.specs.Outboxes.{OutboxState, outbox_state, less}
use Rattle.session_core.specs.Written.{IsLaid}
use Rattle.session_core.specs.Sessions.{TalkState, SessionState, is_open, frame_due, due, IsBegun, Begins, beginning}
use Rattle.session_core.specs.Sessions.{all_made}
use Rattle.session_core.specs.Sessions.{opened, with_outbox, with_talk, GoesOn, Knows, Pushes, Takes}
use Rattle.session_core.specs.Laws.{Laws}
use Rattle.session_core.proofs.Steps.{later}
use Rattle.session_core.proofs.Writing.{laid-first, laid-made, laid-less}

module _ {F : Type 0} (S : Summary F) (W : Profile F) where
  -- ---- the beginning

  -- nothing came
  pub begun-nothing : IsBegun W 0 [] []
  begun-nothing = record {
    front = [];
    back = [];
    split = refl;
    after = record { standing = Before_hello; kept = [] };
    whole = (refl, refl);
    counted = omega arith;
  }

  -- nothing was pushed to an end that was made
  pub begins-opened : (a : Checked) (s : Speaker F) (h : EndState F) (o : OutboxState F) → h.end ≡ s.start →
      h.taken ≡ nothing_taken s.start → h.steps ≡ a.steps → is_live s.start.stage ≡ true →
      due W (beginning h o) ≡ session_text W s.first → h.end.sent ≡ length s.first →
      o ≡ outbox_state W.hello [] s.first → Begins S W a s (opened h o)
  begins-opened a s h o end taken steps live text sent says = record {
    knows = record {
      are_bytes = tt;
      tells = record {
        heard = heard;
        end = (end, live);
        text = text ∙ ap (λ (l : List (Message F)). session_text W l) (sym (append-nil s.first))
            ∙ sym (append-nil (session_text W (s.first ++ [])));
        sent = sent ∙ ap (λ (l : List (Message F)). length l) (sym (append-nil s.first));
        laid = subst (λ (p : OutboxState F). IsLaid W (s.first ++ []) 0 p) (sym says) (laid-first W s.first);
      };
      goes_on = record {
        events = [];
        holds = refl;
        heard = heard;
        fine = refl;
        listens = refl;
        begun = begun-nothing;
      };
    };
    goes = refl;
    listens = refl;
    peer = ap (λ (e : End F). e.peer) end;
    steps = steps;
  } where
    heard : Goes_on s.start (nothing_taken s.start) ≡ Goes_on h.end h.taken
    heard = ap (λ (e : End F). Goes_on e (nothing_taken s.start)) (sym end) ∙ ap (Goes_on h.end) (sym taken)

  -- ---- one call after another

  -- of nothing
  pub knows-same : (s : Speaker F) (c : SessionState F) (pushed taken : List ℕ) → Knows S W s c pushed taken →
      Knows S W s c (pushed ++ []) (taken ++ [])
  knows-same s c pushed taken k =
      subst (λ (l : List ℕ). Knows S W s c l (taken ++ [])) (sym (append-nil pushed))
      (subst (λ (l : List ℕ). Knows S W s c pushed l) (sym (append-nil taken)) k)

  pub knows-joined : (s : Speaker F) (c : SessionState F) (pushed read more taken said tells : List ℕ) →
      Knows S W s c ((pushed ++ read) ++ more) ((taken ++ said) ++ tells) →
      Knows S W s c (pushed ++ (read ++ more)) (taken ++ (said ++ tells))
  knows-joined s c pushed read more taken said tells k =
      subst (λ (l : List ℕ). Knows S W s c l (taken ++ (said ++ tells))) (append_assoc pushed read more)
      (subst (λ (l : List ℕ). Knows S W s c ((pushed ++ read) ++ more) l) (append_assoc taken said tells) k)

  -- ---- what is taken, and texts that are made

  pub retold : (s : Speaker F) (c : SessionState F) (o : OutboxState F) (told : Bool) (pushed taken after : List ℕ) →
      after ++ due W (with_outbox c.talk o told) ≡ taken ++ due W c.talk →
      IsLaid W (said_to S W s pushed) (length after) o → Knows S W s c pushed taken →
      Knows S W s (with_talk c (with_outbox c.talk o told)) pushed after
  retold s c o told pushed taken after same laid k = record {
    are_bytes = k.are_bytes;
    tells = record {
      heard = k.tells.heard;
      end = k.tells.end;
      text = same ∙ k.tells.text;
      sent = k.tells.sent;
      laid = laid;
    };
    goes_on = by (is_open c.talk.state) k.goes_on;
  } where
    by : (b : Bool) → GoesOn S W b s c pushed →
        GoesOn S W b s (with_talk c (with_outbox c.talk o told)) pushed
    by true g = record {
      events = g.events;
      holds = g.holds;
      heard = g.heard;
      fine = g.fine;
      listens = g.listens;
      begun = g.begun;
    }
    by false (inl over) = inl over
    by false (inr lasts) = inr lasts

  -- all that is due is made
  pub made-due : (t : TalkState F) →
      due W (with_outbox t (all_made W t) true) ≡ due W t
  made-due t = append-nil (due W t)

  -- some of the bytes that are made are taken
  pub taken-due : (t : TalkState F) (front back ends : List ℕ) → t.outbox.ready ≡ front ++ back →
      front ++ due W (with_outbox t (outbox_state back ends t.outbox.later) t.told) ≡ due W t
  taken-due t front back ends split =
      let rest = flat_map (message_text W) t.outbox.later ++ frame_due t.state t.told in
      sym (append_assoc front back rest) ∙ ap (λ (l : List ℕ). l ++ rest) (sym split)

  -- so many bytes are taken
  pub takes-some : (s : Speaker F) (c : SessionState F) (n : ℕ) (pushed taken : List ℕ) →
      n ≤ length c.talk.outbox.ready → Knows S W s c pushed taken →
      Knows S W s (with_talk c (with_outbox c.talk (less n c.talk.outbox) c.talk.told)) pushed
      (taken ++ take n c.talk.outbox.ready)
  takes-some s c n pushed taken fits k =
      let ready = c.talk.outbox.ready in
      let o = less n c.talk.outbox in
      let far : length taken + n ≡ length (taken ++ take n ready) =
      omega (arith, length-append taken (take n ready), length-take-le n ready fits) in
      retold s c o c.talk.told pushed taken (taken ++ take n ready)
      (append_assoc taken (take n ready) (due W (with_outbox c.talk o c.talk.told))
      ∙ ap (λ (l : List ℕ). taken ++ l)
      (taken-due c.talk (take n ready) (drop n ready) o.ends (sym (take-append-drop n ready))))
      (subst (λ (m : ℕ). IsLaid W (said_to S W s pushed) m o) far
      (laid-less W (said_to S W s pushed) (length taken) n c.talk.outbox fits k.tells.laid))
      k

  -- all texts are made
  pub makes-all : (s : Speaker F) (c : SessionState F) (pushed taken : List ℕ) → Knows S W s c pushed taken →
      Knows S W s (with_talk c (with_outbox c.talk (all_made W c.talk) true)) pushed (taken ++ [])
  makes-all s c pushed taken k =
      let o = all_made W c.talk in
      retold s c o true pushed taken (taken ++ [])
      (ap (λ (l : List ℕ). l ++ due W (with_outbox c.talk o true)) (append-nil taken)
      ∙ ap (λ (l : List ℕ). taken ++ l) (made-due c.talk))
      (subst (λ (l : List ℕ). IsLaid W (said_to S W s pushed) (length l) o) (sym (append-nil taken))
      (laid-made W (said_to S W s pushed) (length taken) c.talk.outbox (frame_due c.talk.state c.talk.told)
      k.tells.laid))
      k

  pub all-made : (c : SessionState F) (t : TalkState F) (result : Result (Unit {0}) AllocError) →
      OnOk result (t ≡ with_outbox c.talk (all_made W c.talk) true) →
      OnOk result (Takes S W c [] (with_talk c t))
  all-made c t (Ok x) is = λ s pushed taken k.
      subst (λ (u : TalkState F). Knows S W s (with_talk c u) pushed (taken ++ [])) (sym is)
      (makes-all s c pushed taken k)
  all-made c t (Err e) is = tt

  -- ---- one call after another

  -- so many bytes of a piece, and then more of them
  pub pushes-on : (c d e : SessionState F) (piece : List ℕ) (m n : ℕ) → Pushes S W c (take m piece) d →
      Pushes S W d (take n (drop m piece)) e → Pushes S W c (take (m + n) piece) e
  pushes-on c d e piece m n first second s pushed taken live k =
      subst (λ (l : List ℕ). Knows S W s e l taken)
      (append_assoc pushed (take m piece) (take n (drop m piece))
      ∙ ap (λ (l : List ℕ). pushed ++ l) (sym (take-add m n piece)))
      (second s (pushed ++ take m piece) taken live (first s pushed taken live k))

  pub pushes-nothing : (c : SessionState F) → Pushes S W c [] c
  pushes-nothing c s pushed taken live k = subst (λ (l : List ℕ). Knows S W s c l taken) (sym (append-nil pushed)) k

  -- where memory ran out after so many bytes
  pub pushes-so : (c d e : SessionState F) (piece : List ℕ) (m : ℕ) (result : Result ℕ AllocError) →
      IfOk result (λ n. (n ≡ m) × (0 < m)) → e ≡ d → Pushes S W c (take m piece) d →
      IfOk result (λ n. Pushes S W c (take n piece) e)
  pushes-so c d e piece m (Ok n) is same pushes =
      subst (λ (x : SessionState F). Pushes S W c (take n piece) x) (sym same)
      (subst (λ (k : ℕ). Pushes S W c (take k piece) d) (sym is.0) pushes)
  pushes-so c d e piece m (Err x) is same pushes = tt

  -- the session has stopped, so the rest of a piece counts no more
  pub push-ends : Laws S W → (s : Speaker F) (c : SessionState F) (piece : List ℕ) (n : ℕ) (pushed taken : List ℕ) →
      is_live s.start.stage ≡ true → is_open c.talk.state ≡ false → c.over ≡ false → IsBytes piece →
      Knows S W s c (pushed ++ take n piece) taken → Knows S W s c (pushed ++ take (length piece) piece) taken
  push-ends laws s c piece n pushed taken live closed listens bytes k =
      let whole = take-append-drop n piece in
      subst (λ (l : List ℕ). Knows S W s c l taken)
      (append_assoc pushed (take n piece) (drop n piece)
      ∙ ap (λ (l : List ℕ). pushed ++ l) (whole ∙ sym (take-length piece)))
      (later S W laws s c (drop n piece) (pushed ++ take n piece) taken live closed listens
      (rest_fits piece (take n piece) (drop n piece) (sym whole) bytes) k)
