-- What was written where a connection breaks: so many messages whole, and nothing after the beginning of one more.
--
-- The text of k + 1 messages is the text of k and then that of one more, where there is one. A message ends with the
-- end frame, so its text is not empty. Hence the text of k messages is a beginning of the longer one, and less than it;
-- so is the same text with a proper beginning of the next message after it. Where a part of the hello was written, or
-- nothing, no message is whole, and that is less than the hello and a message.
use Rattle.std.proofs.Common.{◌≡◌, ℕ, ◌+◌, ◌<◌, ◌≤◌, inl, inr, List, [], ◌∷◌, ◌++◌, length, flat_map, take, drop}
use Rattle.std.proofs.Common.{Option, refl, sym, ap, ◌∙◌, subst, append_assoc, append-nil, take-append-drop, arith}
use Rattle.std.proofs.lemmas.List.{length-append, length-take, length-drop}
use Rattle.std.proofs.lemmas.Grind.{flat_map-append}
use Rattle.std.proofs.Math.Seq.{take-add, take-append_seam, take-append-add}
use Rattle.std.proofs.KnownBytes.{Appends-trans}
use Rattle.definitions.specs.Accounts.{Seen, BrokeOff}
use Rattle.definitions.specs.Engines.{Speaker, text}
use Rattle.definitions.specs.Fingerprints.{Summary}
use Rattle.definitions.specs.Messages.{Message}
use Rattle.definitions.specs.Wire.{Profile, part_text, end_text, message_text, session_text}
use Rattle.peer_threads.specs.Outcomes.{Traffic, call_of}
use Rattle.ends_core.specs.Sides.{called_by}
use Rattle.peer_threads.specs.Senders.{SenderState, HasWritten, BreaksIn}
use Rattle.peer_threads.specs.Underway.{WroteUpTo, BreaksOff}

module _ {F : Type 0} (S : Summary F) (W : Profile F) where
  abbrev Messages : Type 0
  Messages = List (Message F)

  abbrev hello : List ℕ
  hello = W.hello

  -- the text of one message, and of some with no hello
  abbrev spelling : Message F → List ℕ
  spelling M = message_text W M

  abbrev spelled : Messages → List ℕ
  spelled Ms = flat_map (message_text W) Ms

  -- a hello and some messages, or the first k of them
  abbrev said : Messages → List ℕ
  said Ms = session_text W Ms

  abbrev first : ℕ → Messages → List ℕ
  first k Ms = text W k Ms

  -- exactly k messages are whole
  abbrev Broke : Speaker F → ℕ → List ℕ → List ℕ → Type 0
  Broke s k bytes written = (version : ℕ) (r w : Seen) →
      BrokeOff S W (call_of s version bytes written r w) k

  -- ---- texts

  joined : (Ms Ns : Messages) → said (Ms ++ Ns) ≡ said Ms ++ spelled Ns
  joined Ms Ns =
      ap (λ (l : List ℕ). hello ++ l) (flat_map-append (message_text W) Ms Ns)
      ∙ sym (append_assoc hello (spelled Ms) (spelled Ns))

  -- one more
  first-next : (k : ℕ) (Ms : Messages) → first (k + 1) Ms ≡ first k Ms ++ spelled (take 1 (drop k Ms))
  first-next k Ms = ap said (take-add k 1 Ms) ∙ joined (take k Ms) (take 1 (drop k Ms))

  spelling-some : (M : Message F) → 0 < length (spelling M)
  spelling-some M = omega (arith, length-append (flat_map (part_text W) M) end_text)

  spelled-some : (Ms : Messages) → 0 < length Ms → 0 < length (spelled (take 1 Ms))
  spelled-some [] some = absurd (omega arith)
  spelled-some (M ∷ Ms) some = omega (arith, spelling-some M, length-append (spelling M) (spelled []))

  -- the first messages, and the one after them
  record Split (Ms front : Messages) (M : Message F) (k : ℕ) : Type 0 where
    before : first k Ms ≡ said front
    next : first (k + 1) Ms ≡ said front ++ spelling M
    few : k < length Ms

  split-at : (Ms front more : Messages) (M : Message F) (k : ℕ) → Ms ≡ front ++ M ∷ more → k ≡ length front →
      Split Ms front M k
  split-at Ms front more M k is count = record {
    before = (λ i. first (count i) (is i)) ∙ ap said (take-append_seam front (M ∷ more));
    next = (λ i. first (count i + 1) (is i))
        ∙ ap said (take-append-add front (M ∷ more) 1)
        ∙ joined front (M ∷ [])
        ∙ ap (λ (l : List ℕ). said front ++ l) (append-nil (spelling M));
    few = omega (arith, ap (λ (l : Messages). length l) is, length-append front (M ∷ more));
  }

  -- ---- where it breaks

  -- after whole messages
  broke-whole : (s : Speaker F) (k : ℕ) (bytes : List ℕ) → k ≤ length (called_by S W s bytes) →
      Broke s k bytes (first k (called_by S W s bytes))
  broke-whole s k bytes count version r w = record {
    count = count;
    front = (spelled (take 1 (drop k Ms)), first-next k Ms);
    no_less = λ some. ([], sym (append-nil (first k Ms)));
    no_more = less;
  } where
    Ms : Messages
    Ms = called_by S W s bytes

    less : k < length Ms → length (first k Ms) < length (first (k + 1) Ms)
    less more =
        let rest : 0 < length (drop k Ms) = omega (arith, length-drop k Ms) in
        let next = ap (λ (l : List ℕ). length l) (first-next k Ms) in
        omega (arith, spelled-some (drop k Ms) rest, length-append (first k Ms) (spelled (take 1 (drop k Ms))))

  -- in a message
  broke-message : (s : Speaker F) (k n : ℕ) (bytes : List ℕ) (front more : Messages) (M : Message F) →
      called_by S W s bytes ≡ front ++ M ∷ more → k ≡ length front → n < length (spelling M) →
      Broke s k bytes (said front ++ take n (spelling M))
  broke-message s k n bytes front more M is count part version r w = record {
    count = omega (arith, at.few);
    front = (drop n new, whole);
    no_less = λ some. (take n new, ap (λ (l : List ℕ). l ++ take n new) (sym at.before));
    no_more = λ fewer. let next = ap (λ (l : List ℕ). length l) at.next in
        omega (arith, length-append old (take n new), length-take n new, length-append old new);
  } where
    old : List ℕ
    old = said front

    new : List ℕ
    new = spelling M

    at : Split (called_by S W s bytes) front M k
    at = split-at (called_by S W s bytes) front more M k is count

    whole : first (k + 1) (called_by S W s bytes) ≡ (old ++ take n new) ++ drop n new
    whole = at.next
        ∙ ap (λ (l : List ℕ). old ++ l) (sym (take-append-drop n new))
        ∙ sym (append_assoc old (take n new) (drop n new))

  -- before the hello
  broke-nothing : (s : Speaker F) (bytes : List ℕ) → Broke s 0 bytes []
  broke-nothing s bytes version r w = record {
    count = omega arith;
    front = (hello ++ one, refl);
    no_less = λ some. absurd (omega arith);
    no_more = λ more. omega (arith, spelled-some (called_by S W s bytes) more, length-append hello one);
  } where
    one : List ℕ
    one = spelled (take 1 (called_by S W s bytes))

  -- in the hello
  broke-hello : (s : Speaker F) (n : ℕ) (bytes : List ℕ) → n < length hello → Broke s 0 bytes (take n hello)
  broke-hello s n bytes part version r w = record {
    count = omega arith;
    front = (drop n hello ++ one, whole);
    no_less = λ some. absurd (omega arith);
    no_more = λ more. omega (arith, length-take n hello, length-append hello one);
  } where
    one : List ℕ
    one = spelled (take 1 (called_by S W s bytes))

    whole : hello ++ one ≡ take n hello ++ (drop n hello ++ one)
    whole = ap (λ (l : List ℕ). l ++ one) (sym (take-append-drop n hello))
        ∙ append_assoc (take n hello) (drop n hello) one

  -- ---- what was written of a session

  -- whole messages, or nothing
  pub breaks-after : (s : Speaker F) (o : SenderState) (t : Traffic) (bytes : List ℕ) →
      WroteUpTo S W s o t bytes → BreaksOff S W s o.sent t bytes
  breaks-after s o t bytes (inl wrote) = record {
    all = first o.sent (called_by S W s bytes);
    written = wrote.written;
    broke = broke-whole s o.sent bytes wrote.count;
  }
  breaks-after s o t bytes (inr none) = record {
    all = [];
    written = none.written;
    broke = subst (λ k. Broke s k bytes []) (sym none.none) (broke-nothing s bytes);
  }

  -- a part of a message, after those that were said
  pub breaks-in-message : (s : Speaker F) (o p : SenderState) (t : Traffic) (holds : Option (List ℕ)) (bytes : List ℕ)
      (front more : Messages) (M : Message F) →
      called_by S W s bytes ≡ front ++ M ∷ more → HasWritten W o t.held holds front → p ≡ o →
      BreaksIn holds t.holds (message_text W M) → BreaksOff S W s p.sent t bytes
  breaks-in-message s o p t holds bytes front more M is w same (n, part, begins) = record {
    all = said front ++ take n (spelling M);
    written = Appends-trans t.held holds t.holds (said front) (take n (spelling M)) w.written begins;
    broke = broke-message s p.sent n bytes front more M is (ap (λ (x : SenderState). x.sent) same ∙ w.count) part;
  }

  -- a part of the hello
  pub breaks-in-hello : (s : Speaker F) (o : SenderState) (t : Traffic) (bytes : List ℕ) → o.sent ≡ 0 →
      BreaksIn t.held t.holds W.hello → BreaksOff S W s o.sent t bytes
  breaks-in-hello s o t bytes none (n, part, begins) = record {
    all = take n hello;
    written = begins;
    broke = subst (λ k. Broke s k bytes (take n hello)) (sym none) (broke-hello s n bytes part);
  }

  -- ---- something that is called for is unsaid

  abbrev all_text : Speaker F → List ℕ → List ℕ
  all_text s bytes = session_text W (called_by S W s bytes)

  cut-message : (n : ℕ) (Ms front more : Messages) (M : Message F) → Ms ≡ front ++ M ∷ more →
      n < length (spelling M) → length (said front ++ take n (spelling M)) < length (said Ms)
  cut-message n Ms front more M is part =
      let whole = ap (λ (l : List ℕ). length l) (ap said is ∙ joined front (M ∷ more)) in
      omega (
        arith,
        length-append (said front) (take n (spelling M)),
        length-take n (spelling M),
        length-append (said front) (spelled (M ∷ more)),
        length-append (spelling M) (spelled more),
      )

  -- the writer failed in a message
  pub cut-in-message : (s : Speaker F) (o p : SenderState) (t : Traffic) (holds : Option (List ℕ)) (bytes : List ℕ)
      (front more : Messages) (M : Message F) (is : called_by S W s bytes ≡ front ++ M ∷ more)
      (w : HasWritten W o t.held holds front) (same : p ≡ o) (begins : BreaksIn holds t.holds (message_text W M)) →
      length (breaks-in-message s o p t holds bytes front more M is w same begins).all < length (all_text s bytes)
  unfolding breaks-in-message
  cut-in-message s o p t holds bytes front more M is w same (n, part, begins) =
      cut-message n (called_by S W s bytes) front more M is part

  -- in the hello
  pub cut-in-hello : (s : Speaker F) (o : SenderState) (t : Traffic) (bytes : List ℕ) (none : o.sent ≡ 0)
      (begins : BreaksIn t.held t.holds W.hello) →
      length (breaks-in-hello s o t bytes none begins).all < length (all_text s bytes)
  unfolding breaks-in-hello
  cut-in-hello s o t bytes none (n, part, begins) =
      omega (arith, length-take n hello, length-append hello (spelled (called_by S W s bytes)))
