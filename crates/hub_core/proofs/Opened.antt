-- A session that is opened for a greeting, of whose hello some bytes were written before.
--
-- What is due of a session that has just begun is our hello and all that is said to no bytes, so its first bytes are
-- the hello's. Those that were written are taken, then all bytes that came are pushed. So what is known of the session
-- speaks of all bytes that were read and all that were written, as `Knows` does.
use Rattle.std.proofs.Common.{◌≡◌, ℕ, ◌+◌, ◌≤◌, true, false, List, [], ◌++◌, length, length-append, take, min}
use Rattle.std.proofs.Common.{Result, Ok, Err, OnOk, append-nil, refl, ap, ◌∙◌, subst}
use Rattle.std.proofs.Common.{append_assoc, arith}
use Rattle.std.specs.Prelude.{flat_map}
use Rattle.std.proofs.lemmas.List.{take-append-le}
use Rattle.std.proofs.Math.Seq.{take-length}
use Rattle.definitions.specs.Fingerprints.{Summary}
use Rattle.definitions.specs.Replies.{Peer}
use Rattle.definitions.specs.Wire.{Profile, message_text}
use Rattle.definitions.specs.Engines.{Speaker, responding}
use Rattle.definitions.specs.Ends.{is_live}
use Rattle.ends_core.specs.Sides.{said_to}
use Rattle.session_core.specs.Sessions.{SessionState, Knows, Pushes, Takes, all_made, frame_of, with_talk, with_outbox}

module _ {F : Type 0} (S : Summary F) (W : Profile F) where
  -- as many bytes of the hello as were written are taken
  pub taken-hello : (P : Peer) (c d e : SessionState F) (said n : ℕ) → Knows S W (responding S P) c [] [] →
      d ≡ with_talk c (with_outbox c.talk (all_made W c.talk) true) → Takes S W c [] d →
      n ≡ min said (length d.talk.outbox.ready) → Takes S W d (take n d.talk.outbox.ready) e →
      length W.hello ≡ 4 → said ≤ 4 → Knows S W (responding S P) e [] (take said W.hello)
  taken-hello P c d e said n k made makes count takes four few =
      let s : Speaker F = responding S P in
      let rest = flat_map (message_text W) (said_to S W s []) ++ frame_of c.talk.state in
      let ready : d.talk.outbox.ready ≡ W.hello ++ rest =
      ap (λ (x : SessionState F). x.talk.outbox.ready) made ∙ k.tells.text
      ∙ append_assoc W.hello (flat_map (message_text W) (said_to S W s [])) (frame_of c.talk.state) in
      let long : length d.talk.outbox.ready ≡ 4 + length rest =
      omega (arith, ap (λ (l : List ℕ). length l) ready, length-append W.hello rest, four) in
      let all : n ≡ said = omega (arith, count, long, few) in
      let front : take n d.talk.outbox.ready ≡ take said W.hello =
      ap (λ (m : ℕ). take m d.talk.outbox.ready) all ∙ ap (λ (l : List ℕ). take said l) ready
      ∙ take-append-le said W.hello rest (omega (arith, four, few)) in
      subst (λ (l : List ℕ). Knows S W s e [] l) front (takes s [] [] (makes s [] [] k))

  -- and all bytes that came are pushed
  pub pushed-all : (P : Peer) (c d e : SessionState F) (piece came taken : List ℕ) (n : ℕ) → piece ≡ came →
      Knows S W (responding S P) c [] taken → c.over ≡ false → (c.over ≡ false → Pushes S W c (take n piece) d) →
      n ≡ length came →
      ((s : Speaker F) (pushed taken : List ℕ) → is_live s.start.stage ≡ true → Knows S W s d pushed taken →
      Knows S W s e pushed taken) → Knows S W (responding S P) e came taken
  pushed-all P c d e piece came taken n is k listens pushes all ends =
      let whole : take n piece ≡ came =
      ap (λ (l : List ℕ). take n l) is ∙ ap (λ (m : ℕ). take m came) all ∙ take-length came in
      let pushed = pushes listens (responding S P) [] taken refl k in
      ends (responding S P) came taken refl
      (subst (λ (l : List ℕ). Knows S W (responding S P) d l taken) whole pushed)

  -- the texts are made, and before that something else was done by which all stays known
  pub made-then : {X E : Type 0} (r : Result X E) (c d e : SessionState F) →
      ((s : Speaker F) (pushed taken : List ℕ) → is_live s.start.stage ≡ true → Knows S W s c pushed taken →
      Knows S W s d pushed taken) → OnOk r (Takes S W d [] e) →
      OnOk r ((s : Speaker F) (pushed taken : List ℕ) → is_live s.start.stage ≡ true → Knows S W s c pushed taken →
      Knows S W s e pushed taken)
  made-then (Ok x) c d e before made = λ s pushed taken live k.
      subst (λ (l : List ℕ). Knows S W s e pushed l) (append-nil taken)
      (made s pushed taken (before s pushed taken live k))
  made-then (Err x) c d e before made = tt
