-- What is said in turn: all that is due is taken of one side and pushed to the other.
use Rattle.std.proofs.Common.{◌≡◌, ℕ, ◌+◌, ◌≤◌, ◌∙◌, true, List, [], ◌∷◌, ◌++◌, length, refl, take, sym}
use Rattle.std.proofs.Common.{subst, ap, arith, append-nil, drop, flat_map, length-drop}
use Rattle.std.proofs.Math.Seq.{take-length}
use Rattle.definitions.specs.Fingerprints.{Summary}
use Rattle.definitions.specs.Ends.{is_live}
use Rattle.definitions.specs.Engines.{Speaker}
use Rattle.definitions.specs.Wire.{Profile, message_text}
use Rattle.session_core.specs.Sessions.{SessionState, Knows, Pushes, Takes, due, frame_due, with_outbox}
use Rattle.session_core.specs.Sessions.{with_talk, all_made}
use Rattle.session_core.specs.Outboxes.{less}
use Rattle.session_core.proofs.Calls.{knows-same, knows-joined}
use Rattle.sim_core.specs.Costs.{Round, Talks, HaveSpoken, asked_by, answered_by, turns_by, turn_of}

pub none-of : (xs : List ℕ) → length xs ≡ 0 → xs ≡ []
none-of [] is = refl
none-of (x ∷ xs) is = absurd (omega arith)

drop-whole : (xs : List ℕ) (n : ℕ) → n ≡ length xs → drop n xs ≡ []
drop-whole xs n is = none-of (drop n xs) (omega (arith, length-drop n xs, is))

take-whole : (xs : List ℕ) (n : ℕ) → n ≡ length xs → take n xs ≡ xs
take-whole xs n is = subst (λ k. take k xs ≡ xs) (sym is) (take-length xs)

module _ {F : Type 0} (S : Summary F) (W : Profile F) where
  -- whatever was pushed and taken before, these bytes were pushed and taken after it
  abbrev pub Trades : SessionState F → List ℕ → List ℕ → SessionState F → Type 0
  Trades c pushed taken d = (s : Speaker F) (heard said : List ℕ) → is_live s.start.stage ≡ true →
      Knows S W s c heard said → Knows S W s d (heard ++ pushed) (said ++ taken)

  -- texts are made, and then all of them are taken
  pub takes-all : (c d e : SessionState F) (ready bytes : List ℕ) (n : ℕ) → Takes S W c [] d → ready ≡ bytes →
      n ≡ length ready → Takes S W d (take n ready) e → Takes S W c bytes e
  takes-all c d e ready bytes n made same is taken s pushed before k =
      subst (λ (l : List ℕ). Knows S W s e pushed (before ++ l)) (take-whole ready n is ∙ same)
      (subst (λ (l : List ℕ). Knows S W s e pushed (l ++ take n ready)) (append-nil before)
      (taken s pushed (before ++ []) (made s pushed before k)))

  -- nothing is pushed
  pub pushes-nothing : (c : SessionState F) (bytes : List ℕ) → bytes ≡ [] → Pushes S W c bytes c
  pushes-nothing c bytes none s pushed taken live k =
      subst (λ (l : List ℕ). Knows S W s c l taken) (sym (append-nil pushed) ∙ ap (λ l. pushed ++ l) (sym none)) k

  -- texts were made, and nothing was due
  pub none-left : (c d : SessionState F) → d ≡ with_talk c (with_outbox c.talk (all_made W c.talk) true) →
      due W c.talk ≡ [] → due W d.talk ≡ []
  none-left c d made none = ap (λ (x : SessionState F). due W x.talk) made ∙ append-nil (due W c.talk) ∙ none

  -- texts were made, and all of them are taken
  pub all-taken : (c d e : SessionState F) (n : ℕ) →
      d ≡ with_talk c (with_outbox c.talk (all_made W c.talk) true) →
      n ≡ length d.talk.outbox.ready →
      e ≡ with_talk d (with_outbox d.talk (less n d.talk.outbox) d.talk.told) →
      due W e.talk ≡ []
  all-taken c d e n made is last =
      let later : d.talk.outbox.later ≡ [] = ap (λ (x : SessionState F). x.talk.outbox.later) made in
      let told : d.talk.told ≡ true = ap (λ (x : SessionState F). x.talk.told) made in
      ap (λ (x : SessionState F). due W x.talk) last
      ∙ ap (λ l. l ++ (flat_map (message_text W) d.talk.outbox.later ++ frame_due d.talk.state d.talk.told))
      (drop-whole d.talk.outbox.ready n is)
      ∙ ap (λ l. flat_map (message_text W) l ++ frame_due d.talk.state d.talk.told) later
      ∙ ap (λ b. frame_due d.talk.state b) told

  pub pushes-all : (c d : SessionState F) (piece bytes : List ℕ) (n : ℕ) → piece ≡ bytes → n ≡ length piece →
      Pushes S W c (take n piece) d → Pushes S W c bytes d
  pushes-all c d piece bytes n same is pushes =
      subst (λ (l : List ℕ). Pushes S W c l d) (take-whole piece n is ∙ same) pushes

  pub trades-nothing : (c : SessionState F) → Trades c [] [] c
  trades-nothing c s heard said live k = knows-same S W s c heard said k

  -- one side says something, and then hears something
  pub trades-more : (c d e f : SessionState F) (pushed taken said heard : List ℕ) → Trades c pushed taken d →
      Takes S W d said e → Pushes S W e heard f → Trades c (pushed ++ heard) (taken ++ said) f
  trades-more c d e f pushed taken said heard trades takes pushes s before_heard before_said live k =
      knows-joined S W s f before_heard pushed heard before_said taken said
      (pushes s (before_heard ++ pushed) ((before_said ++ taken) ++ said) live
      (takes s (before_heard ++ pushed) (before_said ++ taken) (trades s before_heard before_said live k)))

  -- one side hears something, and then says something
  pub trades-back : (c d e f : SessionState F) (pushed taken said heard : List ℕ) → Trades c pushed taken d →
      Pushes S W d heard e → Takes S W e said f → Trades c (pushed ++ heard) (taken ++ said) f
  trades-back c d e f pushed taken said heard trades pushes takes s before_heard before_said live k =
      knows-joined S W s f before_heard pushed heard before_said taken said
      (takes s ((before_heard ++ pushed) ++ heard) (before_said ++ taken)
      (pushes s (before_heard ++ pushed) (before_said ++ taken) live (trades s before_heard before_said live k)))

  pub first-trades : (c d e f : SessionState F) (rs : List (Round F)) → Talks S W c d rs e f →
      Trades c (answered_by W rs) (asked_by W rs) e
  first-trades c d e f [] talks = subst (Trades c [] []) (sym talks.0) (trades-nothing c)
  first-trades c d e f (r ∷ rs) talks =
      trades-more c r.first r.spoken e (answered_by W rs) (asked_by W rs) (due W r.first.talk) (due W r.heard.talk)
      (first-trades c d r.first r.second rs talks.0) talks.1 talks.4

  pub second-trades : (c d e f : SessionState F) (rs : List (Round F)) → Talks S W c d rs e f →
      Trades d (asked_by W rs) (answered_by W rs) f
  second-trades c d e f [] talks = subst (Trades d [] []) (sym talks.1) (trades-nothing d)
  second-trades c d e f (r ∷ rs) talks =
      trades-back d r.second r.heard f (asked_by W rs) (answered_by W rs) (due W r.heard.talk) (due W r.first.talk)
      (second-trades c d r.first r.second rs talks.0) talks.2 talks.3

  -- a round more: c and d to e and f, which spoke to g, h, e2 and f2
  pub spoken-more : (c d e f g h e2 f2 : SessionState F) (turns mid after : List ℕ) (n m : ℕ) →
      HaveSpoken S W c d e f turns → Takes S W e (due W e.talk) g → Pushes S W f (due W e.talk) h →
      Takes S W h (due W h.talk) f2 → Pushes S W g (due W h.talk) e2 → n ≡ length (due W e.talk) →
      m ≡ length (due W h.talk) → mid ≡ turns ++ turn_of n → after ≡ mid ++ turn_of m →
      HaveSpoken S W c d e2 f2 after
  spoken-more c d e f g h e2 f2 turns mid after n m spoken takes pushes takes2 pushes2 is is2 first second = record {
    rounds = record { first = e; second = f; spoken = g; heard = h } ∷ spoken.rounds;
    talks = (spoken.talks, takes, pushes, takes2, pushes2);
    are = second ∙ ap (λ l. l ++ turn_of m) (first ∙ ap (λ l. l ++ turn_of n) spoken.are)
        ∙ ap (λ k. (turns_by W spoken.rounds ++ turn_of k) ++ turn_of m) is
        ∙ ap (λ k. (turns_by W spoken.rounds ++ turn_of (length (due W e.talk))) ++ turn_of k) is2;
  }
