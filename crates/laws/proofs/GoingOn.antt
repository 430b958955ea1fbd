-- What is said to events, and what is heard of bytes, as more of them come.
--
-- While a side goes on, one event more adds to what is said just the reply to it: that is what is claimed of all events
-- that may still come (`FramesSay`), for one event. Once it has stopped, each later event leaves the hearing as it is,
-- and neither the end of the bytes nor a fault after its events changes it. So the same is said and heard, wherever the
-- bytes are cut.
-- docs/LAWS.md: What is said at each frame.
use Rattle.std.proofs.Common.{◌≡◌, ℕ, Bool, true, List, [], ◌∷◌, ◌++◌, refl, sym, ap, ◌∙◌, subst, append_assoc}
use Rattle.std.proofs.Common.{append-nil}
use Rattle.std.specs.Prelude.{fold}
use Rattle.definitions.proofs.Lemmas.{fold-append}
use Rattle.definitions.specs.Fingerprints.{Summary}
use Rattle.definitions.specs.Messages.{Message}
use Rattle.definitions.specs.Wire.{Profile, Event, Came, Ended, Failed}
use Rattle.definitions.specs.Streams.{Standing, Before_hello, feed, messages_of}
use Rattle.definitions.specs.Ends.{End, is_live}
use Rattle.definitions.specs.Engines.{Speaker, answers, replied}
use Rattle.definitions.specs.Taking.{Taken, ended}
use Rattle.definitions.specs.Hearing.{Hearing, Goes_on, Over_at, Peer_refused, Refused_for, hear_now, hear, begins}
use Rattle.definitions.specs.Hearing.{hears, stop_at, with_end, hearing_to}
use Rattle.laws.specs.Hearing.{has_stopped, SaysOn, HearingsGoOn, said_to_events, adds}
use Rattle.laws.proofs.Said.{frames_say}

module _ {F : Type 0} (S : Summary F) where
  said-at : (s : Speaker F) (events : List (Event F)) →
      answers S s.start (messages_of [] (events ++ [])) ≡ answers S s.start (messages_of [] events)
  said-at s events = ap (λ l. answers S s.start (messages_of [] l)) (append-nil events)

  -- ---- what is said

  says-next : (s : Speaker F) (events : List (Event F)) (e : End F) (t : Taken F) (event : Event F) →
      is_live s.start.stage ≡ true → hears S s events ≡ Goes_on e t →
      said_to_events S s (events ++ event ∷ []) ≡ said_to_events S s events ++ adds t event
  says-next s events e t event live at = by event where
    on : SaysOn (λ more. answers S s.start (messages_of [] (events ++ more))) (Goes_on e t)
    on = subst (SaysOn (λ more. answers S s.start (messages_of [] (events ++ more)))) at
        (frames_say S s.start events live)

    none : (x : Event F) →
        answers S s.start (messages_of [] (events ++ x ∷ [])) ≡ answers S s.start (messages_of [] (events ++ [])) →
        said_to_events S s (events ++ x ∷ []) ≡ said_to_events S s events ++ []
    none x same =
        ap (λ (l : List (Message F)). s.first ++ l) (same ∙ said-at s events)
        ∙ sym (append-nil (said_to_events S s events))

    by : (x : Event F) → said_to_events S s (events ++ x ∷ []) ≡ said_to_events S s events ++ adds t x
    by (Came p) = none (Came p) (on.0 p)
    by Ended =
        ap (λ (l : List (Message F)). s.first ++ l)
        (on.1 ∙ ap (λ (l : List (Message F)). l ++ replied (ended t)) (said-at s events))
        ∙ sym (append_assoc s.first (answers S s.start (messages_of [] events)) (replied (ended t)))
    by (Failed code) = none (Failed code) (on.2 code)

  stop-says : (said : List (Event F) → List (Message F)) (h : Hearing F) → has_stopped h ≡ true →
      SaysOn said h → (more : List (Event F)) → said more ≡ said []
  stop-says said (Goes_on e t) stopped on more = absurd cc
  stop-says said (Over_at e) stopped on more = on more
  stop-says said (Peer_refused code) stopped on more = on more
  stop-says said (Refused_for code) stopped on more = on more

  says-no-more : (s : Speaker F) (events rest : List (Event F)) → is_live s.start.stage ≡ true →
      has_stopped (hears S s events) ≡ true → said_to_events S s (events ++ rest) ≡ said_to_events S s events
  says-no-more s events rest live stopped =
      ap (λ (l : List (Message F)). s.first ++ l)
      (stop-says (λ more. answers S s.start (messages_of [] (events ++ more))) (hears S s events) stopped
      (frames_say S s.start events live) rest ∙ said-at s events)

  -- ---- what is heard

  hears-next : (s : Speaker F) (events : List (Event F)) (e : End F) (t : Taken F) (event : Event F) →
      hears S s events ≡ Goes_on e t → hears S s (events ++ event ∷ []) ≡ hear_now S e t event
  hears-next s events e t event at = fold-append (hear S) (begins s) events (event ∷ []) ∙ ap (λ h. hear S h event) at

  -- a hearing that has stopped is the same, whatever comes
  pub stays : (h : Hearing F) (rest : List (Event F)) → has_stopped h ≡ true → fold (hear S) h rest ≡ h
  stays h [] stopped = refl
  stays (Goes_on e t) (x ∷ rest) stopped = absurd cc
  stays (Over_at e) (x ∷ rest) stopped = stays (Over_at e) rest stopped
  stays (Peer_refused code) (x ∷ rest) stopped = stays (Peer_refused code) rest stopped
  stays (Refused_for code) (x ∷ rest) stopped = stays (Refused_for code) rest stopped

  kept : (h : Hearing F) (to : Standing) (over : Bool) → has_stopped h ≡ true → with_end over (stop_at to h) ≡ h
  kept (Goes_on e t) to over stopped = absurd cc
  kept (Over_at e) to over stopped = refl
  kept (Peer_refused code) to over stopped = refl
  kept (Refused_for code) to over stopped = refl

  hears-no-more : (P : Profile F) (s : Speaker F) (over : Bool) (bytes : List ℕ) (events rest : List (Event F)) →
      (feed P Before_hello bytes).events ≡ events ++ rest → has_stopped (hears S s events) ≡ true →
      hearing_to S P s over bytes ≡ hears S s events
  hears-no-more P s over bytes events rest all stopped =
      let to = (feed P Before_hello bytes).to in
      let h = hears S s events in
      ap (λ l. with_end over (stop_at to (hears S s l))) all
      ∙ (ap (λ x. with_end over (stop_at to x))
      (fold-append (hear S) (begins s) events rest ∙ stays h rest stopped) ∙ kept h to over stopped)

pub hearings_go_on : {F : Type 0} (S : Summary F) → HearingsGoOn S
hearings_go_on S = record {
  hears_next = hears-next S;
  says_next = says-next S;
  says_no_more = says-no-more S;
  hears_no_more = hears-no-more S;
}
