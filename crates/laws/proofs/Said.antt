-- What is said while frames are heard: the reply at the end of a message, and nothing more after a stop.
-- The claim speaks of all events that may still come (`SaysOn`): while an end goes on, one part more adds nothing to
-- what is said, the end of the message adds its reply, and a fault frame nothing; once the hearing has stopped, what
-- is said is the same whatever comes. It is proved along the events, as Hearing is. A part that is refused says
-- nothing, since the whole message that has it is refused, if it ever ends. At the end of a message its reply comes in
-- front of what the end after it says.
-- What was said begins what is called for: the messages in all events begin with those in the events so far, and what
-- is called for is what is said, or that and one reply that is too long to be said.
-- docs/LAWS.md: What is said at each frame.
use Rattle.std.proofs.Common.{◌≡◌, ℕ, ◌∙◌, Bool, true, false, List, [], ◌∷◌, ◌++◌, Option, Some, None, inl, inr, refl}
use Rattle.std.proofs.Common.{sym, ap, subst, append_assoc}
use Rattle.std.specs.Prelude.{◌⊎◌, fold}
use Rattle.definitions.proofs.Words.{Summary, Part, Message, next, finish, Came, Ended, Failed, Event, End, Ends}
use Rattle.definitions.proofs.Words.{Refuses, Replies, after, after_answer, answer, answer_unless, answers, is_live}
use Rattle.definitions.proofs.Words.{replied, stage_fault, messages_of}
use Rattle.definitions.specs.Ends.{Answer, is_over}
use Rattle.definitions.specs.Placing.{refusal}
use Rattle.definitions.specs.Taking.{Taken, place_of, nothing_taken, taken, taken_all, ended, after_ended}
use Rattle.definitions.specs.Hearing.{Hearing, Goes_on, Over_at, Peer_refused, Refused_for, goes_unless, stands_at}
use Rattle.definitions.specs.Hearing.{ended_by, hear}
use Rattle.definitions.proofs.Lemmas.{append-nil, cond_both, fold-append}
use Rattle.laws.specs.Hearing.{has_stopped, SaysOn, FramesSay, OwnBegins}
use Rattle.definitions.specs.Engines.{called, calls, own}
use Rattle.laws.proofs.Saying.{says_none}
use Rattle.laws.proofs.Taking.{stays-refused, refused-place, fault-taken, place-all, ended-all, after-all}
use Rattle.laws.proofs.Hearing.{stays-over, stays-told, stays-stopped, over-not-live, after-live, first-begins}
use Rattle.laws.proofs.Hearing.{spent_by, still-live, called-taken}

abbrev Sofar : {F : Type 0} → Summary F → End F → Message F → List (Event F) → Hearing F
Sofar S e ps events = fold (hear S) (Goes_on e (taken_all S e ps)) events

-- what is claimed of these events
abbrev Claim : {F : Type 0} → Summary F → End F → Message F → List (Event F) → Hearing F → Type 0
Claim S e ps events h = SaysOn (λ more. answers S e (messages_of ps (events ++ more))) h

-- a message whose parts so far are refused says nothing
says-nothing : {F : Type 0} (S : Summary F) (e : End F) (ps : Message F) (code : ℕ) (events : List (Event F)) →
    is_live e.stage ≡ true → refusal (fold next (place_of e.stage) ps) ≡ Some code →
    answers S e (messages_of ps events) ≡ []
says-nothing {F} S e ps code events live h = by (first-begins ps events) where
  by : (messages_of ps events ≡ [])
      ⊎ ((more : Message F) × (rest : List (Message F)) × (messages_of ps events ≡ (ps ++ more) ∷ rest)) →
      answers S e (messages_of ps events) ≡ []
  by (inl none) = ap (answers S e) none
  by (inr (more, rest, is)) =
      let M : Message F = ps ++ more in
      let at = fold-append next (place_of e.stage) ps more
      ∙ ap (λ x. fold next x more) (refused-place (fold next (place_of e.stage) ps) code h) ∙ stays-refused code more in
      let fault : stage_fault e.stage M ≡ Some code = sym (fault-taken e.stage M) ∙ ap finish at in
      ap (answers S e) is ∙ (spent_by S e M rest code live (ap (answer_unless S e.peer M) fault)).1

-- nothing is said, now and later
claim-nothing : {F : Type 0} (said : List (Event F) → List (Message F)) (h : Hearing F) → has_stopped h ≡ true →
    ((more : List (Event F)) → said more ≡ said []) → SaysOn said h
claim-nothing said (Goes_on e t) stopped same = absurd cc
claim-nothing said (Over_at e) stopped same = same
claim-nothing said (Peer_refused code) stopped same = same
claim-nothing said (Refused_for code) stopped same = same

-- a part came
claim-part : {F : Type 0} (S : Summary F) (e : End F) (ps : Message F) (p : Part F) (events : List (Event F)) →
    is_live e.stage ≡ true →
    Claim S e (ps ++ p ∷ []) events (Sofar S e (ps ++ p ∷ []) events) →
    Claim S e ps (Came p ∷ events) (Sofar S e ps (Came p ∷ events))
claim-part {F} S e ps p events live later = by (refusal (next (taken_all S e ps).place p)) refl where
  t : Taken F
  t = taken_all S e ps

  by : (o : Option ℕ) → refusal (next t.place p) ≡ o →
      Claim S e (ps ++ p ∷ []) events (fold (hear S) (goes_unless o (Goes_on e (taken S e t p))) events)
  by None h = subst (λ u. Claim S e (ps ++ p ∷ []) events (fold (hear S) (Goes_on e u) events))
      (fold-append (taken S e) (nothing_taken e) ps (p ∷ [])) later
  by (Some code) h =
      let place : fold next (place_of e.stage) (ps ++ p ∷ []) ≡ next t.place p =
      fold-append next (place_of e.stage) ps (p ∷ []) ∙ ap (λ x. next x p) (sym (place-all S e ps)) in
      let none : (more : List (Event F)) → answers S e (messages_of (ps ++ p ∷ []) (events ++ more)) ≡ [] =
      λ more. says-nothing S e (ps ++ p ∷ []) code (events ++ more) live (ap refusal place ∙ h) in
      subst (Claim S e (ps ++ p ∷ []) events) (sym (stays-stopped S code events)) (λ more. none more ∙ sym (none []))

-- what is said after one message more in front
in-front : {F : Type 0} (front : List (Message F)) (said : List (Event F) → List (Message F)) (h : Hearing F) →
    SaysOn said h → SaysOn (λ more. front ++ said more) h
in-front front said (Goes_on e t) (part, end, fault) = (
  λ p. ap (λ l. front ++ l) (part p),
  ap (λ l. front ++ l) end ∙ sym (append_assoc front (said []) (replied (ended t))),
  λ code. ap (λ l. front ++ l) (fault code),
)
in-front front said (Over_at e) same = λ more. ap (λ l. front ++ l) (same more)
in-front front said (Peer_refused code) same = λ more. ap (λ l. front ++ l) (same more)
in-front front said (Refused_for code) same = λ more. ap (λ l. front ++ l) (same more)

-- a message ended, and f is the end after it
claim-after : {F : Type 0} (S : Summary F) (e : End F) (ps : Message F) (events : List (Event F)) (f : End F) →
    after S e ps ≡ f → (is_over f.stage ≡ false → is_live f.stage ≡ true) →
    ((d : End F) → is_live d.stage ≡ true → Claim S d [] events (Sofar S d [] events)) →
    SaysOn (λ more. answers S e (ps ∷ messages_of [] (events ++ more))) (fold (hear S) (stands_at f) events)
claim-after {F} S e ps events f is live later =
    in-front (replied (answer S e ps)) (λ more. answers S (after S e ps) (messages_of [] (events ++ more)))
    (fold (hear S) (stands_at f) events)
    (subst (λ d. SaysOn (λ more. answers S d (messages_of [] (events ++ more))) (fold (hear S) (stands_at f) events))
    (sym is) at) where
      at : SaysOn (λ more. answers S f (messages_of [] (events ++ more))) (fold (hear S) (stands_at f) events)
      at = cond_both (is_over f.stage) (Over_at f) (Goes_on f (nothing_taken f))
          (λ h. SaysOn (λ more. answers S f (messages_of [] (events ++ more))) (fold (hear S) h events))
          (λ over.
          let none : (Ms : List (Message F)) → answers S f Ms ≡ [] =
          λ Ms. (says_none S f Ms (over-not-live f.stage over)).0 in
          subst (SaysOn (λ more. answers S f (messages_of [] (events ++ more)))) (sym (stays-over S f events))
          (λ more. none (messages_of [] (events ++ more)) ∙ sym (none (messages_of [] (events ++ [])))))
          (λ goes. later f (live goes))

claim-ended : {F : Type 0} (S : Summary F) (e : End F) (ps : Message F) (events : List (Event F)) →
    is_live e.stage ≡ true →
    ((d : End F) → is_live d.stage ≡ true → Claim S d [] events (Sofar S d [] events)) →
    Claim S e ps (Ended ∷ events) (Sofar S e ps (Ended ∷ events))
claim-ended {F} S e ps events live later =
    subst (λ a. SaysOn (λ more. answers S e (ps ∷ messages_of [] (events ++ more)))
    (fold (hear S) (ended_by e (taken_all S e ps) a) events)) (sym (ended-all S e ps)) (by (answer S e ps) refl) where
      taken_by : (a : Answer F) → answer S e ps ≡ a → ((code : ℕ) → a ≡ Refuses code → ⊥) →
          SaysOn (λ more. answers S e (ps ∷ messages_of [] (events ++ more)))
          (fold (hear S) (stands_at (after_ended e (taken_all S e ps) a)) events)
      taken_by a is never =
          let ended : after_ended e (taken_all S e ps) a ≡ after_answer e ps a = after-all S e ps a in
          claim-after S e ps events (after_ended e (taken_all S e ps) a) (after-live S e ps a live is ∙ sym ended)
          (subst (λ d. is_over d.stage ≡ false → is_live d.stage ≡ true) (sym ended) (still-live e ps a never)) later

      by : (a : Answer F) → answer S e ps ≡ a → SaysOn (λ more. answers S e (ps ∷ messages_of [] (events ++ more)))
          (fold (hear S) (ended_by e (taken_all S e ps) a) events)
      by (Replies N) is = taken_by (Replies N) is (λ code h. cc)
      by Ends is = taken_by Ends is (λ code h. cc)
      by (Refuses code) is =
          let none : (Ms : List (Message F)) → answers S e (ps ∷ Ms) ≡ [] = λ Ms. (spent_by S e ps Ms code live is).1 in
          subst (SaysOn (λ more. answers S e (ps ∷ messages_of [] (events ++ more))))
          (sym (stays-stopped S code events))
          (λ more. none (messages_of [] (events ++ more)) ∙ sym (none (messages_of [] (events ++ []))))

claims : {F : Type 0} (S : Summary F) (e : End F) (ps : Message F) (events : List (Event F)) → is_live e.stage ≡ true →
    Claim S e ps events (Sofar S e ps events)
claims S e ps [] live =
    (λ p. refl, append-nil (replied (answer S e ps)) ∙ ap replied (sym (ended-all S e ps)), λ code. refl)
claims S e ps (Came p ∷ events) live = claim-part S e ps p events live (claims S e (ps ++ p ∷ []) events live)
claims S e ps (Ended ∷ events) live = claim-ended S e ps events live (λ d l. claims S d [] events l)
claims S e ps (Failed code ∷ events) live = subst (SaysOn (λ more. [])) (sym (stays-told S code events)) (λ more. refl)

pub frames_say : {F : Type 0} (S : Summary F) → FramesSay S
frames_say S e events live = claims S e [] events live

-- ---- what all events call for

messages-more : {F : Type 0} (ps : Message F) (events rest : List (Event F)) →
    (Ns : List (Message F)) × (messages_of ps (events ++ rest) ≡ messages_of ps events ++ Ns)
messages-more ps [] rest = (messages_of ps rest, refl)
messages-more ps (Came p ∷ events) rest = messages-more (ps ++ p ∷ []) events rest
messages-more ps (Ended ∷ events) rest = let more = messages-more [] events rest in (more.0, ap (λ l. ps ∷ l) more.1)
messages-more ps (Failed code ∷ events) rest = ([], refl)

-- where nothing is said, all is more
all-more : {F : Type 0} (said called : List (Message F)) → said ≡ [] →
    (more : List (Message F)) × (called ≡ said ++ more)
all-more said called none = (called, ap (λ l. l ++ called) (sym none))

calls-begin : {F : Type 0} (S : Summary F) (e : End F) (Ms Ns : List (Message F)) →
    (more : List (Message F)) × (calls S e (Ms ++ Ns) ≡ answers S e Ms ++ more)
calls-begin S e [] Ns = (calls S e Ns, refl)
calls-begin {F} S e (M ∷ Ms) Ns = by (answer S e M) refl (is_live e.stage) refl
    (calls-begin S (after S e M) Ms Ns) where
      goes : called S e M ≡ replied (answer S e M) →
          ((more : List (Message F)) × (calls S (after S e M) (Ms ++ Ns) ≡ answers S (after S e M) Ms ++ more)) →
          (more : List (Message F)) × (calls S e (M ∷ (Ms ++ Ns)) ≡ answers S e (M ∷ Ms) ++ more)
      goes same r =
          (r.0, (λ i. same i ++ r.1 i) ∙ sym (append_assoc (replied (answer S e M)) (answers S (after S e M) Ms) r.0))

      by : (a : Answer F) → answer S e M ≡ a → (b : Bool) → is_live e.stage ≡ b →
          ((more : List (Message F)) × (calls S (after S e M) (Ms ++ Ns) ≡ answers S (after S e M) Ms ++ more)) →
          (more : List (Message F)) × (calls S e (M ∷ (Ms ++ Ns)) ≡ answers S e (M ∷ Ms) ++ more)
      by a is false dead r =
          all-more (answers S e (M ∷ Ms)) (calls S e (M ∷ (Ms ++ Ns))) (says_none S e (M ∷ Ms) dead).0
      by (Replies N) is true live r =
          goes (called-taken S e M (λ code h. let wrong : Replies N ≡ Refuses code = sym is ∙ h in cc)) r
      by Ends is true live r =
          goes (called-taken S e M (λ code h. let wrong : Ends ≡ Refuses code = sym is ∙ h in cc)) r
      by (Refuses code) is true live r =
          all-more (answers S e (M ∷ Ms)) (calls S e (M ∷ (Ms ++ Ns))) (spent_by S e M Ms code live is).1

pub own_begins : {F : Type 0} (S : Summary F) → OwnBegins S
own_begins {F} S s events rest =
    let all = messages-more [] events rest in
    let called = calls-begin S s.start (messages_of [] events) all.0 in (
      called.0,
      ap (own S s) all.1 ∙ ap (λ (l : List (Message F)). s.first ++ l) called.1
          ∙ sym (append_assoc s.first (answers S s.start (messages_of [] events)) called.0),
    )
