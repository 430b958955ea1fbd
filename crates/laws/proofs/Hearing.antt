-- What is heard frame by frame is what whole messages make of an end; only the refusal may be another one.
-- Go through the events of a stream, with an end that takes messages and the parts that came so far. A part that is
-- placed is kept; the rest is the claim for one part more. A part that is refused stops the hearing at once; if the
-- stream ends that message later, the whole message is refused too, by the same number, since a refusal of the placing
-- stays (`part-refused`). So nothing of it is said in either way. At the end of a message the parts kept are answered
-- as the whole is (Taking), and the claim goes on with the end after it; if that is a refusal, or the session is over,
-- nothing after it counts. A fault frame stops both.
-- What is *called for* also has a reply that is too long to be said; it is refused 12 in both ways.
-- For bytes: they are fed, and what the events make is stopped once more by the fault of the stream, or by the end of
-- the input. A stop keeps what was said.
-- docs/LAWS.md: Frames agree.
use Rattle.std.proofs.Common.{◌≡◌, ℕ, ◌∙◌, Bool, true, false, List, [], ◌∷◌, ◌++◌, Option, Some, None, inl, inr, refl}
use Rattle.std.proofs.Common.{sym, ap, subst, append_assoc}
use Rattle.std.specs.Prelude.{◌⊎◌, fold, if◌then◌else◌}
use Rattle.definitions.proofs.Words.{Summary, Part, Message, has_open, open_parts, reply, next, finish, too_many_parts}
use Rattle.definitions.proofs.Words.{Came, Ended, Failed, Event, Profile, End, Ends, Fresh, Over, Refuses, Replies}
use Rattle.definitions.proofs.Words.{Spent, Stage, Waits, after, after_answer, answer, answer_unless, answers, heard}
use Rattle.definitions.proofs.Words.{is_live, is_sendable, replied, stage_fault, messages_of, Standing, Before_hello}
use Rattle.definitions.proofs.Words.{In_message, Meaning_over, Faulted, Fed, feed, session}
use Rattle.definitions.specs.Ends.{Answer, is_over}
use Rattle.definitions.specs.Engines.{called, called_unless, calls, own}
use Rattle.definitions.specs.Placing.{refusal}
use Rattle.definitions.specs.Taking.{Taken, place_of, nothing_taken, taken, taken_all, ended, after_ended}
use Rattle.definitions.specs.Hearing.{Hearing, Goes_on, Over_at, Peer_refused, Refused_for, goes_unless, stands_at}
use Rattle.definitions.specs.Hearing.{ended_by, hear, hears, stop_at, with_end}
use Rattle.definitions.proofs.Lemmas.{append-nil, cond_both, fold-append}
use Rattle.laws.specs.Hearing.{SaidBut, AgreesBy, Agrees, FramesAgree, BytesAgree}
use Rattle.laws.proofs.Saying.{says_none, takes_none}
use Rattle.laws.proofs.Taking.{stays-refused, refused-place, fault-taken, place-all, ended-all, after-all}

-- ---- what stays

pub stays-over : {F : Type 0} (S : Summary F) (e : End F) (events : List (Event F)) →
    fold (hear S) (Over_at e) events ≡ Over_at e
stays-over S e [] = refl
stays-over S e (x ∷ events) = stays-over S e events

pub stays-told : {F : Type 0} (S : Summary F) (code : ℕ) (events : List (Event F)) →
    fold (hear S) (Peer_refused code) events ≡ Peer_refused code
stays-told S code [] = refl
stays-told S code (x ∷ events) = stays-told S code events

pub stays-stopped : {F : Type 0} (S : Summary F) (code : ℕ) (events : List (Event F)) →
    fold (hear S) (Refused_for code) events ≡ Refused_for code
stays-stopped S code [] = refl
stays-stopped S code (x ∷ events) = stays-stopped S code events

-- ---- stages

live-not-over : {F : Type 0} (s : Stage F) → is_live s ≡ true → is_over s ≡ false
live-not-over (Fresh cut) h = refl
live-not-over (Waits own) h = refl
live-not-over Over h = absurd cc
live-not-over Spent h = refl

pub over-not-live : {F : Type 0} (s : Stage F) → is_over s ≡ true → is_live s ≡ false
over-not-live (Fresh cut) h = absurd cc
over-not-live (Waits own) h = absurd cc
over-not-live Over h = refl
over-not-live Spent h = refl

-- an end that takes no messages calls for none
calls_none : {F : Type 0} (S : Summary F) (e : End F) (Ms : List (Message F)) → is_live e.stage ≡ false →
    calls S e Ms ≡ []
calls_none S e [] h = refl
calls_none {F} S e (M ∷ Ms) h = by e.stage h ∙ ap (λ d. calls S d Ms) (takes_none S e M h).1 ∙ calls_none S e Ms h where
  by : (s : Stage F) → is_live s ≡ false →
      called S (record e { stage = s }) M ++ calls S (after S e M) Ms ≡ calls S (after S e M) Ms
  by (Fresh cut) h = absurd cc
  by (Waits own) h = absurd cc
  by Over h = refl
  by Spent h = refl

-- ---- one message

pub after-live : {F : Type 0} (S : Summary F) (e : End F) (M : Message F) (a : Answer F) → is_live e.stage ≡ true →
    answer S e M ≡ a → after S e M ≡ after_answer e M a
after-live S e M a live is = ap (λ b. if b then after_answer e M (answer S e M) else e) live ∙ ap (after_answer e M) is

-- a message that is refused leaves the end spent
pub spent_by : {F : Type 0} (S : Summary F) (e : End F) (M : Message F) (rest : List (Message F)) (code : ℕ) →
    is_live e.stage ≡ true → answer S e M ≡ Refuses code →
    (is_over (heard S e (M ∷ rest)).stage ≡ false) × (answers S e (M ∷ rest) ≡ [])
    × (calls S e (M ∷ rest) ≡ called S e M)
spent_by S e M rest code live is =
    let ended = after-live S e M (Refuses code) live is in
    let dead = ap (λ d. is_live d.stage) ended in
    let none = says_none S (after S e M) rest dead in (
      ap (λ d. is_over d.stage) (none.1 ∙ ended),
      ap (λ a. replied a ++ answers S (after S e M) rest) is ∙ none.0,
      ap (λ l. called S e M ++ l) (calls_none S (after S e M) rest dead) ∙ append-nil (called S e M),
    )

-- what a refused message calls for
called-refused : {F : Type 0} (S : Summary F) (e : End F) (M : Message F) (code : ℕ) → answer S e M ≡ Refuses code →
    SaidBut [] (called S e M) code
called-refused {F} S e M code is = by (stage_fault e.stage M) is where
  long : (b c : Bool) → has_open M ≡ b → is_sendable (reply S e.peer M) ≡ c →
      (if b then (if c then Replies (reply S e.peer M) else Refuses too_many_parts) else Ends) ≡ Refuses code →
      SaidBut [] (if b then reply S e.peer M ∷ [] else []) code
  long false c o s h = absurd cc
  long true true o s h = absurd cc
  long true false o s h = let twelve : code ≡ too_many_parts = cc in inr (twelve, reply S e.peer M, s, refl)

  by : (o : Option ℕ) → answer_unless S e.peer M o ≡ Refuses code → SaidBut [] (called_unless S e.peer M o) code
  by (Some n) h = inl refl
  by None h = long (has_open M) (is_sendable (reply S e.peer M)) refl refl h

-- and one that is not refused: its reply
pub called-taken : {F : Type 0} (S : Summary F) (e : End F) (M : Message F) →
    ((code : ℕ) → answer S e M ≡ Refuses code → ⊥) → called S e M ≡ replied (answer S e M)
called-taken {F} S e M never = by (stage_fault e.stage M) never where
  sent : (b c : Bool) → ((code : ℕ) →
      (if b then (if c then Replies (reply S e.peer M) else Refuses too_many_parts) else Ends) ≡ Refuses code → ⊥) →
      (if b then reply S e.peer M ∷ [] else [])
      ≡ replied (if b then (if c then Replies (reply S e.peer M) else Refuses too_many_parts) else Ends)
  sent false c never = refl
  sent true true never = refl
  sent true false never = absurd (never too_many_parts refl)

  by : (o : Option ℕ) → ((code : ℕ) → answer_unless S e.peer M o ≡ Refuses code → ⊥) →
      called_unless S e.peer M o ≡ replied (answer_unless S e.peer M o)
  by (Some n) never = refl
  by None never = sent (has_open M) (is_sendable (reply S e.peer M)) never

-- ---- what agrees

-- one message more in front
agrees-more : {F : Type 0} (S : Summary F) (e : End F) (M : Message F) (Ms : List (Message F)) (h : Hearing F) →
    called S e M ≡ replied (answer S e M) → Agrees S (after S e M) Ms h → Agrees S e (M ∷ Ms) h
agrees-more S e M Ms (Goes_on f t) same a = (a.0, a.1, λ i. same i ++ a.2 i)
agrees-more S e M Ms (Over_at f) same a = (a.0, a.1, λ i. same i ++ a.2 i)
agrees-more S e M Ms (Peer_refused code) same a = (a.0, λ i. same i ++ a.1 i)
agrees-more S e M Ms (Refused_for code) same (over, inl b) = (over, inl (λ i. same i ++ b i))
agrees-more S e M Ms (Refused_for code) same (over, inr (twelve, N, long, is)) = (
  over,
  inr (
    twelve,
    N,
    long,
    (λ i. same i ++ is i) ∙ sym (append_assoc (replied (answer S e M)) (answers S (after S e M) Ms) (N ∷ [])),
  ),
)

-- the messages that begin with these parts: none, or the first does
pub first-begins : {F : Type 0} (ps : Message F) (events : List (Event F)) →
    (messages_of ps events ≡ [])
    ⊎ ((more : Message F) × (rest : List (Message F)) × (messages_of ps events ≡ (ps ++ more) ∷ rest))
first-begins ps [] = inl refl
first-begins ps (Failed code ∷ events) = inl refl
first-begins {F} ps (Ended ∷ events) =
    inr ([], messages_of [] events, ap (λ (M : Message F). M ∷ messages_of [] events) (sym (append-nil ps)))
first-begins {F} ps (Came p ∷ events) = by (first-begins (ps ++ p ∷ []) events) where
  by : (messages_of (ps ++ p ∷ []) events ≡ []) ⊎ ((more : Message F) × (rest : List (Message F))
      × (messages_of (ps ++ p ∷ []) events ≡ ((ps ++ p ∷ []) ++ more) ∷ rest)) →
      (messages_of (ps ++ p ∷ []) events ≡ [])
      ⊎ ((more : Message F) × (rest : List (Message F)) × (messages_of (ps ++ p ∷ []) events ≡ (ps ++ more) ∷ rest))
  by (inl none) = inl none
  by (inr (more, rest, is)) =
      inr (p ∷ more, rest, is ∙ ap (λ (M : Message F). M ∷ rest) (append_assoc ps (p ∷ []) more))

-- a part that is refused: no whole message that has it is answered
part-refused : {F : Type 0} (S : Summary F) (e : End F) (ps : Message F) (code : ℕ) (Ms : List (Message F)) →
    is_live e.stage ≡ true → refusal (fold next (place_of e.stage) ps) ≡ Some code →
    (Ms ≡ []) ⊎ ((more : Message F) × (rest : List (Message F)) × (Ms ≡ (ps ++ more) ∷ rest)) →
    Agrees S e Ms (Refused_for code)
part-refused S e ps code Ms live h (inl none) =
    subst (λ l. Agrees S e l (Refused_for code)) (sym none) (live-not-over e.stage live, inl refl)
part-refused {F} S e ps code Ms live h (inr (more, rest, is)) =
    let M : Message F = ps ++ more in
    let at = fold-append next (place_of e.stage) ps more
    ∙ ap (λ x. fold next x more) (refused-place (fold next (place_of e.stage) ps) code h) ∙ stays-refused code more in
    let fault : stage_fault e.stage M ≡ Some code = sym (fault-taken e.stage M) ∙ ap finish at in
    let refuses : answer S e M ≡ Refuses code = ap (answer_unless S e.peer M) fault in
    let b = spent_by S e M rest code live refuses in
    let none : called S e M ≡ [] = ap (called_unless S e.peer M) fault in
    subst (λ l. Agrees S e l (Refused_for code)) (sym is) (b.0, inl (b.2 ∙ none ∙ sym b.1))

-- ---- a part came

part-heard : {F : Type 0} (S : Summary F) (e : End F) (ps : Message F) (p : Part F) (events : List (Event F)) →
    is_live e.stage ≡ true →
    Agrees S e (messages_of (ps ++ p ∷ []) events) (fold (hear S) (Goes_on e (taken_all S e (ps ++ p ∷ []))) events) →
    Agrees S e (messages_of (ps ++ p ∷ []) events) (fold (hear S) (Goes_on e (taken_all S e ps)) (Came p ∷ events))
part-heard {F} S e ps p events live later = by (refusal (next (taken_all S e ps).place p)) refl where
  t : Taken F
  t = taken_all S e ps

  by : (o : Option ℕ) → refusal (next t.place p) ≡ o →
      Agrees S e (messages_of (ps ++ p ∷ []) events) (fold (hear S) (goes_unless o (Goes_on e (taken S e t p))) events)
  by None h =
      subst (λ u. Agrees S e (messages_of (ps ++ p ∷ []) events) (fold (hear S) (Goes_on e u) events))
      (fold-append (taken S e) (nothing_taken e) ps (p ∷ [])) later
  by (Some code) h =
      let place : fold next (place_of e.stage) (ps ++ p ∷ []) ≡ next t.place p =
      fold-append next (place_of e.stage) ps (p ∷ []) ∙ ap (λ x. next x p) (sym (place-all S e ps)) in
      subst (Agrees S e (messages_of (ps ++ p ∷ []) events)) (sym (stays-stopped S code events))
      (part-refused S e (ps ++ p ∷ []) code (messages_of (ps ++ p ∷ []) events) live (ap refusal place ∙ h)
      (first-begins (ps ++ p ∷ []) events))

-- ---- a message ended

-- an end that is neither over nor refused takes messages
pub still-live : {F : Type 0} (e : End F) (M : Message F) (a : Answer F) → ((code : ℕ) → a ≡ Refuses code → ⊥) →
    is_over (after_answer e M a).stage ≡ false → is_live (after_answer e M a).stage ≡ true
still-live e M (Replies N) never over =
    cond_both (has_open N) (Waits (open_parts N)) Over (λ s. is_over s ≡ false → is_live s ≡ true) (λ o h. refl)
    (λ o h. absurd cc) over
still-live e M Ends never over = absurd cc
still-live e M (Refuses code) never over = absurd (never code refl)

-- the end after a message that was not refused
message-taken : {F : Type 0} (S : Summary F) (e : End F) (ps : Message F) (events : List (Event F)) (f : End F) →
    after S e ps ≡ f → called S e ps ≡ replied (answer S e ps) → (is_over f.stage ≡ false → is_live f.stage ≡ true) →
    ((d : End F) → is_live d.stage ≡ true →
    Agrees S d (messages_of [] events) (fold (hear S) (Goes_on d (nothing_taken d)) events)) →
    Agrees S e (ps ∷ messages_of [] events) (fold (hear S) (stands_at f) events)
message-taken {F} S e ps events f is same live later =
    agrees-more S e ps (messages_of [] events) (fold (hear S) (stands_at f) events) same
    (subst (λ d. Agrees S d (messages_of [] events) (fold (hear S) (stands_at f) events)) (sym is) at) where
      at : Agrees S f (messages_of [] events) (fold (hear S) (stands_at f) events)
      at = cond_both (is_over f.stage) (Over_at f) (Goes_on f (nothing_taken f))
          (λ h. Agrees S f (messages_of [] events) (fold (hear S) h events))
          (λ over.
          let dead = over-not-live f.stage over in
          let none = says_none S f (messages_of [] events) dead in
          subst (Agrees S f (messages_of [] events)) (sym (stays-over S f events))
          (sym none.1, over, calls_none S f (messages_of [] events) dead ∙ sym none.0))
          (λ goes. later f (live goes))

message-heard : {F : Type 0} (S : Summary F) (e : End F) (ps : Message F) (events : List (Event F)) →
    is_live e.stage ≡ true →
    ((d : End F) → is_live d.stage ≡ true →
    Agrees S d (messages_of [] events) (fold (hear S) (Goes_on d (nothing_taken d)) events)) →
    Agrees S e (ps ∷ messages_of [] events)
    (fold (hear S) (ended_by e (taken_all S e ps) (ended (taken_all S e ps))) events)
message-heard {F} S e ps events live later =
    subst (λ a. Agrees S e (ps ∷ messages_of [] events) (fold (hear S) (ended_by e (taken_all S e ps) a) events))
    (sym (ended-all S e ps)) (by (answer S e ps) refl) where
      taken_by : (a : Answer F) → answer S e ps ≡ a →
          ((code : ℕ) → a ≡ Refuses code → ⊥) → Agrees S e (ps ∷ messages_of [] events)
          (fold (hear S) (stands_at (after_ended e (taken_all S e ps) a)) events)
      taken_by a is never =
          let ended : after_ended e (taken_all S e ps) a ≡ after_answer e ps a = after-all S e ps a in
          message-taken S e ps events (after_ended e (taken_all S e ps) a) (after-live S e ps a live is ∙ sym ended)
          (called-taken S e ps (λ code r. never code (sym is ∙ r)))
          (subst (λ d. is_over d.stage ≡ false → is_live d.stage ≡ true) (sym ended) (still-live e ps a never)) later

      by : (a : Answer F) → answer S e ps ≡ a →
          Agrees S e (ps ∷ messages_of [] events) (fold (hear S) (ended_by e (taken_all S e ps) a) events)
      by (Replies N) is = taken_by (Replies N) is (λ code h. cc)
      by Ends is = taken_by Ends is (λ code h. cc)
      by (Refuses code) is =
          let b = spent_by S e ps (messages_of [] events) code live is in
          subst (Agrees S e (ps ∷ messages_of [] events)) (sym (stays-stopped S code events)) (
            b.0,
            subst (λ l. SaidBut l (calls S e (ps ∷ messages_of [] events)) code) (sym b.1)
                (subst (λ l. SaidBut [] l code) (sym b.2) (called-refused S e ps code is)),
          )

-- ---- all events

agrees : {F : Type 0} (S : Summary F) (e : End F) (ps : Message F) (events : List (Event F)) → is_live e.stage ≡ true →
    Agrees S e (messages_of ps events) (fold (hear S) (Goes_on e (taken_all S e ps)) events)
agrees S e ps [] live = (refl, live, refl)
agrees S e ps (Came p ∷ events) live = part-heard S e ps p events live (agrees S e (ps ++ p ∷ []) events live)
agrees S e ps (Ended ∷ events) live = message-heard S e ps events live (λ d l. agrees S d [] events l)
agrees S e ps (Failed code ∷ events) live =
    subst (Agrees S e []) (sym (stays-told S code events)) (live-not-over e.stage live, refl)

pub frames_agree : {F : Type 0} (S : Summary F) → FramesAgree S
frames_agree S e events live = agrees S e [] events live

-- ---- bytes

-- a stop keeps the rest
stopped : {F : Type 0} (e : End F) (said called : List (Message F)) (code : ℕ) (f : End F) (t : Taken F) →
    AgreesBy e said called (Goes_on f t) → AgreesBy e said called (Refused_for code)
stopped {F} e said called code f t a =
    (ap (λ (d : End F). is_over d.stage) (sym a.0) ∙ live-not-over f.stage a.1, inl a.2)

at-wire : {F : Type 0} (e : End F) (said called : List (Message F)) (to : Standing) (h : Hearing F) →
    AgreesBy e said called h → AgreesBy e said called (stop_at to h)
at-wire e said called Before_hello (Goes_on f t) a = a
at-wire e said called (In_message parts) (Goes_on f t) a = a
at-wire e said called Meaning_over (Goes_on f t) a = a
at-wire e said called (Faulted code) (Goes_on f t) a = stopped e said called code f t a
at-wire e said called to (Over_at f) a = a
at-wire e said called to (Peer_refused code) a = a
at-wire e said called to (Refused_for code) a = a

at-end : {F : Type 0} (e : End F) (said called : List (Message F)) (over : Bool) (h : Hearing F) →
    AgreesBy e said called h → AgreesBy e said called (with_end over h)
at-end e said called true (Goes_on f t) a = stopped e said called _ f t a
at-end e said called false (Goes_on f t) a = a
at-end e said called over (Over_at f) a = a
at-end e said called over (Peer_refused code) a = a
at-end e said called over (Refused_for code) a = a

-- with what is said first
in-front : {F : Type 0} (e : End F) (first said called : List (Message F)) (h : Hearing F) → AgreesBy e said called h →
    AgreesBy e (first ++ said) (first ++ called) h
in-front e first said called (Goes_on f t) a = (a.0, a.1, ap (λ l. first ++ l) a.2)
in-front e first said called (Over_at f) a = (a.0, a.1, ap (λ l. first ++ l) a.2)
in-front e first said called (Peer_refused code) a = (a.0, ap (λ l. first ++ l) a.1)
in-front e first said called (Refused_for code) (over, inl b) = (over, inl (ap (λ l. first ++ l) b))
in-front e first said called (Refused_for code) (over, inr (twelve, N, long, is)) =
    (over, inr (twelve, N, long, ap (λ l. first ++ l) is ∙ sym (append_assoc first said (N ∷ []))))

pub bytes_agree : {F : Type 0} (S : Summary F) (P : Profile F) → BytesAgree S P
bytes_agree {F} S P s over bytes live =
    let fed : Fed F = feed P Before_hello bytes in
    let Ms = messages_of [] fed.events in
    let e = session S s Ms in
    let h = hears S s fed.events in
    in-front e s.first (answers S s.start Ms) (calls S s.start Ms) (with_end over (stop_at fed.to h))
    (at-end e (answers S s.start Ms) (calls S s.start Ms) over (stop_at fed.to h)
    (at-wire e (answers S s.start Ms) (calls S s.start Ms) fed.to h (frames_agree S s.start fed.events live)))
