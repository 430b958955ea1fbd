-- What pushed bytes, and their end, make of all that a session says of the bytes so far.
--
-- While it goes on, the events of the bytes pushed were all heard, and what was taken with what is due is the text of
-- all that is said to them. A piece that completes no event changes neither; an event adds its reply. Where an event or
-- a fault of the stream stops the session, the laws say that whatever comes later counts no more.
--
-- What is counted goes along: a piece that completes no event adds its length, and an event begins the bytes anew. What
-- is said to an event comes after all that was to be said (`laid-on` of Writing).
use Rattle.std.proofs.Common.{◌≡◌, ℕ, Bool, true, false, List, [], ◌∷◌, ◌++◌, length}
use Rattle.std.proofs.Common.{flat_map, Option, Some, None, IsTrue, inl, inr, refl, sym, ap, ◌∙◌, subst, append_assoc}
use Rattle.std.proofs.Common.{append-nil}
use Rattle.std.specs.Prelude.{if◌then◌else◌}
use Rattle.std.proofs.Common.{◌+◌, length-append, arith}
use Rattle.std.proofs.lemmas.Grind.{flat_map-append}
use Rattle.definitions.specs.Fingerprints.{Summary}
use Rattle.definitions.specs.Items.{IsBytes}
use Rattle.definitions.specs.Messages.{Message}
use Rattle.definitions.specs.Refusals.{truncated}
use Rattle.definitions.specs.Wire.{Profile, message_text, session_text, fault_text, Event}
use Rattle.definitions.specs.Taking.{taken}
use Rattle.definitions.specs.Streams.{Standing, Before_hello, Faulted, Fed, feed}
use Rattle.definitions.specs.Ends.{End, is_live, is_over}
use Rattle.definitions.specs.Engines.{Speaker, says, own, session, messages_in}
use Rattle.definitions.specs.Hearing.{Hearing, Goes_on, Over_at, hears, hearing_to}
use Rattle.laws.specs.Hearing.{has_stopped, AgreesBy}
use Rattle.laws.specs.Parts.{joined}
use Rattle.laws.proofs.Fields.{IsBytes-both}
use Rattle.wire_core.specs.Feeds.{StreamState, Holds, fed_into, fault_at}
use Rattle.ends_core.specs.EndStates.{EndState}
use Rattle.session_core.specs.declared.state.State.{State}
use Rattle.session_core.specs.declared.state.State.TheVariants as states
use Rattle.session_core.specs.Sessions.{TalkState, SessionState, is_open, frame_of, frame_due, due, refused_by}
use Rattle.wire_core.specs.Events.{event_value}
use Rattle.wire_core.specs.declared.event.Event as declared
use Rattle.session_core.specs.Sessions.{HearsIf, IsFed, IsBegun, begun_after}
use Rattle.session_core.specs.Laws.{Laws}
use Rattle.ends_core.specs.Sizes.{plus}
use Rattle.session_core.specs.Outboxes.{outbox_state}
use Rattle.session_core.specs.Written.{IsLaid}
use Rattle.session_core.specs.Sessions.{finished, hearing_at, said_by, Hears}
use Rattle.ends_core.specs.Sides.{said_to}
use Rattle.session_core.specs.Sessions.{IsEnd, Tells, Goes, Lasts, Stays, GoesOn, Knows, Pushes}
use Rattle.ends_core.specs.Sides.{session_at}
use Rattle.session_core.proofs.Heard.{so_far, events_in, hearing-on, hearing-fault, said-of}
use Rattle.session_core.proofs.Writing.{laid-on, laid-same}
use Rattle.session_core.proofs.Standings.{closed-stops, no-frame, no-frame-yet, open-hears, fault-is, regroup}

module _ {F : Type 0} (S : Summary F) (W : Profile F) where
  -- ---- the stream

  pub holds-on : Laws S W → (f g : StreamState) (bytes piece : List ℕ) (es new : List (Event F)) →
      IsBytes bytes → IsBytes piece →
      Holds W f bytes es → feed W f.standing (f.kept ++ piece) ≡ fed_into new g →
      Holds W g (bytes ++ piece) (es ++ new)
  holds-on laws f g bytes piece es new fits more holds step =
      laws.join Before_hello bytes piece fits more
      ∙ ap (λ (a : Fed F). joined a (feed W a.to (a.kept ++ piece))) holds
      ∙ ap (λ (b : Fed F). joined (fed_into es f) b) step

  -- the same of a piece that completes no event
  holds-same : Laws S W → (f g : StreamState) (bytes piece : List ℕ) (es : List (Event F)) → IsBytes bytes →
      IsBytes piece → Holds W f bytes es → feed W f.standing (f.kept ++ piece) ≡ fed_into [] g →
      Holds W g (bytes ++ piece) es
  holds-same laws f g bytes piece es fits more holds step =
      subst (Holds W g (bytes ++ piece)) (append-nil es) (holds-on laws f g bytes piece es [] fits more holds step)

  said-same : (s : Speaker F) (f g : StreamState) (bytes more : List ℕ) (es : List (Event F)) → Holds W f bytes es →
      Holds W g more es → said_to S W s more ≡ said_to S W s bytes
  said-same s f g bytes more es holds now =
      said-of S W s more es (ap (λ (a : Fed F). a.events) now)
      ∙ sym (said-of S W s bytes es (ap (λ (a : Fed F). a.events) holds))

  -- ---- what a session that goes on, or has stopped, says

  abbrev Text : Speaker F → SessionState F → List ℕ → List ℕ → Type 0
  Text s c pushed taken =
      taken ++ due W c.talk ≡ session_text W (said_to S W s pushed) ++ frame_of c.talk.state

  -- the end is the one that the messages make
  end-of : Laws S W → (s : Speaker F) (over : Bool) (bytes : List ℕ) (x : State) (h : EndState F) →
      is_live s.start.stage ≡ true → hearing_to S W s over bytes ≡ hearing_at x h →
      IsEnd S W x h.end (session_at S W s bytes)
  end-of laws s over bytes x h live heard = by x heard where
    Ms : List (Message F)
    Ms = messages_in W bytes

    Agreed : Hearing F → Type 0
    Agreed y = AgreesBy (session S s Ms) (says S s Ms) (own S s Ms) y

    by : (x : State) → hearing_to S W s over bytes ≡ hearing_at x h → IsEnd S W x h.end (session S s Ms)
    by states.Open heard =
        let agreed : Agreed (Goes_on h.end h.taken) = subst Agreed heard (laws.agree s over bytes live) in
        (agreed.0, subst (λ (e : End F). IsTrue (is_live e.stage)) agreed.0 agreed.1)
    by states.Ended heard =
        let agreed : Agreed (Over_at h.end) = subst Agreed heard (laws.agree s over bytes live) in
        (agreed.0, subst (λ (e : End F). IsTrue (is_over e.stage)) agreed.0 agreed.1)
    by (states.Refused code) heard = tt
    by (states.PeerRefused code) heard = tt

  -- how many messages are said, and where they are
  abbrev Said : Speaker F → SessionState F → List ℕ → List ℕ → Type 0
  Said s c pushed taken =
      (c.talk.held.end.sent ≡ length (said_to S W s pushed))
      × IsLaid W (said_to S W s pushed) (length taken) c.talk.outbox

  -- nothing is said, and what was said stays
  said-still : (s : Speaker F) (c d : SessionState F) (pushed more taken : List ℕ) →
      said_to S W s more ≡ said_to S W s pushed → d.talk.held.end.sent ≡ c.talk.held.end.sent →
      d.talk.outbox ≡ c.talk.outbox → Knows S W s c pushed taken → Said s d more taken
  said-still s c d pushed more taken same sent outbox k = (
    sent ∙ k.tells.sent ∙ ap (λ (l : List (Message F)). length l) (sym same),
    laid-same W (said_to S W s pushed) (said_to S W s more) (length taken) c.talk.outbox d.talk.outbox same outbox
        k.tells.laid,
  )

  told : Laws S W → (s : Speaker F) (c : SessionState F) (pushed taken : List ℕ) → is_live s.start.stage ≡ true →
      hearing_to S W s c.over pushed ≡ hearing_at c.talk.state c.talk.held → Text s c pushed taken →
      Said s c pushed taken → Tells S W s c pushed taken
  told laws s c pushed taken live heard text (sent, laid) = record {
    heard = heard;
    end = end-of laws s c.over pushed c.talk.state c.talk.held live heard;
    text = text;
    sent = sent;
    laid = laid;
  }

  pub knows-open : Laws S W → (s : Speaker F) (c : SessionState F) (pushed taken : List ℕ) →
      is_live s.start.stage ≡ true → IsBytes pushed → is_open c.talk.state ≡ true → Goes S W s c pushed →
      Text s c pushed taken → Said s c pushed taken → Knows S W s c pushed taken
  knows-open laws s c pushed taken live fits is goes text said =
      let heard = ap (λ (over : Bool). hearing_to S W s over pushed) goes.listens
      ∙ hearing-on S W s false c.feed pushed goes.events c.talk.held.end c.talk.held.taken goes.holds goes.heard
      goes.fine
      ∙ sym (open-hears c.talk.state c.talk.held is) in
      record {
        are_bytes = fits;
        tells = told laws s c pushed taken live heard text said;
        goes_on = subst (λ (b : Bool). GoesOn S W b s c pushed) (sym is) goes;
      }

  pub knows-closed : Laws S W → (s : Speaker F) (c : SessionState F) (pushed taken : List ℕ) →
      is_live s.start.stage ≡ true → IsBytes pushed → is_open c.talk.state ≡ false →
      Lasts S W s c.talk pushed → Text s c pushed taken → Said s c pushed taken → Knows S W s c pushed taken
  knows-closed laws s c pushed taken live fits closed lasts text said =
      let heard = ap (λ (l : List ℕ). hearing_to S W s c.over l) (sym (append-nil pushed))
      ∙ (lasts [] c.over tt).0 in
      record {
        are_bytes = fits;
        tells = told laws s c pushed taken live heard text said;
        goes_on = subst (λ (b : Bool). GoesOn S W b s c pushed) (sym closed) (inr lasts);
      }

  -- ---- what is known of it

  pub goes-of : (s : Speaker F) (c : SessionState F) (pushed taken : List ℕ) → is_open c.talk.state ≡ true →
      Knows S W s c pushed taken → Goes S W s c pushed
  goes-of s c pushed taken goes k = subst (λ (b : Bool). GoesOn S W b s c pushed) goes k.goes_on

  stays-of : (s : Speaker F) (c : SessionState F) (pushed taken : List ℕ) → is_open c.talk.state ≡ false →
      Knows S W s c pushed taken → Stays S W s c pushed
  stays-of s c pushed taken closed k = subst (λ (b : Bool). GoesOn S W b s c pushed) closed k.goes_on

  text-of : (s : Speaker F) (c : SessionState F) (pushed taken : List ℕ) → is_open c.talk.state ≡ true →
      Knows S W s c pushed taken → taken ++ due W c.talk ≡ session_text W (said_to S W s pushed)
  text-of s c pushed taken goes k =
      k.tells.text ∙ ap (λ (l : List ℕ). session_text W (said_to S W s pushed) ++ l) (no-frame-yet c.talk.state goes)
      ∙ append-nil (session_text W (said_to S W s pushed))

  -- ---- what is counted

  -- a piece that completes no frame
  begun-more : (n : ℕ) (pushed piece : List ℕ) (events : List (Event F)) → IsBegun W n pushed events →
      IsBegun W (plus n (length piece)) (pushed ++ piece) events
  begun-more n pushed piece events b = record {
    front = b.front;
    back = b.back ++ piece;
    split = ap (λ (l : List ℕ). l ++ piece) b.split ∙ append_assoc b.front b.back piece;
    after = b.after;
    whole = b.whole;
    counted = omega (arith, b.counted, length-append b.back piece);
  }

  -- the end of a frame
  begun-whole : (f : StreamState) (pushed : List ℕ) (events : List (Event F)) → Holds W f pushed events →
      f.kept ≡ [] → IsBegun W 0 pushed events
  begun-whole f pushed events holds none = record {
    front = pushed;
    back = [];
    split = sym (append-nil pushed);
    after = f;
    whole = (holds, none);
    counted = omega arith;
  }

  -- ---- a piece that completes no event

  pub quiet : Laws S W → (s : Speaker F) (c d : SessionState F) (piece pushed taken : List ℕ) →
      is_live s.start.stage ≡ true → is_open c.talk.state ≡ true → IsBytes piece →
      d.talk ≡ c.talk → d.over ≡ c.over → d.begun ≡ plus c.begun (length piece) →
      feed W c.feed.standing (c.feed.kept ++ piece) ≡ fed_into [] d.feed → fault_at d.feed.standing ≡ None →
      Knows S W s c pushed taken → Knows S W s d (pushed ++ piece) taken
  quiet laws s c d piece pushed taken live goes more talk over begun step fine k =
      knows-open laws s d (pushed ++ piece) taken live (IsBytes-both pushed piece k.are_bytes more)
      (ap (λ (t : TalkState F). is_open t.state) talk ∙ goes)
      (record {
        events = g.events;
        holds = on;
        heard = g.heard ∙ ap (λ (t : TalkState F). Goes_on t.held.end t.held.taken) (sym talk);
        fine = fine;
        listens = over ∙ g.listens;
        begun = subst (λ (n : ℕ). IsBegun W n (pushed ++ piece) g.events) (sym begun)
            (begun-more c.begun pushed piece g.events g.begun);
      })
      (ap (λ (t : TalkState F). taken ++ due W t) talk
      ∙ text-of s c pushed taken goes k
      ∙ ap (λ (l : List (Message F)). session_text W l) (sym same)
      ∙ sym (append-nil (session_text W (said_to S W s (pushed ++ piece))))
      ∙ ap (λ (l : List ℕ). session_text W (said_to S W s (pushed ++ piece)) ++ l)
      (sym (no-frame-yet d.talk.state (ap (λ (t : TalkState F). is_open t.state) talk ∙ goes))))
      (said-still s c d pushed (pushed ++ piece) taken same (ap (λ (t : TalkState F). t.held.end.sent) talk)
      (ap (λ (t : TalkState F). t.outbox) talk) k) where
        g : Goes S W s c pushed
        g = goes-of s c pushed taken goes k

        on : Holds W d.feed (pushed ++ piece) g.events
        on = holds-same laws c.feed d.feed pushed piece g.events k.are_bytes more g.holds step

        same : said_to S W s (pushed ++ piece) ≡ said_to S W s pushed
        same = said-same s c.feed d.feed pushed (pushed ++ piece) g.events g.holds on

  -- ---- an event

  pub one-event : Laws S W → (s : Speaker F) (c d : SessionState F) (e : Event F) (piece pushed taken : List ℕ) →
      is_live s.start.stage ≡ true → is_open c.talk.state ≡ true → IsBytes piece →
      Hears S W c.talk e d.talk → d.over ≡ c.over → d.begun ≡ 0 →
      feed W c.feed.standing (c.feed.kept ++ piece) ≡ fed_into (e ∷ []) d.feed → fault_at d.feed.standing ≡ None →
      d.feed.kept ≡ [] → Knows S W s c pushed taken → Knows S W s d (pushed ++ piece) taken
  one-event laws s c d e piece pushed taken live goes more heard over begun step fine none k =
      by (is_open d.talk.state) refl where
        g : Goes S W s c pushed
        g = goes-of s c pushed taken goes k

        es : List (Event F)
        es = g.events ++ e ∷ []

        fits : IsBytes (pushed ++ piece)
        fits = IsBytes-both pushed piece k.are_bytes more

        on : Holds W d.feed (pushed ++ piece) es
        on = holds-on laws c.feed d.feed pushed piece g.events (e ∷ []) k.are_bytes more g.holds step

        before : said_to S W s pushed ≡ so_far S W s g.events
        before = said-of S W s pushed g.events (ap (λ (f : Fed F). f.events) g.holds)

        now : said_to S W s (pushed ++ piece) ≡ said_to S W s pushed ++ said_by c.talk.held e
        now = said-of S W s (pushed ++ piece) es (ap (λ (f : Fed F). f.events) on)
            ∙ laws.go_on.says_next s g.events c.talk.held.end c.talk.held.taken e live g.heard
            ∙ ap (λ (l : List (Message F)). l ++ said_by c.talk.held e) (sym before)

        hears-all : hears S s es ≡ hearing_at d.talk.state d.talk.held
        hears-all =
            laws.go_on.hears_next s g.events c.talk.held.end c.talk.held.taken e g.heard ∙ sym heard.heard

        text : Text s d (pushed ++ piece) taken
        text =
            let f = message_text W in
            let said = said_to S W s pushed in
            let new = said_by c.talk.held e in
            ap (λ (l : List ℕ). taken ++ l) heard.due_then
            ∙ sym (append_assoc taken (due W c.talk) (flat_map f new ++ frame_of d.talk.state))
            ∙ ap (λ (l : List ℕ). l ++ (flat_map f new ++ frame_of d.talk.state)) (text-of s c pushed taken goes k)
            ∙ regroup W.hello (flat_map f said) (flat_map f new) (frame_of d.talk.state)
            ∙ ap (λ (l : List ℕ). (W.hello ++ l) ++ frame_of d.talk.state) (sym (flat_map-append f said new))
            ∙ ap (λ (l : List (Message F)). session_text W l ++ frame_of d.talk.state) (sym now)

        -- all text of what was said, before the event
        lengths : length taken + (length c.talk.outbox.ready + length (flat_map (message_text W) c.talk.outbox.later))
            ≡ length (session_text W (said_to S W s pushed))
        lengths =
            let o = c.talk.outbox in
            let texts = flat_map (message_text W) o.later in
            let none = frame_due c.talk.state c.talk.told in
            omega (
              arith,
              ap (λ (l : List ℕ). length l) (text-of s c pushed taken goes k),
              length-append taken (due W c.talk),
              length-append o.ready (texts ++ none),
              length-append texts none,
              ap (λ (l : List ℕ). length l) (no-frame c.talk.state c.talk.told goes),
            )

        said : Said s d (pushed ++ piece) taken
        said =
            let old = said_to S W s pushed in
            let new = said_by c.talk.held e in (
              heard.sent ∙ ap (λ (n : ℕ). n + length new) k.tells.sent ∙ sym (length-append old new)
                  ∙ ap (λ (l : List (Message F)). length l) (sym now),
              laid-same W (old ++ new) (said_to S W s (pushed ++ piece)) (length taken)
                  (outbox_state c.talk.outbox.ready c.talk.outbox.ends (c.talk.outbox.later ++ new)) d.talk.outbox now
                  heard.later (laid-on W old new (length taken) c.talk.outbox lengths k.tells.laid),
            )

        lasts : is_open d.talk.state ≡ false → Lasts S W s d.talk (pushed ++ piece)
        lasts closed later end bytes =
            let rest = (feed W d.feed.standing (d.feed.kept ++ later)).events in
            let all : events_in S W ((pushed ++ piece) ++ later) ≡ es ++ rest =
            ap (λ (f : Fed F). f.events) (laws.join Before_hello (pushed ++ piece) later fits bytes
            ∙ ap (λ (a : Fed F). joined a (feed W a.to (a.kept ++ later))) on) in
            let stop = closed-stops d.talk.state d.talk.held closed in (
              laws.go_on.hears_no_more W s end ((pushed ++ piece) ++ later) es rest all
                  (ap has_stopped hears-all ∙ stop) ∙ hears-all,
              said-of S W s ((pushed ++ piece) ++ later) (es ++ rest) all
                  ∙ laws.go_on.says_no_more s es rest live (ap has_stopped hears-all ∙ stop)
                  ∙ sym (said-of S W s (pushed ++ piece) es (ap (λ (f : Fed F). f.events) on)),
            )

        by : (b : Bool) → is_open d.talk.state ≡ b → Knows S W s d (pushed ++ piece) taken
        by true still = knows-open laws s d (pushed ++ piece) taken live fits still
            (record {
              events = es;
              holds = on;
              heard = hears-all ∙ open-hears d.talk.state d.talk.held still;
              fine = fine;
              listens = over ∙ g.listens;
              begun = subst (λ (n : ℕ). IsBegun W n (pushed ++ piece) es) (sym begun)
                  (begun-whole d.feed (pushed ++ piece) es on none);
            })
            text said
        by false closed = knows-closed laws s d (pushed ++ piece) taken live fits closed (lasts closed) text said

  -- ---- a fault of the stream

  -- this side refuses, and a fault frame is due
  refused-due : (t : TalkState F) (code : ℕ) → is_open t.state ≡ true →
      due W (refused_by t code) ≡ due W t ++ fault_text code
  refused-due t code goes =
      let f = message_text W in
      let texts = flat_map f t.outbox.later in
      sym (ap (λ (l : List ℕ). (t.outbox.ready ++ (texts ++ l)) ++ fault_text code) (no-frame t.state t.told goes)
      ∙ ap (λ (l : List ℕ). (t.outbox.ready ++ l) ++ fault_text code) (append-nil texts)
      ∙ append_assoc t.outbox.ready texts (fault_text code))

  refused-text : (s : Speaker F) (c d : SessionState F) (code : ℕ) (pushed more taken : List ℕ) →
      is_open c.talk.state ≡ true → d.talk ≡ refused_by c.talk code → said_to S W s more ≡ said_to S W s pushed →
      Knows S W s c pushed taken → Text s d more taken
  refused-text s c d code pushed more taken goes talk same k =
      ap (λ (t : TalkState F). taken ++ due W t) talk
      ∙ ap (λ (l : List ℕ). taken ++ l) (refused-due c.talk code goes)
      ∙ sym (append_assoc taken (due W c.talk) (fault_text code))
      ∙ ap (λ (l : List ℕ). l ++ fault_text code) (text-of s c pushed taken goes k)
      ∙ ap (λ (l : List (Message F)). session_text W l ++ fault_text code) (sym same)
      ∙ ap (λ (t : TalkState F). session_text W (said_to S W s more) ++ frame_of t.state) (sym talk)

  pub faulty : Laws S W → (s : Speaker F) (c d : SessionState F) (code : ℕ) (piece pushed taken : List ℕ) →
      is_live s.start.stage ≡ true → is_open c.talk.state ≡ true → IsBytes piece →
      d.talk ≡ refused_by c.talk code → d.over ≡ c.over →
      feed W c.feed.standing (c.feed.kept ++ piece) ≡ fed_into [] d.feed → Some code ≡ fault_at d.feed.standing →
      Knows S W s c pushed taken → Knows S W s d (pushed ++ piece) taken
  faulty laws s c d code piece pushed taken live goes more talk over step fault k =
      knows-closed laws s d (pushed ++ piece) taken live fits (ap (λ (t : TalkState F). is_open t.state) talk) lasts
      (refused-text s c d code pushed (pushed ++ piece) taken goes talk same k)
      (said-still s c d pushed (pushed ++ piece) taken same (ap (λ (t : TalkState F). t.held.end.sent) talk)
      (ap (λ (t : TalkState F). t.outbox) talk) k) where
        g : Goes S W s c pushed
        g = goes-of s c pushed taken goes k

        fits : IsBytes (pushed ++ piece)
        fits = IsBytes-both pushed piece k.are_bytes more

        at : d.feed.standing ≡ Faulted code
        at = fault-is d.feed.standing code fault

        on : Holds W d.feed (pushed ++ piece) g.events
        on = holds-same laws c.feed d.feed pushed piece g.events k.are_bytes more g.holds step

        same : said_to S W s (pushed ++ piece) ≡ said_to S W s pushed
        same = said-same s c.feed d.feed pushed (pushed ++ piece) g.events g.holds on

        lasts : Lasts S W s d.talk (pushed ++ piece)
        lasts later end bytes =
            let after = ap (λ (to : Standing). feed W to (d.feed.kept ++ later)) at in
            let whole = laws.join Before_hello (pushed ++ piece) later fits bytes
            ∙ ap (λ (a : Fed F). joined a (feed W a.to (a.kept ++ later))) on
            ∙ ap (λ (b : Fed F). joined (fed_into g.events d.feed) b) after in
            let all : events_in S W ((pushed ++ piece) ++ later) ≡ g.events =
            ap (λ (f : Fed F). f.events) whole ∙ append-nil g.events in (
              hearing-fault S W s end ((pushed ++ piece) ++ later) g.events c.talk.held.end c.talk.held.taken code all
                  (ap (λ (f : Fed F). f.to) whole) g.heard
                  ∙ ap (λ (t : TalkState F). hearing_at t.state t.held) (sym talk),
              said-of S W s ((pushed ++ piece) ++ later) g.events all
                  ∙ sym (said-of S W s (pushed ++ piece) g.events (ap (λ (f : Fed F). f.events) on)),
            )

  -- ---- what comes later

  pub later : Laws S W → (s : Speaker F) (c : SessionState F) (more pushed taken : List ℕ) →
      is_live s.start.stage ≡ true → is_open c.talk.state ≡ false → c.over ≡ false → IsBytes more →
      Knows S W s c pushed taken → Knows S W s c (pushed ++ more) taken
  later laws s c more pushed taken live closed listens bytes k =
      by (stays-of s c pushed taken closed k) where
        by : Stays S W s c pushed → Knows S W s c (pushed ++ more) taken
        by (inl over) = let wrong = sym over ∙ listens in absurd cc
        by (inr lasts) = knows-closed laws s c (pushed ++ more) taken live (IsBytes-both pushed more k.are_bytes bytes)
            closed
            (λ rest end are.
            let both = IsBytes-both more rest bytes are in
            let one = lasts (more ++ rest) end both in
            let assoc = append_assoc pushed more rest in (
              ap (λ (l : List ℕ). hearing_to S W s end l) assoc ∙ one.0,
              ap (λ (l : List ℕ). said_to S W s l) assoc ∙ one.1 ∙ sym (lasts more end bytes).1,
            ))
            (k.tells.text
            ∙ ap (λ (l : List (Message F)). session_text W l ++ frame_of c.talk.state) (sym (lasts more false bytes).1))
            (said-still s c c pushed (pushed ++ more) taken (lasts more false bytes).1 refl refl k)

  -- ---- the end of the bytes

  -- the session has stopped, or it is refused
  pub finish : Laws S W → (s : Speaker F) (c : SessionState F) (pushed taken : List ℕ) →
      is_live s.start.stage ≡ true → Knows S W s c pushed taken → Knows S W s (finished c) pushed taken
  finish laws s c pushed taken live k = by (is_open c.talk.state) refl where
    d : SessionState F
    d = finished c

    cut : is_open c.talk.state ≡ true → d.talk ≡ refused_by c.talk truncated
    cut goes = ap (λ (b : Bool). if b then refused_by c.talk truncated else c.talk) goes

    kept : is_open c.talk.state ≡ false → d.talk ≡ c.talk
    kept closed = ap (λ (b : Bool). if b then refused_by c.talk truncated else c.talk) closed

    by : (b : Bool) → is_open c.talk.state ≡ b → Knows S W s d pushed taken
    by true goes =
        let g = goes-of s c pushed taken goes k in
        let talk = cut goes in
        let heard = hearing-on S W s true c.feed pushed g.events c.talk.held.end c.talk.held.taken g.holds g.heard
        g.fine
        ∙ ap (λ (t : TalkState F). hearing_at t.state t.held) (sym talk) in
        record {
          are_bytes = k.are_bytes;
          tells = told laws s d pushed taken live heard
              (refused-text s c d truncated pushed pushed taken goes talk refl k)
              (said-still s c d pushed pushed taken refl (ap (λ (t : TalkState F). t.held.end.sent) talk)
              (ap (λ (t : TalkState F). t.outbox) talk) k);
          goes_on = subst (λ (b : Bool). GoesOn S W b s d pushed)
              (sym (ap (λ (t : TalkState F). is_open t.state) talk)) (inl refl);
        }
    by false closed =
        let talk = kept closed in
        let state = ap (λ (t : TalkState F). t.state) talk in
        let heard = still (stays-of s c pushed taken closed k)
        ∙ ap (λ (t : TalkState F). hearing_at t.state t.held) (sym talk) in
        record {
          are_bytes = k.are_bytes;
          tells = told laws s d pushed taken live heard
              (ap (λ (t : TalkState F). taken ++ due W t) talk ∙ k.tells.text
              ∙ ap (λ (x : State). session_text W (said_to S W s pushed) ++ frame_of x) (sym state))
              (said-still s c d pushed pushed taken refl (ap (λ (t : TalkState F). t.held.end.sent) talk)
              (ap (λ (t : TalkState F). t.outbox) talk) k);
          goes_on = subst (λ (b : Bool). GoesOn S W b s d pushed) (sym (ap is_open state ∙ closed)) (inl refl);
        } where
          still : Stays S W s c pushed → hearing_to S W s true pushed ≡ hearing_at c.talk.state c.talk.held
          still (inl over) = ap (λ (b : Bool). hearing_to S W s b pushed) (sym over) ∙ k.tells.heard
          still (inr lasts) =
              ap (λ (l : List ℕ). hearing_to S W s true l) (sym (append-nil pushed)) ∙ (lasts [] true tt).0

  -- ---- one piece

  -- the feed took the piece, and its event, if there is one, was heard
  pub piece-heard : Laws S W → (s : Speaker F) (c d : SessionState F) (event : Option (declared.Event F))
      (piece pushed taken : List ℕ) → is_live s.start.stage ≡ true → is_open c.talk.state ≡ true → IsBytes piece →
      HearsIf S W c.talk event d.talk → d.over ≡ c.over → d.begun ≡ begun_after event c.begun (length piece) →
      IsFed W c.feed piece event d.feed →
      Knows S W s c pushed taken → Knows S W s d (pushed ++ piece) taken
  piece-heard laws s c d None piece pushed taken live goes bytes heard over begun (step, fine, none) k =
      quiet laws s c d piece pushed taken live goes bytes heard over begun step fine k
  piece-heard laws s c d (Some e) piece pushed taken live goes bytes heard over begun (step, fine, none) k =
      one-event laws s c d (event_value e) piece pushed taken live goes bytes heard over begun step fine none k

  -- it was kept, since it completes no event
  pub piece-kept : Laws S W → (c d : SessionState F) (piece : List ℕ) →
      is_open c.talk.state ≡ true → IsBytes piece → d.talk ≡ c.talk → d.over ≡ c.over →
      d.begun ≡ plus c.begun (length piece) →
      feed W c.feed.standing (c.feed.kept ++ piece) ≡ fed_into [] d.feed → fault_at d.feed.standing ≡ None →
      Pushes S W c piece d
  piece-kept laws c d piece goes bytes talk over begun step fine = λ s pushed taken live k.
      quiet laws s c d piece pushed taken live goes bytes talk over begun step fine k
