-- Two sides over bytes: if all that each wrote is all that the other got, they had the talk.
-- Each side says messages that have a spelling (Spelled), so the other hears just these; a fault frame after them is no
-- message. So there are two lists of messages, of which each is what its side says to the other. Two ends that meet in
-- a message M (Turns) and say such lists say the talk from M on: the speaker's list begins with M; the hearer's begins
-- with its reply to M, and the two meet again in that; a message with no open part leaves both over. So by induction
-- both lists are those of the talk, which ends, and both ends are over. A side whose end is over refused nothing.
-- docs/LAWS.md: Two sessions meet.
use Rattle.std.proofs.Common.{◌≡◌, ℕ, zero, suc, ◌<◌, ◌≤◌, Bool, true, false, List, [], ◌∷◌, ◌++◌, length, take}
use Rattle.std.proofs.Common.{refl, sym, ap, subst, ◌∙◌, arith}
use Rattle.std.specs.Prelude.{if◌then◌else◌}
use Rattle.std.proofs.Math.Seq.{take-length}
use Rattle.definitions.proofs.Words.{AllByRecursion, IsBytes, Summary, Message, has_open, open_parts, opening, Peer}
use Rattle.definitions.proofs.Words.{reply, of_first, of_second, talk, talk_from, initiator_knows, responder_knows}
use Rattle.definitions.proofs.Words.{KnowsDifference, KnowsNothingWrong, Profile, IsMessage, session_text, End, Ends}
use Rattle.definitions.proofs.Words.{Replies, Over, Waits, after, after_answer, heard, is_live, initiator, responder}
use Rattle.definitions.proofs.Words.{Speaker, initiating, responding, answers, answer, replied, says, session}
use Rattle.definitions.specs.Engines.{messages_in, own}
use Rattle.definitions.specs.Ends.{is_over}
use Rattle.definitions.specs.Accounts.{Role, Initiates, Responds, speaker_of}
use Rattle.definitions.specs.Hearing.{Hearing, Goes_on, Over_at, Peer_refused, Refused_for, hearing_to, first_fault}
use Rattle.definitions.proofs.Lemmas.{All-map, append-nil}
use Rattle.laws.specs.Hearing.{AgreesBy}
use Rattle.laws.specs.Meeting.{AreSpelled, TwoSessionsMeet, EndedCallsWriteAll, written_to, refusal_text}
use Rattle.laws.proofs.Turns.{Meets, not_refused, hears, meets_on, two_meet, ends_talk}
use Rattle.laws.proofs.Saying.{says_none, answers-counted}
use Rattle.laws.proofs.Hearing.{bytes_agree, over-not-live}
use Rattle.laws.proofs.Ends.{messages_are_few, messages_have_ranges, lists_are_short}
use Rattle.laws.proofs.Stops.{initiator_stops, responder_stops}
use Rattle.laws.proofs.Streams.{heard_messages, refused_heard}
use Rattle.laws.proofs.Knowledge.{of_first-cons, exact_knowledge, sound_knowledge}
use Rattle.laws.proofs.Spelled.{opening-spelled, answers-spelled}

-- ==== Two ends that say what the other hears

-- e said As and d said Bs, which are the messages of Ms in turn, and both are over
record Met {F : Type 0} (S : Summary F) (e d : End F) (As Bs Ms : List (Message F)) : Type 0 where
  first : As ≡ of_first Ms
  second : Bs ≡ of_second Ms
  speaker : (heard S e Bs).stage ≡ Over
  hearer : (heard S d As).stage ≡ Over

module _ {F : Type 0} (S : Summary F) where
  -- what the hearer of M says to it and to what comes after it
  said-next : (d c : End F) (M : Message F) (As Bs Cs : List (Message F)) (N : List (Message F)) →
      As ≡ M ∷ Cs → Bs ≡ answers S d As → replied (answer S d M) ≡ N → after S d M ≡ c → Bs ≡ N ++ answers S c Cs
  said-next d c M As Bs Cs N first second says hears =
      second ∙ ap (answers S d) first ∙ (λ i. says i ++ answers S (hears i) Cs)

  met : (f g : List ℕ) (k : ℕ) (e d : End F) (M : Message F) (As Bs : List (Message F)) → Meets S f g e d M →
      length (talk_from S e.peer d.peer M k) < k → As ≡ M ∷ answers S e Bs → Bs ≡ answers S d As →
      Met S e d As Bs (talk_from S e.peer d.peer M k)
  met f g zero e d M As Bs m less first second = absurd (omega arith)
  met f g (suc k) e d M As Bs m less first second = by (λ o fewer next. met g f k (after_answer d M (Replies
      (reply S d.peer M))) e (reply S d.peer M) Bs (answers S e Bs) (meets_on m o) fewer next refl) (has_open M) refl
      less where
        Cs : List (Message F)
        Cs = answers S e Bs

        N : Message F
        N = reply S d.peer M

        c : End F
        c = after_answer d M (Replies N)

        rest : Bool → List (Message F)
        rest b = if b then talk_from S d.peer e.peer N k else []

        replies : (b : Bool) → has_open M ≡ b → replied (answer S d M) ≡ replied (if b then Replies N else Ends)
        replies b o = ap replied (not_refused m ∙ ap (λ b. if b then Replies N else Ends) o)

        by : (has_open M ≡ true → length (rest true) < k → Bs ≡ N ∷ answers S c Cs → Met S c e Bs Cs (rest true)) →
            (b : Bool) → has_open M ≡ b → length (M ∷ rest b) < suc k → Met S e d As Bs (M ∷ rest b)
        by again true o fewer =
            let hears_it : after S d M ≡ c = hears m true o in
            let later = again o (omega (arith, fewer))
            (said-next d c M As Bs Cs (N ∷ []) first second (replies true o) hears_it) in
            record {
              first = first ∙ ap (λ Ms. M ∷ Ms) later.second ∙ sym (of_first-cons M (rest true));
              second = later.first;
              speaker = later.hearer;
              hearer = ap (λ Ms. (heard S d Ms).stage) first ∙ ap (λ x. (heard S x Cs).stage) hears_it ∙ later.speaker;
            }
        by again false o fewer =
            let d' : End F = after_answer d M Ends in
            let hears_it : after S d M ≡ d' = hears m false o in
            let none = says_none S d' Cs refl in
            let next : Bs ≡ [] = said-next d d' M As Bs Cs [] first second (replies false o) hears_it ∙ none.0 in
            let over : e.stage ≡ Over = m.spoken ∙ ap (λ b. if b then Waits (open_parts M) else Over) o in
            record {
              first = first ∙ ap (λ Ms. M ∷ answers S e Ms) next;
              second = next;
              speaker = ap (λ Ms. (heard S e Ms).stage) next ∙ over;
              hearer = ap (λ Ms. (heard S d Ms).stage) first ∙ ap (λ x. (heard S x Cs).stage) hears_it
                  ∙ ap (λ x. x.stage) none.1;
            }

-- ==== Two sides

-- a side whose session is over refused nothing, and said all that was called for
ended : {F : Type 0} (e : End F) (said called : List (Message F)) (h : Hearing F) → is_over e.stage ≡ true →
    AgreesBy e said called h → (h ≡ Over_at e) × (called ≡ said)
ended e said called (Goes_on f t) over (is, live, same) =
    let dead : is_live f.stage ≡ false = ap (λ x. is_live x.stage) is ∙ over-not-live e.stage over in absurd cc
ended e said called (Over_at f) over (is, at, same) = (ap Over_at is, same)
ended e said called (Peer_refused code) over (goes, same) = absurd cc
ended e said called (Refused_for code) over (goes, same) = absurd cc

module _ {F : Type 0} (S : Summary F) (W : Profile F) where
  -- it is heard as it was said, and a refusal after it is no message
  heard-as-said : AreSpelled S W → (s : Speaker F) (over : Bool) (bytes written : List ℕ) →
      AllByRecursion (IsMessage W) (says S s (messages_in W bytes)) → IsBytes written →
      written ≡ written_to S W s over bytes → messages_in W written ≡ says S s (messages_in W bytes)
  heard-as-said law s over bytes written right fits is =
      ap (messages_in W) is ∙ refused_heard W law.real (says S s (messages_in W bytes))
      (first_fault (hearing_to S W s over bytes)) right (subst IsBytes is fits)

  pub two_sessions_meet : TwoSessionsMeet S W
  two_sessions_meet law I R f g first second asked answered k i r fits fits' asked_is answered_is enough =
      let As : List (Message F) = messages_in W asked in
      let Bs : List (Message F) = messages_in W answered in
      let Ms : List (Message F) = talk S I R k in
      let right = heard_messages W law.real asked fits in
      let right' = heard_messages W law.real answered fits' in
      let few : length I.items ≤ 65536 = omega (arith, i.ready.room, i.table.cap_upto) in
      let few' : length R.items ≤ 65536 = omega (arith, r.ready.room, r.table.cap_upto) in
      let said : As ≡ says S (initiating S I) Bs = heard-as-said law (initiating S I) first answered asked (
        opening-spelled S W law.real law.spelled I i.ready.set i.items few,
        answers-spelled S W law.real law.spelled I (initiator S I) Bs
            refl i.ready.set i.items few right',
      ) fits asked_is in
      let said' : Bs ≡ says S (responding S R) As = heard-as-said law (responding S R) second asked answered
      (answers-spelled S W law.real law.spelled R (responder S R) As refl r.ready.set r.items few' right) fits'
      answered_is in
      let less = messages_are_few S I R f g k i.ready r.ready in
      let ends : length Ms < k = omega (arith, less, enough) in
      let m = met S f g k (initiator S I) (responder S R) (opening S I) As Bs
      (two_meet S I R f g law.exact i.ready r.ready few few') ends said said' in
      let own : says S (initiating S I) Bs ≡ of_first Ms = sym said ∙ m.first in
      let own' : says S (responding S R) As ≡ of_second Ms = sym said' ∙ m.second in
      let turn = ends_talk S law.exact I R f g k i.ready r.ready few few' in
      let learned : (heard S (initiator S I) Bs).learned ≡ initiator_knows I.items Ms =
      ap (λ Ns. (heard S (initiator S I) Ns).learned) m.second ∙ turn.initiator_learned in
      let learned' : (heard S (responder S R) As).learned ≡ responder_knows R.items Ms =
      ap (λ Ns. (heard S (responder S R) Ns).learned) m.first ∙ turn.responder_learned in
      let sound = sound_knowledge S I R k i.ready.set r.ready.set in
      record {
        initiator = record {
          ended = (ended (heard S (initiator S I) Bs) _ _ (hearing_to S W (initiating S I) first answered)
              (ap is_over m.speaker) (bytes_agree S W (initiating S I) first answered refl)).0;
          said = own;
          sent = omega (arith, answers-counted S (initiator S I) Bs, ap length own);
        };
        responder = record {
          ended = (ended (heard S (responder S R) As) _ _ (hearing_to S W (responding S R) second asked)
              (ap is_over m.hearer) (bytes_agree S W (responding S R) second asked refl)).0;
          said = own';
          sent = omega (arith, answers-counted S (responder S R) As, ap length own');
        };
        few = less;
        few_of_each = (
          omega (
            arith,
            initiator_stops S I f Bs i.ready (All-map _ _ (messages_have_ranges W) Bs right'),
            ap length own,
          ),
          omega (
            arith,
            responder_stops S R g As r.ready (All-map _ _ (messages_have_ranges W) As right),
            ap length own',
          ),
        );
        short = lists_are_short S I R k i.table r.table i.accepted r.accepted i.ready.room r.ready.room;
        sound = (
          subst (λ k. KnowsNothingWrong k I.items R.items) (sym learned) sound.0,
          subst (λ k. KnowsNothingWrong k R.items I.items) (sym learned') sound.1,
        );
        exact = λ clear.
            let exact = exact_knowledge S law.exact I R k i.ready.set r.ready.set ends clear in (
              subst (λ k. KnowsDifference k I.items R.items) (sym learned) exact.0,
              subst (λ k. KnowsDifference k R.items I.items) (sym learned') exact.1,
            );
      }

  -- ---- calls

  -- a side is live before it gets anything
  starts-live : (role : Role) (P : Peer) → is_live (speaker_of S role P).start.stage ≡ true
  starts-live Initiates P = refl
  starts-live Responds P = refl

  pub ended_calls_write_all : EndedCallsWriteAll S W
  ended_calls_write_all role P c k learned version speaks outcome =
      let s : Speaker F = c.speaker in
      let Ms : List (Message F) = messages_in W c.read in
      let at = ended (session S s Ms) (says S s Ms) (own S s Ms) (hearing_to S W s c.reader.ended c.read) outcome.over
      (bytes_agree S W s c.reader.ended c.read
      (ap (λ x. is_live x.start.stage) speaks ∙ starts-live role P)) in (
        outcome.wrote.written ∙ ap (λ n. session_text W (take n (own S s Ms))) (sym outcome.wrote.count)
            ∙ ap (session_text W) (take-length (own S s Ms) ∙ at.1)
            ∙ sym (append-nil (session_text W (says S s Ms)))
            ∙ ap (λ x. session_text W (says S s Ms) ++ refusal_text (first_fault x)) (sym at.0),
        outcome.learned_is,
      )
