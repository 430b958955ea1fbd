-- What an end says, one message after another, whoever it is and whatever its peer sends.
-- An answer is a reply, the end of the session, or a refusal (`answer-cases`), and only a reply is counted as a
-- message sent. No message changes who speaks. An end that is over or spent refuses every message and does not change
-- (`takes_none`). All else is induction over the messages: to hear one message more is to hear the others and then
-- that one; the number sent is that at the start and one for each reply; an end that takes no messages says none,
-- however many come.
-- docs/LAWS.md: An end counts what it says; An end stands firm (`ends_hear_on`, `ends_keep_peers`).
use Rattle.std.proofs.Common.{◌≡◌, ℕ, ◌+◌, ◌∙◌, true, false, List, [], ◌∷◌, ◌++◌, length, Option, Some, None, refl, sym}
use Rattle.std.proofs.Common.{ap, subst, arith, append_assoc}
use Rattle.definitions.proofs.Words.{AllByRecursion, Summary, Message, has_open, Peer, reply, EndsHearOn, EndsKeepPeers}
use Rattle.definitions.proofs.Words.{End, Ends, Fresh, Over, Refuses, Replies, Spent, Stage, Waits, after, after_answer}
use Rattle.definitions.proofs.Words.{answer, answer_unless, answers, heard, is_live, is_sendable, replied}
use Rattle.definitions.proofs.Words.{reply_or_refuse, stage_fault, too_many_parts}
use Rattle.definitions.specs.Ends.{Answer}
use Rattle.definitions.proofs.Lemmas.{cond_both, All-append, append-nil, fold-append, length-append}
use Rattle.laws.specs.Saying.{EndsSay}

-- ---- one message

-- the three answers to a message that is not refused at once
pub answer-cases : {F : Type 0} (S : Summary F) (P : Peer) (M : Message F) (C : Answer F → Type 0) →
    (has_open M ≡ true → C (Replies (reply S P M))) → C Ends → C (Refuses too_many_parts) →
    C (answer_unless S P M None)
answer-cases S P M C replies ends refuses =
    cond_both (has_open M) (reply_or_refuse (reply S P M)) Ends C
    (λ o. cond_both (is_sendable (reply S P M)) (Replies (reply S P M)) (Refuses too_many_parts) C (λ fits. replies o)
    (λ long. refuses))
    (λ o. ends)

answer-peer : {F : Type 0} (e : End F) (M : Message F) (a : Answer F) → (after_answer e M a).peer ≡ e.peer
answer-peer e M a = grind arith

pub after-peer : {F : Type 0} (S : Summary F) (e : End F) (M : Message F) → (after S e M).peer ≡ e.peer
after-peer S e M = cond_both (is_live e.stage) (after_answer e M (answer S e M)) e (λ d. d.peer ≡ e.peer)
    (λ live. answer-peer e M (answer S e M)) (λ live. refl)

answer-sent : {F : Type 0} (e : End F) (M : Message F) (a : Answer F) →
    (after_answer e M a).sent ≡ e.sent + length (replied a)
answer-sent e M (Replies N) = refl
answer-sent e M Ends = omega arith
answer-sent e M (Refuses code) = omega arith

-- an end that takes no messages
pub takes_none : {F : Type 0} (S : Summary F) (e : End F) (M : Message F) → is_live e.stage ≡ false →
    (replied (answer S e M) ≡ []) × (after S e M ≡ e)
takes_none {F} S e M h = by e.stage h where
  by : (s : Stage F) → is_live s ≡ false → (replied (answer S (record e { stage = s }) M) ≡ [])
      × (after S (record e { stage = s }) M ≡ record e { stage = s })
  by (Fresh cut) h = absurd cc
  by (Waits own) h = absurd cc
  by Over h = (refl, refl)
  by Spent h = (refl, refl)

after-sent : {F : Type 0} (S : Summary F) (e : End F) (M : Message F) →
    (after S e M).sent ≡ e.sent + length (replied (answer S e M))
after-sent S e M = cond_both (is_live e.stage) (after_answer e M (answer S e M)) e
    (λ d. d.sent ≡ e.sent + length (replied (answer S e M)))
    (λ live. answer-sent e M (answer S e M))
    (λ live. omega (arith, ap length (takes_none S e M live).0))

-- ---- many

pub ends_hear_on : {F : Type 0} (S : Summary F) → EndsHearOn S
ends_hear_on S e Ms M = fold-append (after S) e Ms (M ∷ [])

pub ends_keep_peers : {F : Type 0} (S : Summary F) → EndsKeepPeers S
ends_keep_peers S e [] = refl
ends_keep_peers S e (M ∷ Ms) = ends_keep_peers S (after S e M) Ms ∙ after-peer S e M

-- what holds of each reply of the peer holds of each message that its end says
pub answers-All : {F : Type 0} (S : Summary F) (P : Peer) (C : Message F → Type 0) →
    ((M : Message F) → C (reply S P M)) → (e : End F) (Ms : List (Message F)) → e.peer ≡ P →
    AllByRecursion C (answers S e Ms)
answers-All S P C each e [] is = tt
answers-All {F} S P C each e (M ∷ Ms) is =
    All-append C (replied (answer S e M)) (answers S (after S e M) Ms) (one (stage_fault e.stage M))
    (answers-All S P C each (after S e M) Ms (after-peer S e M ∙ is)) where
      one : (o : Option ℕ) → AllByRecursion C (replied (answer_unless S e.peer M o))
      one (Some code) = tt
      one None = answer-cases S e.peer M (λ a. AllByRecursion C (replied a))
          (λ o. (subst (λ Q. C (reply S Q M)) (sym is) (each M), tt)) tt tt

pub answers-counted : {F : Type 0} (S : Summary F) (e : End F) (Ms : List (Message F)) →
    (heard S e Ms).sent ≡ e.sent + length (answers S e Ms)
answers-counted S e [] = omega arith
answers-counted S e (M ∷ Ms) = omega (
  arith,
  answers-counted S (after S e M) Ms,
  after-sent S e M,
  length-append (replied (answer S e M)) (answers S (after S e M) Ms),
)

answers-append : {F : Type 0} (S : Summary F) (e : End F) (Ms Ns : List (Message F)) →
    answers S e (Ms ++ Ns) ≡ answers S e Ms ++ answers S (heard S e Ms) Ns
answers-append S e [] Ns = refl
answers-append S e (M ∷ Ms) Ns =
    ap (λ Os. replied (answer S e M) ++ Os) (answers-append S (after S e M) Ms Ns)
    ∙ sym (append_assoc (replied (answer S e M)) (answers S (after S e M) Ms) (answers S (heard S (after S e M) Ms) Ns))

pub says_none : {F : Type 0} (S : Summary F) (e : End F) (Ms : List (Message F)) → is_live e.stage ≡ false →
    (answers S e Ms ≡ []) × (heard S e Ms ≡ e)
says_none S e [] h = (refl, refl)
says_none S e (M ∷ Ms) h =
    let now = takes_none S e M h in
    let later = says_none S e Ms h in (
      ap (λ Os. Os ++ answers S (after S e M) Ms) now.0 ∙ ap (λ d. answers S d Ms) now.1 ∙ later.0,
      ap (λ d. heard S d Ms) now.1 ∙ later.1,
    )

pub ends_say : {F : Type 0} (S : Summary F) → EndsSay S
ends_say S e Ms = record {
  counted = answers-counted S e Ms;
  more = λ M. answers-append S e Ms (M ∷ [])
      ∙ ap (λ Os. answers S e Ms ++ Os) (append-nil (replied (answer S (heard S e Ms) M)));
  over = λ rest h.
      let none = says_none S (heard S e Ms) rest h in (
        answers-append S e Ms rest ∙ ap (λ Os. answers S e Ms ++ Os) none.0 ∙ append-nil (answers S e Ms),
        fold-append (after S) e Ms rest ∙ none.1,
      );
}
