-- One end stops: what is placed compares no ranges of higher ranks than its own message, and each reply compares lower
-- ones.
-- Say that an end may reply n times (`MayReply`): it has heard nothing and its rank is below n, or the Sums of the own
-- message that waits are under n in its set, or it takes no more. A message that is refused ends this. One that is
-- placed has only open parts under n (Ends), so if it has an open part, n is above 0, and the reply's Sums are under n
-- - 1: the end may reply n - 1 times after it. By induction over the messages an end replies at most n times in all.
-- An initiator that opens ranges of rank p at most may reply p + 1 times after its opening, a responder of rank r as
-- often as r + 1.
-- The count is made of all that is called for: it never asks whether the last reply may be sent. No more is said.
-- docs/LAWS.md: An end stops; What is called for is little (its number).
use Rattle.std.proofs.Common.{◌≡◌, ℕ, ◌+◌, ◌-◌, ◌≤◌, ◌∙◌, Bool, true, false, List, [], ◌∷◌, length, Option, Some, None}
use Rattle.std.proofs.Common.{refl, sym, subst, arith}
use Rattle.std.specs.Prelude.{⊤, if◌then◌else◌}
use Rattle.definitions.proofs.Words.{AllByRecursion, Summary, Message, has_open, RangesRise, opening_fault, place_fault}
use Rattle.definitions.proofs.Words.{Peer, reply, Ready, rank, InitiatorStops, ResponderStops, End, Fresh, Over, Spent}
use Rattle.definitions.proofs.Words.{Stage, Waits, after, after_answer, answer, answer_unless, answers, initiator}
use Rattle.definitions.proofs.Words.{replied, responder}
use Rattle.definitions.specs.Ends.{Replies, Refuses, Ends, is_sendable, stage_fault}
use Rattle.definitions.specs.Engines.{called, called_unless, calls}
use Rattle.definitions.specs.Refusals.{too_many_parts}
use Rattle.laws.specs.Hearing.{OwnIsFew}
use Rattle.definitions.proofs.Lemmas.{cond_both, length-append}
use Rattle.laws.proofs.PeerCuts.{SumsUnder, IsSumUnder}
use Rattle.laws.proofs.Opens.{All-open}
use Rattle.definitions.specs.Messages.{open_parts}
use Rattle.laws.proofs.Saying.{after-peer}
use Rattle.laws.proofs.Openings.{opening_under}
use Rattle.definitions.proofs.Words.{opened}
use Rattle.laws.proofs.Ends.{IsOpenUnder, placed-OpenUnder, opening-OpenUnder, has_open-under}
use Rattle.laws.proofs.Ends.{reply-under}

-- an end at this stage may still reply so often
abbrev MayReply : {F : Type 0} → Peer → List ℕ → ℕ → Stage F → Type 0
MayReply P f n (Fresh cut) = rank f P + 1 ≤ n
MayReply P f n (Waits own) = SumsUnder f P.items n own
MayReply P f n Over = ⊤
MayReply P f n Spent = ⊤

-- ---- all that is called for: a reply that is too long, too

-- after this it may reply so often that all in all no more than n are called for
abbrev MayCallAfter : {F : Type 0} → Summary F → List ℕ → ℕ → End F → Message F → Option ℕ → Type 0
MayCallAfter S f n e M o = (k : ℕ) × (length (called_unless S e.peer M o) + k ≤ n)
    × MayReply e.peer f k (after_answer e M (answer_unless S e.peer M o)).stage

called-after : {F : Type 0} (S : Summary F) (f : List ℕ) (n : ℕ) (e : End F) (M : Message F) → Ready e.peer f →
    AllByRecursion (IsOpenUnder f e.peer.items n) M → MayCallAfter S f n e M None
called-after {F} S f n e M r under = by (has_open M) (is_sendable N) refl where
  N : Message F
  N = reply S e.peer M

  by : (b c : Bool) → has_open M ≡ b →
      (k : ℕ) × (length (if b then N ∷ [] else []) + k ≤ n) × MayReply e.peer f k
      (after_answer e M (if b then (if c then Replies N else Refuses too_many_parts) else Ends)).stage
  by true true o = (
    n - 1,
    omega (arith, has_open-under f e.peer.items n M under o),
    cond_both (has_open N) (Waits (open_parts N)) Over (MayReply e.peer f (n - 1))
        (λ more. All-open (IsSumUnder f e.peer.items (n - 1)) N (reply-under S e.peer f r n M under)) (λ none. tt),
  )
  by true false o = (n - 1, omega (arith, has_open-under f e.peer.items n M under o), tt)
  by false c o = (0, omega arith, tt)

called-few : {F : Type 0} (S : Summary F) (f : List ℕ) (n : ℕ) (e : End F) (M : Message F) → Ready e.peer f →
    RangesRise M → MayReply e.peer f n e.stage →
    (k : ℕ) × (length (called S e M) + k ≤ n) × MayReply e.peer f k (after S e M).stage
called-few {F} S f n e M r rises h = by e.stage h where
  by : (s : Stage F) → MayReply e.peer f n s → (k : ℕ) × (length (called S (record e { stage = s }) M) + k ≤ n)
      × MayReply e.peer f k (after S (record e { stage = s }) M).stage
  by (Fresh cut) h = fault (opening_fault cut M) refl where
    fault : (o : Option ℕ) → opening_fault cut M ≡ o → MayCallAfter S f n (record e { stage = Fresh cut }) M o
    fault (Some code) p = (0, omega arith, tt)
    fault None p =
        let (k, few, more) =
        called-after S f (rank f e.peer + 1) (record e { stage = Fresh cut }) M r (opening-OpenUnder r cut M p) in
        (k, omega (arith, few, h), more)
  by (Waits own) h = fault (place_fault own M) refl where
    fault : (o : Option ℕ) → place_fault own M ≡ o → MayCallAfter S f n (record e { stage = Waits own }) M o
    fault (Some code) p = (0, omega arith, tt)
    fault None p = called-after S f n (record e { stage = Waits own }) M r (placed-OpenUnder r n own M h rises p)
  by Over h = (0, omega arith, tt)
  by Spent h = (0, omega arith, tt)

calls-few : {F : Type 0} (S : Summary F) (P : Peer) (f : List ℕ) (n : ℕ) (e : End F) (Ms : List (Message F)) →
    Ready P f → AllByRecursion RangesRise Ms → e.peer ≡ P →
    MayReply e.peer f n e.stage → length (calls S e Ms) ≤ n
calls-few S P f n e [] r rise is h = omega arith
calls-few S P f n e (M ∷ Ms) r rise is h =
    let (k, few, more) = called-few S f n e M (subst (λ Q. Ready Q f) (sym is) r) rise.0 h in
    let same = after-peer S e M in
    let later = calls-few S P f k (after S e M) Ms r rise.1 (same ∙ is)
    (subst (λ Q. MayReply Q f k (after S e M).stage) (sym same) more) in
    omega (arith, few, later, length-append (called S e M) (calls S (after S e M) Ms))

pub own_is_few : {F : Type 0} (S : Summary F) → OwnIsFew S
own_is_few S P f Ms r rise = (
  omega (arith, calls-few S P f (opened S f P + 1) (initiator S P) Ms r rise refl (opening_under S P f)),
  calls-few S P f (rank f P + 1) (responder S P) Ms r rise refl (omega arith),
)

-- ---- no more is said than is called for

replied-fewer : {F : Type 0} (S : Summary F) (P : Peer) (M : Message F) (o : Option ℕ) →
    length (replied (answer_unless S P M o)) ≤ length (called_unless S P M o)
replied-fewer S P M (Some code) = omega arith
replied-fewer S P M None = by (has_open M) (is_sendable (reply S P M)) where
  by : (b c : Bool) →
      length (replied (if b then (if c then Replies (reply S P M) else Refuses too_many_parts) else Ends))
      ≤ length (if b then reply S P M ∷ [] else [])
  by true true = omega arith
  by true false = omega arith
  by false c = omega arith

answers-fewer : {F : Type 0} (S : Summary F) (e : End F) (Ms : List (Message F)) →
    length (answers S e Ms) ≤ length (calls S e Ms)
answers-fewer S e [] = omega arith
answers-fewer S e (M ∷ Ms) = omega (
  arith,
  replied-fewer S e.peer M (stage_fault e.stage M),
  answers-fewer S (after S e M) Ms,
  length-append (replied (answer S e M)) (answers S (after S e M) Ms),
  length-append (called S e M) (calls S (after S e M) Ms),
)

pub initiator_stops : {F : Type 0} (S : Summary F) → InitiatorStops S
initiator_stops S P f Ms r rise =
    omega (arith, (own_is_few S P f Ms r rise).0, answers-fewer S (initiator S P) Ms)

pub responder_stops : {F : Type 0} (S : Summary F) → ResponderStops S
responder_stops S P f Ms r rise =
    omega (arith, (own_is_few S P f Ms r rise).1, answers-fewer S (responder S P) Ms)
