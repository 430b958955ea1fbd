-- Two sides over bytes: each gets all that the other writes, and nothing else.
--     written_to s over bytes     all that a side writes to these bytes, where its input may end after them
--     learned_from s bytes        what it has learned of them
--     AreSpelled                  the test of fingerprints is equality, and a real profile spells each of them
--     IsPeer P f                  an accepted table with these ranks, and a set of items that it serves
--     HasSaid s over bytes Ns     its session is over, and these are its messages
--     HaveMet I R p r .. Ms       both sessions are over, and their messages are those of the talk Ms
--     TwoSessionsMeet S W         however the two got there
--     EndedCallsWriteAll S W      a call whose session has ended wrote all of it
use Rattle.std.specs.Prelude.{◌≡◌, ℕ, ◌+◌, ◌≤◌, ◌<◌, Bool, List, [], ◌++◌, length, Option, Some, None}
use Rattle.std.specs.List.{AllByRecursion}
use Rattle.definitions.specs.Items.{Item, IsItem, IsBytes}
use Rattle.definitions.specs.Fingerprints.{Summary, IsExact}
use Rattle.definitions.specs.Messages.{Message}
use Rattle.definitions.specs.Strategies.{IsTable}
use Rattle.definitions.specs.Ranks.{Accepted}
use Rattle.definitions.specs.Replies.{Peer}
use Rattle.definitions.specs.Talks.{Knowledge, talk, of_first, of_second, IsClear}
use Rattle.definitions.specs.Theorems.{Ready, opened, rank, KeepLimits, KnowsDifference, KnowsNothingWrong}
use Rattle.definitions.specs.Wire.{Profile, IsProfile, IsFingerprint, session_text, fault_text}
use Rattle.definitions.specs.Engines.{Speaker, initiating, responding, says, session, messages_in}
use Rattle.definitions.specs.Hearing.{Over_at, hearing_to, first_fault}
use Rattle.definitions.specs.Worlds.{message_bound}
use Rattle.definitions.specs.Accounts.{Call, Role, IsEnded, speaker_of}

-- by which a side refuses, if it does
abbrev pub refusal_text : Option ℕ → List ℕ
refusal_text (Some code) = fault_text code
refusal_text None = []

-- an accepted table with these ranks, and a set of items within its cap
pub record IsPeer (P : Peer) (f : List ℕ) : Type 0 where
  pub table : IsTable P.table
  pub accepted : Accepted P.table
  pub ready : Ready P f
  pub items : AllByRecursion IsItem P.items

module _ {F : Type 0} (S : Summary F) (W : Profile F) where
  -- a hello, all that is said to these bytes, and one fault frame if it refuses
  abbrev pub written_to : Speaker F → Bool → List ℕ → List ℕ
  written_to s over bytes =
      session_text W (says S s (messages_in W bytes)) ++ refusal_text (first_fault (hearing_to S W s over bytes))

  abbrev pub learned_from : Speaker F → List ℕ → Knowledge
  learned_from s bytes = (session S s (messages_in W bytes)).learned

  pub record AreSpelled : Type 0 where
    pub exact : IsExact S
    pub real : IsProfile W
    pub spelled : (A : List Item) → IsFingerprint W (S.of A)

  -- the session of a side that got these bytes is over, so it refused nothing; it said these messages, and counted them
  pub record HasSaid (s : Speaker F) (over : Bool) (bytes : List ℕ) (Ns : List (Message F)) : Type 0 where
    pub ended : hearing_to S W s over bytes ≡ Over_at (session S s (messages_in W bytes))
    pub said : says S s (messages_in W bytes) ≡ Ns
    pub sent : (session S s (messages_in W bytes)).sent ≡ length Ns

  -- Ms is all of the talk, in which the initiator opens ranges of rank p at most and the responder has rank r
  pub record HaveMet (I R : Peer) (p r : ℕ) (first second : Bool) (asked answered : List ℕ) (Ms : List (Message F)) :
      Type 0 where
    pub initiator : HasSaid (initiating S I) first answered (of_first Ms)
    pub responder : HasSaid (responding S R) second asked (of_second Ms)
    pub few : length Ms ≤ message_bound p r
    pub few_of_each : (length (of_first Ms) ≤ p + 2) × (length (of_second Ms) ≤ r + 1)
    pub short : KeepLimits I.table.limit R.table.limit Ms
    -- whatever the fingerprints
    pub sound : KnowsNothingWrong (learned_from (initiating S I) answered) I.items R.items
        × KnowsNothingWrong (learned_from (responding S R) asked) R.items I.items
    pub exact : IsClear S I.items R.items Ms →
        KnowsDifference (learned_from (initiating S I) answered) I.items R.items
        × KnowsDifference (learned_from (responding S R) asked) R.items I.items

  -- If all that each side wrote is all that the other got, then both sessions are over, no side refused, and what they
  -- said is the talk.
  abbrev pub TwoSessionsMeet : Type 0
  TwoSessionsMeet = AreSpelled → (I R : Peer) (f g : List ℕ) (first second : Bool) (asked answered : List ℕ) (k : ℕ) →
      IsPeer I f → IsPeer R g → IsBytes asked → IsBytes answered →
      asked ≡ written_to (initiating S I) first answered → answered ≡ written_to (responding S R) second asked →
      message_bound (opened S f I) (rank g R) < k →
      HaveMet I R (opened S f I) (rank g R) first second asked answered (talk S I R k)

  -- so the law is one of such calls, too
  abbrev pub EndedCallsWriteAll : Type 0
  EndedCallsWriteAll = (role : Role) (P : Peer) (c : Call F) (k : ℕ) (learned : Knowledge) (version : ℕ) →
      c.speaker ≡ speaker_of S role P → IsEnded S W c k learned version →
      (c.written ≡ written_to c.speaker c.reader.ended c.read) × (learned ≡ learned_from c.speaker c.read)
