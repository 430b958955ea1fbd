-- What a side says and learns, whatever the bytes are that it gets.
--     peer_of a items                who speaks: the accepted table, and a set
--     said_to s bytes                all that a side says to these bytes
--     called_by s bytes              all that these bytes call for: a reply that is too long to be said, too
--     session_at s bytes             its end then
--     known_at s bytes               what it learns from the messages that it takes, by what they say
--     KeepsBounds s bytes bound limit       few messages of its own, short lists, and knowledge as told
--     BoundLaws                      the laws by which both sides do
use Rattle.std.specs.Prelude.{◌≡◌, ℕ, ◌≤◌, List, [], ◌∷◌, length, slice_index, IsTrue}
use Rattle.std.specs.List.{AllByRecursion}
use Rattle.definitions.specs.Fingerprints.{Summary}
use Rattle.definitions.specs.Items.{Item}
use Rattle.definitions.specs.Messages.{Message, RangesRise}
use Rattle.definitions.specs.Ranks.{ranks_by, rank_by}
use Rattle.definitions.specs.Replies.{Peer}
use Rattle.definitions.specs.Talks.{Knowledge, knows}
use Rattle.definitions.specs.Theorems.{IsShort, InitiatorStops, ResponderStops, EndsKeepLimits, InitiatorLearns}
use Rattle.definitions.specs.Theorems.{ResponderLearns}
use Rattle.definitions.specs.Wire.{Profile, IsMessage}
use Rattle.definitions.specs.Ends.{End, Stage, Fresh, Waits, Over, Spent, is_over}
use Rattle.definitions.specs.Engines.{Speaker, says, session, own, takes, messages_in}
use Rattle.laws.specs.Hearing.{OwnIsFew, OwnIsShort}
use Rattle.laws.specs.Parts.{HeardAreMessages}
use Rattle.strategy_check.specs.Checked.{Checked}

abbrev pub peer_of : Checked → List Item → Peer
peer_of a items = record { table = a.table; items = items }

module _ {F : Type 0} (S : Summary F) (W : Profile F) where
  abbrev pub said_to : Speaker F → List ℕ → List (Message F)
  said_to s bytes = says S s (messages_in W bytes)

  abbrev pub called_by : Speaker F → List ℕ → List (Message F)
  called_by s bytes = own S s (messages_in W bytes)

  abbrev pub session_at : Speaker F → List ℕ → End F
  session_at s bytes = session S s (messages_in W bytes)

  -- our messages that the messages taken answer, one each: the first that a responder takes answers none
  abbrev pub answered : Stage F → List (Message F) → List (Message F)
  answered (Fresh cut) Ms = [] ∷ Ms
  answered (Waits first) Ms = Ms
  answered Over Ms = Ms
  answered Spent Ms = Ms

  -- what a side learns from the messages that it takes, each beside our message that it answers
  abbrev pub known_at : Speaker F → List ℕ → Knowledge
  known_at s bytes =
      knows s.start.peer.items (answered s.start.stage (said_to s bytes))
      (takes S s.start (messages_in W bytes))

  -- whatever the bytes are, there are few messages of this side, no list in them is longer than the limit, and once the
  -- session is over the side has learned just what the messages that it took say; this holds of what is called for, too
  pub record KeepsBounds (s : Speaker F) (bytes : List ℕ) (bound limit : ℕ) : Type 0 where
    pub few : length (said_to s bytes) ≤ bound
    pub few_called : length (called_by s bytes) ≤ bound
    pub short : AllByRecursion (AllByRecursion (IsShort limit)) (said_to s bytes)
    pub short_called : AllByRecursion (AllByRecursion (IsShort limit)) (called_by s bytes)
    pub learned : IsTrue (is_over (session_at s bytes).stage) → (session_at s bytes).learned ≡ known_at s bytes

  pub record BoundLaws : Type 0 where
    pub heard : HeardAreMessages W
    pub rise : (M : Message F) → IsMessage W M → RangesRise M
    pub first_stops : InitiatorStops S
    pub second_stops : ResponderStops S
    pub limits : EndsKeepLimits S
    pub first_learns : InitiatorLearns S
    pub second_learns : ResponderLearns S
    pub few : OwnIsFew S
    pub short : OwnIsShort S
    pub read : (steps : List ℕ) (cap n : ℕ) → n ≤ cap → slice_index (ranks_by steps cap) n ≡ rank_by steps n
