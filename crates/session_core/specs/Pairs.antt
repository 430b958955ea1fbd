-- Two sessions, each of which is pushed all that is taken of the other, and nothing else.
--     IsServed a items                        a set of items within the cap of an accepted strategy
--     AreJoined I R c d asked answered        neither has anything due
--     HasEnded s c pushed                     a session that has ended, with the end that these bytes make
--     HaveTalked I R p r c d asked answered Ms      both have, and their messages are those of the talk Ms
--     SessionsMeet a b                        so it is of any two sessions, however their bytes were cut
use Rattle.std.specs.Prelude.{◌≡◌, ℕ, ◌<◌, ◌≤◌, List, [], length}
use Rattle.std.specs.List.{AllByRecursion}
use Rattle.definitions.specs.Fingerprints.{Summary}
use Rattle.definitions.specs.Items.{Item, IsItem}
use Rattle.definitions.specs.Sets.{IsSet}
use Rattle.definitions.specs.Messages.{Message}
use Rattle.definitions.specs.Ranks.{rank_by}
use Rattle.definitions.specs.Replies.{Peer}
use Rattle.definitions.specs.Talks.{talk}
use Rattle.definitions.specs.Wire.{Profile}
use Rattle.definitions.specs.Engines.{Speaker, initiating, responding}
use Rattle.definitions.specs.Worlds.{message_bound, opened_of}
use Rattle.laws.specs.Meeting.{HaveMet}
use Rattle.strategy_check.specs.Checked.{Checked}
use Rattle.ends_core.specs.Sides.{peer_of, session_at}
use Rattle.session_core.specs.Sessions.{SessionState, due, Knows}
use Rattle.session_core.specs.declared.state.State.TheVariants as states

pub record IsServed (a : Checked) (items : List Item) : Type 0 where
  pub set : IsSet items
  pub each : AllByRecursion IsItem items
  pub room : length items ≤ a.table.cap

module _ {F : Type 0} (S : Summary F) (W : Profile F) where
  -- what was taken of one was pushed to the other, and there is nothing more to take
  pub record AreJoined (I R : Peer) (c d : SessionState F) (asked answered : List ℕ) : Type 0 where
    pub initiator : Knows S W (initiating S I) c answered asked
    pub responder : Knows S W (responding S R) d asked answered
    pub none_due : (due W c.talk ≡ []) × (due W d.talk ≡ [])

  pub record HasEnded (s : Speaker F) (c : SessionState F) (pushed : List ℕ) : Type 0 where
    pub ended : c.talk.state ≡ states.Ended
    pub end : c.talk.held.end ≡ session_at S W s pushed

  -- by what the laws say of two sides over bytes, each has said its messages of the talk, few and with short lists, and
  -- knows nothing wrong; where the talk was clear each knows exactly both differences
  pub record HaveTalked (I R : Peer) (p r : ℕ) (c d : SessionState F) (asked answered : List ℕ)
      (Ms : List (Message F)) : Type 0 where
    pub initiator : HasEnded (initiating S I) c answered
    pub responder : HasEnded (responding S R) d asked
    pub met : HaveMet S W I R p r c.over d.over asked answered Ms

  -- of two strategies and two sets; k is more than the talk has messages
  abbrev pub SessionsMeet : Checked → Checked → Type 0
  SessionsMeet a b = (ours theirs : List Item) (c d : SessionState F) (asked answered : List ℕ) (k : ℕ) →
      IsServed a ours → IsServed b theirs → AreJoined (peer_of a ours) (peer_of b theirs) c d asked answered →
      message_bound (opened_of S a.steps (peer_of a ours)) (rank_by b.steps (length theirs)) < k →
      HaveTalked (peer_of a ours) (peer_of b theirs) (opened_of S a.steps (peer_of a ours))
      (rank_by b.steps (length theirs)) c d asked answered (talk S (peer_of a ours) (peer_of b theirs) k)
