-- What a session costs.
--     turn_of n                      a turn of so many bytes, if it is not empty
--     Round                          a turn of each side: both sides before it, the first one when it has spoken, and
--                                    the second one when it has heard that
--     asked_by, answered_by, turns_by W rounds      what the sides said in these rounds, the last first, and the turns
--     Talks S W c d rounds e f       in each round all that is due of the first side is pushed to the second, and then
--                                    all that is due of the second to the first
--     HaveSpoken S W c d e f turns   there are such rounds, with these turns
--     Costs S W a theirs ours turns messages     the cost of a session between two sides of an accepted strategy, which
--                                                both come to its end
--     CostsFrom S W a theirs c turns messages    the same of each initiator's set with which the side c begins
--     CostsSample S W a sample turns messages    the same, for the two sets of a sample
use Rattle.std.specs.Prelude.{◌≡◌, ℕ, ◌+◌, ◌<◌, ◌≤◌, ◌==◌, List, [], ◌∷◌, ◌++◌, length, sum, if◌then◌else◌}
use Rattle.definitions.specs.Fingerprints.{Summary}
use Rattle.definitions.specs.Items.{Item}
use Rattle.definitions.specs.Sets.{IsSet}
use Rattle.definitions.specs.Ranks.{rank_by}
use Rattle.definitions.specs.Engines.{initiating, responding}
use Rattle.definitions.specs.Wire.{Profile}
use Rattle.definitions.specs.Talks.{talk}
use Rattle.definitions.specs.Worlds.{message_bound, opened_of}
use Rattle.strategy_check.specs.Checked.{Checked}
use Rattle.ends_core.specs.Sides.{peer_of}
use Rattle.session_core.specs.Sessions.{SessionState, Begins, Pushes, Takes, due}
use Rattle.session_core.specs.Pairs.{IsServed, AreJoined, HaveTalked}
use Rattle.sim_core.specs.Samples.{AreMade}
use Rattle.sim_core.specs.declared.sample.Sample.{Sample}

abbrev pub turn_of : ℕ → List ℕ
turn_of n = if n == 0 then [] else n ∷ []

pub record Round (F : Type 0) : Type 0 where
  pub first : SessionState F
  pub second : SessionState F
  pub spoken : SessionState F
  pub heard : SessionState F

abbrev pub asked_by : {F : Type 0} → Profile F → List (Round F) → List ℕ
asked_by W [] = []
asked_by W (r ∷ rs) = asked_by W rs ++ due W r.first.talk

abbrev pub answered_by : {F : Type 0} → Profile F → List (Round F) → List ℕ
answered_by W [] = []
answered_by W (r ∷ rs) = answered_by W rs ++ due W r.heard.talk

abbrev pub turns_by : {F : Type 0} → Profile F → List (Round F) → List ℕ
turns_by W [] = []
turns_by W (r ∷ rs) =
    (turns_by W rs ++ turn_of (length (due W r.first.talk))) ++ turn_of (length (due W r.heard.talk))

module _ {F : Type 0} (S : Summary F) (W : Profile F) where
  -- from the sides c and d to the sides e and f
  abbrev pub Talks : SessionState F → SessionState F → List (Round F) → SessionState F → SessionState F → Type 0
  Talks c d [] e f = (e ≡ c) × (f ≡ d)
  Talks c d (r ∷ rs) e f = Talks c d rs r.first r.second
      × Takes S W r.first (due W r.first.talk) r.spoken × Pushes S W r.second (due W r.first.talk) r.heard
      × Takes S W r.heard (due W r.heard.talk) f × Pushes S W r.spoken (due W r.heard.talk) e

  pub record HaveSpoken (c d e f : SessionState F) (turns : List ℕ) : Type 0 where
    pub rounds : List (Round F)
    pub talks : Talks c d rounds e f
    pub are : turns ≡ turns_by W rounds

  -- the turns are what was due of one side and of the other, from their beginning to the end of both, whose messages
  -- are those of the talk of the two sets; a side has said no more messages than it may
  pub record Costs (a : Checked) (theirs ours : List Item) (turns : List ℕ) (messages : ℕ) : Type 0 where
    pub first : SessionState F
    pub second : SessionState F
    pub last : SessionState F
    pub end : SessionState F
    pub begins : Begins S W a (initiating S (peer_of a ours)) first
        × Begins S W a (responding S (peer_of a theirs)) second
    pub spoken : HaveSpoken first second last end turns
    pub joined : AreJoined S W (peer_of a ours) (peer_of a theirs) last end (asked_by W spoken.rounds)
        (answered_by W spoken.rounds)
    pub talked : (k : ℕ) →
        message_bound (opened_of S a.steps (peer_of a ours)) (rank_by a.steps (length theirs)) < k →
        HaveTalked S W (peer_of a ours) (peer_of a theirs) (opened_of S a.steps (peer_of a ours))
        (rank_by a.steps (length theirs)) last end (asked_by W spoken.rounds) (answered_by W spoken.rounds)
        (talk S (peer_of a ours) (peer_of a theirs) k)
    pub said : messages ≡ last.talk.held.end.sent + end.talk.held.end.sent
    pub few : messages ≤ (opened_of S last.talk.held.steps last.talk.held.end.peer + 2)
        + (rank_by end.talk.held.steps (length end.talk.held.end.peer.items) + 1)

  abbrev pub CostsFrom : Checked → List Item → SessionState F → List ℕ → ℕ → Type 0
  CostsFrom a theirs c turns messages = (ours : List Item) → IsServed a ours →
      Begins S W a (initiating S (peer_of a ours)) c → Costs a theirs ours turns messages

  pub record CostsSample (a : Checked) (sample : Sample) (turns : List ℕ) (messages : ℕ) : Type 0 where
    pub theirs : List Item
    pub ours : List Item
    pub sets : IsSet theirs × IsSet ours
    pub fit : (length theirs ≤ sample.items) × (length ours ≤ sample.items)
    pub made : AreMade sample theirs ours
    pub costs : Costs a theirs ours turns messages
