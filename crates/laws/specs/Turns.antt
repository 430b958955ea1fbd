-- How a talk goes on, and how its two ends step through it.
--     TalksBegin S         the talk so far is how the longer one begins
--     TalksGoOn S          the number of a message, and the message after it
--     EndsHear S           who hears a message
--     EndsTalk S           what each end has learned, how many messages both have sent, and what the next one is
--                          answered
use Rattle.std.specs.Prelude.{◌≡◌, ℕ, ◌+◌, ◌≤◌, List, [], ◌∷◌, ◌++◌, length, take, slice_get, Some, None, if◌then◌else◌}
use Rattle.definitions.specs.Fingerprints.{Summary, IsExact}
use Rattle.definitions.specs.Messages.{Message, has_open}
use Rattle.definitions.specs.Replies.{Peer, reply}
use Rattle.definitions.specs.Talks.{talk, sender, initiator_knows, responder_knows}
use Rattle.definitions.specs.Ends.{End, Replies, Ends, answer, after, stage_after_reply, initiator_at, responder_at}
use Rattle.definitions.specs.Theorems.{Ready}
use Rattle.laws.specs.Growing.{is_even}

abbrev pub TalksBegin : {F : Type 0} → Summary F → Type 0
TalksBegin S = (I R : Peer) (k n : ℕ) → k ≤ n → take k (talk S I R n) ≡ talk S I R k

-- M is message number k
pub record GoesOn {F : Type 0} (S : Summary F) (I R : Peer) (k : ℕ) (M : Message F) : Type 0 where
  pub number : length (talk S I R k) ≡ k
  pub last : talk S I R (k + 1) ≡ talk S I R k ++ M ∷ []
  pub next : slice_get (talk S I R (k + 2)) (k + 1)
      ≡ (if has_open M then Some (reply S (sender I R (k + 1)) M) else None)

abbrev pub TalksGoOn : {F : Type 0} → Summary F → Type 0
TalksGoOn {F} S = (I R : Peer) (k : ℕ) (M : Message F) → slice_get (talk S I R (k + 1)) k ≡ Some M → GoesOn S I R k M

-- the ends that heard k messages: the one that sent the next, and the one that is to hear it
abbrev pub speaker_at : {F : Type 0} → Summary F → Peer → Peer → ℕ → End F
speaker_at S I R k = if is_even k then initiator_at S I R k else responder_at S I R k

abbrev pub hearer_at : {F : Type 0} → Summary F → Peer → Peer → ℕ → End F
hearer_at S I R k = if is_even k then responder_at S I R k else initiator_at S I R k

pub record Hears {F : Type 0} (S : Summary F) (I R : Peer) (k : ℕ) (M : Message F) : Type 0 where
  pub initiator : initiator_at S I R (k + 1)
      ≡ (if is_even k then initiator_at S I R k else after S (initiator_at S I R k) M)
  pub responder : responder_at S I R (k + 1)
      ≡ (if is_even k then after S (responder_at S I R k) M else responder_at S I R k)

abbrev pub EndsHear : {F : Type 0} → Summary F → Type 0
EndsHear {F} S = (I R : Peer) (k : ℕ) (M : Message F) → slice_get (talk S I R (k + 1)) k ≡ Some M → Hears S I R k M

-- the two ends after k messages
pub record TakeTurns {F : Type 0} (S : Summary F) (I R : Peer) (k : ℕ) : Type 0 where
  pub initiator_learned : (initiator_at S I R k).learned ≡ initiator_knows I.items (talk S I R k)
  pub responder_learned : (responder_at S I R k).learned ≡ responder_knows R.items (talk S I R k)
  -- each message that was made was sent
  pub sent : (initiator_at S I R k).sent + (responder_at S I R k).sent ≡ length (talk S I R (k + 1))
  -- the next message, if there is one, is what its speaker sent last
  pub spoken : (M : Message F) → slice_get (talk S I R (k + 1)) k ≡ Some M →
      (speaker_at S I R k).stage ≡ stage_after_reply M
  -- and is not refused
  pub answered : (M : Message F) → slice_get (talk S I R (k + 1)) k ≡ Some M →
      answer S (hearer_at S I R k) M ≡ (if has_open M then Replies (reply S (sender I R (k + 1)) M) else Ends)

-- of sets that are small enough for each reply to be sent
abbrev pub EndsTalk : {F : Type 0} → Summary F → Type 0
EndsTalk S = IsExact S → (I R : Peer) (f g : List ℕ) (k : ℕ) → Ready I f → Ready R g → length I.items ≤ 65536 →
    length R.items ≤ 65536 → TakeTurns S I R k
