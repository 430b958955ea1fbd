-- How a talk, and what is known of it, grows by one message.
--     TalksGrow S          each message is the other's reply to the one before
--     KnowledgeGrows       only its hearer learns from a message
use Rattle.std.specs.Prelude.{◌≡◌, ℕ, zero, suc, ◌+◌, Bool, true, not, List, [], ◌∷◌, ◌++◌, take, get_or, slice_get}
use Rattle.std.specs.Prelude.{Some, if◌then◌else◌}
use Rattle.definitions.specs.Items.{Item}
use Rattle.definitions.specs.Fingerprints.{Summary}
use Rattle.definitions.specs.Messages.{Message, has_open}
use Rattle.definitions.specs.Replies.{Peer, reply}
use Rattle.definitions.specs.Talks.{talk, sender, learn, and_then, initiator_knows, responder_knows}

abbrev pub TalksGrow : {F : Type 0} → Summary F → Type 0
TalksGrow {F} S = (I R : Peer) (k : ℕ) (M : Message F) → slice_get (talk S I R (k + 1)) k ≡ Some M →
    talk S I R (k + 2) ≡ talk S I R (k + 1) ++ (if has_open M then reply S (sender I R (k + 1)) M ∷ [] else [])

-- the initiator sends these
abbrev pub is_even : ℕ → Bool
is_even zero = true
is_even (suc n) = not (is_even n)

-- the message that message number k answers: the first answers nothing
abbrev pub answered : {F : Type 0} → List (Message F) → ℕ → Message F
answered Ms k = get_or ([] ∷ Ms) k []

abbrev pub KnowledgeGrows : (F : Type 0) → Type 0
KnowledgeGrows F = (A : List Item) (Ms : List (Message F)) (k : ℕ) (M : Message F) → slice_get Ms k ≡ Some M →
    (initiator_knows A (take (k + 1) Ms) ≡ (if is_even k then initiator_knows A (take k Ms)
    else and_then (initiator_knows A (take k Ms)) (learn A (answered Ms k) M)))
    × (responder_knows A (take (k + 1) Ms) ≡ (if is_even k
    then and_then (responder_knows A (take k Ms)) (learn A (answered Ms k) M) else responder_knows A (take k Ms)))
