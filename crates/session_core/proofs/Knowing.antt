-- What a session that has ended has learned: by the laws of one end, what the messages say that it took.
use Rattle.std.proofs.Common.{◌≡◌, ◌≢◌, ℕ, List, IsTrue, ap, ◌∙◌, subst}
use Rattle.definitions.specs.Fingerprints.{Summary}
use Rattle.definitions.specs.Replies.{Peer}
use Rattle.definitions.specs.Wire.{Profile}
use Rattle.definitions.specs.Ends.{Stage, Spent, is_over}
use Rattle.definitions.specs.Engines.{messages_in}
use Rattle.definitions.specs.Theorems.{InitiatorLearns, ResponderLearns}
use Rattle.definitions.specs.Worlds.{Side}
use Rattle.definitions.specs.Worlds as worlds
use Rattle.ends_core.specs.Sides.{known_at, session_at}
use Rattle.session_core.specs.Sessions.{SessionState, IsEnd, Knows, speaker_of}
use Rattle.session_core.specs.declared.state.State.{State}
use Rattle.session_core.specs.declared.state.State.TheVariants as states

over-unspent : {F : Type 0} (s : Stage F) → IsTrue (is_over s) → s ≢ Spent
over-unspent {F} s over = λ spent. let wrong = subst (λ (t : Stage F). IsTrue (is_over t)) spent over in absurd cc

module _ {F : Type 0} (S : Summary F) (W : Profile F) where
  pub learned-known : InitiatorLearns S → ResponderLearns S → (side : Side) (P : Peer) (c : SessionState F)
      (pushed taken : List ℕ) → c.talk.state ≡ states.Ended → Knows S W (speaker_of S side P) c pushed taken →
      c.talk.held.end.learned ≡ known_at S W (speaker_of S side P) pushed
  learned-known first second side P c pushed taken is k = by side end where
    end : IsEnd S W states.Ended c.talk.held.end (session_at S W (speaker_of S side P) pushed)
    end =
        subst (λ (x : State). IsEnd S W x c.talk.held.end (session_at S W (speaker_of S side P) pushed)) is k.tells.end

    by : (x : Side) → IsEnd S W states.Ended c.talk.held.end (session_at S W (speaker_of S x P) pushed) →
        c.talk.held.end.learned ≡ known_at S W (speaker_of S x P) pushed
    by worlds.Initiator (is, over) =
        ap (λ e. e.learned) is ∙ first P (messages_in W pushed) (over-unspent _ over)
    by worlds.Responder (is, over) =
        ap (λ e. e.learned) is ∙ second P (messages_in W pushed) (over-unspent _ over)
