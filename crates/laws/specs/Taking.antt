-- What an end answers to a message that it takes part by part.
--     TakenAlike S e M      the same, and it is the same end after it
--     PartsAreTaken S       of every end and every message
use Rattle.std.specs.Prelude.{◌≡◌, fold}
use Rattle.definitions.specs.Fingerprints.{Summary}
use Rattle.definitions.specs.Messages.{Message}
use Rattle.definitions.specs.Ends.{End, answer, after_answer}
use Rattle.definitions.specs.Taking.{Taken, nothing_taken, taken, taken_all, ended, after_ended, by_parts}

pub record TakenAlike {F : Type 0} (S : Summary F) (e : End F) (M : Message F) : Type 0 where
  -- all parts, and then the end
  pub at_the_end : ended (taken_all S e M) ≡ answer S e M
  pub after_it : after_ended e (taken_all S e M) (answer S e M) ≡ after_answer e M (answer S e M)
  -- the parts up to the first that is refused
  pub at_the_first : by_parts S e (nothing_taken e) M ≡ answer S e M
  -- after other parts too, the refusal of a part is the one that the end of all tells
  pub from_any : (t : Taken F) → by_parts S e t M ≡ ended (fold (taken S e) t M)

abbrev pub PartsAreTaken : {F : Type 0} → Summary F → Type 0
PartsAreTaken {F} S = (e : End F) (M : Message F) → TakenAlike S e M
