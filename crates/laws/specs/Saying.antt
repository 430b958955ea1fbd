-- What an end says, one message after another.
--     Said S e Ms      of an end after some messages: how many it sent; one message more; and any after its session's
--                      end
--     EndsSay S        of every end
use Rattle.std.specs.Prelude.{◌≡◌, ◌+◌, false, List, [], ◌∷◌, ◌++◌, length}
use Rattle.definitions.specs.Fingerprints.{Summary}
use Rattle.definitions.specs.Messages.{Message}
use Rattle.definitions.specs.Ends.{End, answer, heard, is_live}
use Rattle.definitions.specs.Engines.{answers, replied}

pub record Said {F : Type 0} (S : Summary F) (e : End F) (Ms : List (Message F)) : Type 0 where
  -- each message that it says is counted as sent
  pub counted : (heard S e Ms).sent ≡ e.sent + length (answers S e Ms)
  pub more : (M : Message F) → answers S e (Ms ++ M ∷ []) ≡ answers S e Ms ++ replied (answer S (heard S e Ms) M)
  -- it says nothing more, and stays as it is, once its session is over or it is spent
  pub over : (rest : List (Message F)) → is_live (heard S e Ms).stage ≡ false →
      (answers S e (Ms ++ rest) ≡ answers S e Ms) × (heard S e (Ms ++ rest) ≡ heard S e Ms)

abbrev pub EndsSay : {F : Type 0} → Summary F → Type 0
EndsSay {F} S = (e : End F) (Ms : List (Message F)) → Said S e Ms
