-- What a writer of compact text holds.
--     Wrote contents old new      what it holds and what waits for it are the same, and so is what was said
use Rattle.std.specs.Prelude.{◌≡◌, ℕ, List, Option}
use Rattle.std.specs.Io.KnownBytes.{Keeps, append_known}
use Rattle.compact_core.specs.Sendings.{PackingState}

pub record Wrote {W : Type 0} (contents : W → Option (List ℕ)) (old new : PackingState W) : Type 0 where
  pub kept : Keeps (append_known (contents old.writer) old.pending) (append_known (contents new.writer) new.pending)
  pub sending : new.sending ≡ old.sending
