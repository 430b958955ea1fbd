-- What is counted for our message that waits.
--
-- An end keeps the open parts of its last message. If it has none, the session is over and nothing waits; and no part
-- is open, so the open parts count nothing either.
use Rattle.std.proofs.Common.{◌≡◌, Bool, true, false, [], ◌∷◌, refl, sym, ap}
use Rattle.definitions.specs.Messages.{Message, Sum, Listing, Answer, has_open, open_parts}
use Rattle.definitions.specs.Ends.{Waits, Over, own_of, stage_after_reply}
use Rattle.std.specs.Prelude.{if◌then◌else◌}
use Rattle.ends_core.specs.Sizes.{message_size}

none-open : {F : Type 0} (N : Message F) → has_open N ≡ false → open_parts N ≡ []
none-open [] none = refl
none-open (Sum X f ∷ N) none = absurd cc
none-open (Listing X items ∷ N) none = absurd cc
none-open (Answer X marks items ∷ N) none = none-open N none

pub own-after : {F : Type 0} (N : Message F) → message_size (own_of (stage_after_reply N)) ≡ message_size (open_parts N)
own-after {F} N = by (has_open N) refl where
  by : (b : Bool) → has_open N ≡ b →
      message_size (own_of (if b then Waits (open_parts N) else Over)) ≡ message_size (open_parts N)
  by true is = refl
  by false is = ap (λ (M : Message F). message_size M) (sym (none-open N is))
