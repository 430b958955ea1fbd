-- When items count as kept in a file of lines.
--     IsPut held base told text m n g         the text was told to a file that is g now; or it is left out, and
--                                             counted: n are left out now, and m were before
--     IsStored held saved durable lines f g   of the file f, which is g now: after all that was told of it these lines
--                                             were told, and the device holds all; where it is to outlive a loss of
--                                             power, what it holds was saved
--     IsStoredIn held saved durable lines f g the same of such a file; where there is none nothing is kept
--     Covers kept entered items               those kept are all that were entered, or all that were to be
use Rattle.std.specs.Prelude.{◌≡◌, ◌⊎◌, ℕ, ◌+◌, ◌-◌, ◌^◌, min, Bool, true, List, ◌++◌, Option, Some, None, ⊤}
use Rattle.std.specs.Prelude.{Result, Ok, Err, String, string_bytes}
use Rattle.std.specs.declared.alloc.Global.{Global}
use Rattle.definitions.specs.Items.{Item}
use Rattle.io_core.specs.Devices.{Holds}
use Rattle.io_core.specs.Keeping.{Kept, IsKept}

abbrev pub IsLeftOut : {D : Type 0} → (D → Option (List ℕ)) → List ℕ → List ℕ → ℕ → ℕ → Kept D → Type 0
IsLeftOut held base told m n g = (n ≡ min (m + 1) (2 ^ 64 - 1)) × IsKept held base told g

abbrev pub IsPut : {D E : Type 0} → (D → Option (List ℕ)) → List ℕ → List ℕ → Result (String Global) E → ℕ → ℕ →
    Kept D → Type 0
IsPut held base told (Ok text) m n g =
    ((n ≡ m) × IsKept held base (told ++ string_bytes text) g) ⊎ IsLeftOut held base told m n g
IsPut held base told (Err e) m n g = IsLeftOut held base told m n g

pub record IsStored {D : Type 0} (held saved : D → Option (List ℕ)) (durable : Bool) (lines : List ℕ) (f g : Kept D) :
    Type 0 where
  pub told : (base told : List ℕ) → IsKept held base told f → IsKept held base (told ++ lines) g
  pub written : (base told : List ℕ) → IsKept held base told f → Holds (held g.device) (base ++ (told ++ lines))
  pub synced : durable ≡ true → saved g.device ≡ held g.device

abbrev pub IsStoredIn : {D : Type 0} → (D → Option (List ℕ)) → (D → Option (List ℕ)) → Bool → List ℕ →
    Option (Kept D) → Option (Kept D) → Type 0
IsStoredIn held saved durable lines None g = ⊤
IsStoredIn held saved durable lines (Some f) None = ⊥
IsStoredIn held saved durable lines (Some f) (Some g) = IsStored held saved durable lines f g

abbrev pub Covers : List Item → List Item → List Item → Type 0
Covers kept entered items = (kept ≡ entered) ⊎ (kept ≡ items)
