-- What a set forgets by a rule at a time, in seconds since 1970.
--     oldest newest now          before this time items are too old: it moves by a sixtieth of what is kept
--     two_digits n rest          the last two decimal digits of a number, and the rest of a text
--     iso_text t                 a date and a time of the calendar, as 2026-11-28T09:30:00
--     IsClockAt n t              a clock in UTC shows this, if a calendar has the time
--     Begins form n bytes        an item of this time begins so; of the last one if there is no room for it
--     IsTooOld newest now bound  the items below this bound are too old, if it is said how old they may be
--     IsFloorAt rule now lower   what is below this bound is forgotten, by the rule, and nothing else
use Rattle.std.specs.Prelude.{◌≡◌, ◌⊎◌, ℕ, ◌+◌, ◌-◌, ◌*◌, ◌/◌, ◌%◌, ◌^◌, pos, ◌*ℤ◌, unsigned_abs, false, min, max}
use Rattle.std.specs.Prelude.{List, [], ◌∷◌, Option, Some, None}
use Rattle.std.specs.Int.{w32, w64, to_be_bytes}
use Rattle.jiff.specs.Words.{civil_nanos, IsTimestampNanos}
use Rattle.jiff.specs.Types.{DateTime}
use Rattle.definitions.specs.Items.{comes_before}
use Rattle.shard_core.specs.declared.floor.TimeForm.{TimeForm}
use Rattle.shard_core.specs.declared.floor.TimeForm.TheVariants as forms
use Rattle.settings_core.specs.declared.floor_words.Newest.{Newest}
use Rattle.settings_core.specs.declared.floor_words.FloorRule.{FloorRule}

abbrev pub oldest : Newest → ℕ → ℕ
oldest newest now = (now - newest.seconds) / max 1 (newest.seconds / 60) * max 1 (newest.seconds / 60)

abbrev pub two_digits : ℕ → List ℕ → List ℕ
two_digits n rest = (48 + n % 100 / 10) ∷ (48 + n % 100 % 10) ∷ rest

abbrev pub iso_text : DateTime → List ℕ
iso_text t = two_digits (unsigned_abs t.date.year / 100) (two_digits (unsigned_abs t.date.year)
    (45 ∷ two_digits t.date.month (45 ∷ two_digits t.date.day
    (84 ∷ two_digits t.time.hour (58 ∷ two_digits t.time.minute (58 ∷ two_digits t.time.second []))))))

abbrev pub IsClockAt : ℕ → DateTime → Type 0
IsClockAt n t = IsTimestampNanos (pos n *ℤ pos 1_000_000_000) → civil_nanos t ≡ pos n *ℤ pos 1_000_000_000

abbrev pub Begins : TimeForm → ℕ → List ℕ → Type 0
Begins forms.Unix32 n bytes = bytes ≡ to_be_bytes w32 (min n (2 ^ 32 - 1))
Begins forms.Unix64 n bytes = bytes ≡ to_be_bytes w64 n
Begins forms.Iso n bytes = (t : DateTime) × IsClockAt n t × (bytes ≡ iso_text t)

abbrev pub IsTooOld : Option Newest → ℕ → List ℕ → Type 0
IsTooOld None now bound = bound ≡ []
IsTooOld (Some newest) now bound = Begins newest.time (oldest newest now) bound

-- the higher of both bounds
pub record IsFloorAt (rule : FloorRule) (now : ℕ) (lower : List ℕ) : Type 0 where
  pub old : List ℕ
  pub too_old : IsTooOld rule.newest now old
  pub given : comes_before lower rule.not_below ≡ false
  pub aged : comes_before lower old ≡ false
  pub one : (lower ≡ rule.not_below) ⊎ (lower ≡ old)
