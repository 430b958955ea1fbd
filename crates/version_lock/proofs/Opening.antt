-- The rule holds when a lock is made, and no seat but a note can come from nothing: the first has the whole, so that
-- none is left for a second one.
use Rattle.std.proofs.Common.{◌≡◌, ℕ, ◌-◌, ◌<◌, ◌≤◌, false, inl, suc, zero, [], ◌∷◌, Some, refl, sym, subst, append-nil}
use Rattle.std.proofs.Common.{arith}
use Rattle.std.proofs.lemmas.List.Elements.{All-nil}
use mathlib.Core.Option as maybe
use Rattle.atomic_table.specs.Table.{Enters, Arrives}
use Rattle.definitions.specs.Histories.{History}
use Rattle.version_log.specs.Logs.{LogState, IsLog}
use Rattle.version_lock.specs.declared.view.View.{View}
use Rattle.version_lock.specs.Beginnings.{StartsWith}
use Rattle.version_lock.specs.Lawful.{Fits, HasLog, Lawful, EnteredBy, Blank, Shared}
use Rattle.version_lock.specs.Tables.{made}
use Rattle.version_lock.specs.Views.{first_view, HasWhole}
use Rattle.version_lock.specs.Steps.{Mine}
use Rattle.version_lock.proofs.Doubling.{doubled_none}
use Rattle.version_lock.proofs.Shares.{no_part, weighs_all}
use Rattle.version_lock.proofs.Seated.{At, no_writer}

-- the only view
only : (P : ℕ → View → Type 0) (v : View) → P 0 v → (id : ℕ) (u : View) → At (v ∷ []) id u → P id u
only P v p zero u e = subst (P 0) (maybe.some-injective v u e) p
only P v p (suc id) u e = absurd (maybe.some-ne-none u (sym e))

pub has_opened : (l : LogState) → IsLog l → HasLog l l (made l)
has_opened l good = let v : View = first_view l in record {
  one = record {
    is_log = good;
    place = inl record { word = refl; home = refl; nobody = only (λ _ u. u.holding ≡ false) v refl };
    each = only (λ _ u. u.spent ≡ false → Fits l u) v (λ _. record {
      cap = refl;
      seen = ([], sym (append-nil l.history));
      joined = All-nil (λ (seen : History). StartsWith l.history seen);
      mine = λ n e. absurd (no_writer e);
    });
    apart = λ i j a b n ati atj la lb wa wb. absurd
        (only (λ _ u. u.writer ≡ Some n → ⊥) v (λ e. no_writer e) i a ati wa);
    cap = refl;
    begins = ([], sym (append-nil l.history));
    entries = refl;
    each_later = All-nil (EnteredBy (v ∷ []));
    numbers = omega arith;
  };
  shared = record {
    level = 0;
    low = only (λ _ u. u.halvings ≤ 0) v (omega arith);
    sum = refl;
    blank = only (λ _ u. u.parts ≡ 0 → Blank u) v (λ e. absurd (no_part v (omega arith) e));
    same = only (λ _ u. u.spent ≡ false → (u.opened ≡ l.history) × (u.first_number ≡ l.next_writer)) v
        (λ _. (refl, refl));
  };
}

pub opens : (l : LogState) → IsLog l → Lawful l (made l)
opens l good = record { log = l; has = has_opened l good }

-- ---- no seat comes from nothing

-- beside a view that has the whole every other one is a note
alone : (o : LogState) (v w : View) → HasWhole v → Shared o (v ∷ w ∷ []) → w.parts ≡ 0
alone o v w whole k =
    let all = weighs_all o (v ∷ w ∷ []) 0 v refl whole k in
    doubled_none (k.level - w.halvings) w.parts (omega (arith, all))

pub none_enters : (l : LogState) → IsLog l → (then : ℕ → View → Type 0) →
    ((n : ℕ) (w : View) → then n w → 0 < w.parts) → Enters (Lawful l) 1 0 then → ⊥
none_enters l good then some enters =
    let now = enters (made l) (opens l good) refl (omega arith) in
    no_part now.0 (some _ now.0 now.2) (alone l (first_view l) now.0 refl now.1.has.shared)

pub none_arrives : (l : LogState) → IsLog l → (f : ℕ → ℕ) (then : ℕ → Mine → Type 0) →
    ((n : ℕ) (m : Mine) → then n m → 0 < m.0.parts) → Arrives (Lawful l) 1 0 f then → ⊥
none_arrives l good f then some arrives =
    let now = arrives (made l) (opens l good) refl (omega arith) in
    no_part now.0 (some _ _ now.4) (alone l (first_view l) now.0 refl now.3.has.shared)
