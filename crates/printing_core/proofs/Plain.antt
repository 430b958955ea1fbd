-- A text that stands for itself, by what the code finds of its bytes.
-- Bytes are UTF-8 by the decision just where they are by the relation. So where they are none nothing is plain, and
-- where they are, without a control character and with neither mark in front, they are plain.
use Rattle.std.proofs.Common.{◌≡◌, ℕ, Bool, true, false, List, Some, None, refl}
use Rattle.std.specs.Prelude.{chars}
use Rattle.std.specs.Char.{is_control}
use Rattle.std.specs.List.{list_any}
use Rattle.std.specs.Str.{is_utf8, IsUtf8}
use Rattle.std.proofs.lemmas.Str.{IsUtf8-from_is_utf8, is_utf8-from_IsUtf8}
use Rattle.item_files.specs.ItemFiles.{is_marked, has_byte_order_mark}
use Rattle.printing_core.specs.ItemTexts.{plain_text}

no_text : (x : List ℕ) → (IsUtf8 x → ⊥) → is_utf8 x ≡ false
no_text x fails = by (is_utf8 x) refl
  where
    by : (b : Bool) → is_utf8 x ≡ b → b ≡ false
    by true is = absurd (fails (IsUtf8-from_is_utf8 x is))
    by false is = refl

pub nothing_plain : (x : List ℕ) → (IsUtf8 x → ⊥) → None ≡ plain_text x
nothing_plain x fails = rw (no_text x fails) refl

pub all_plain : (x : List ℕ) → IsUtf8 x → list_any is_control (chars x) ≡ false → is_marked x ≡ false →
    has_byte_order_mark x ≡ false → Some x ≡ plain_text x
all_plain x text control unmarked orderless = rw (is_utf8-from_IsUtf8 x text, control, unmarked, orderless) refl
