-- The fingerprint of the compact profile, and its laws.
--     IsPrint f                the values that are such summaries
use Rattle.std.proofs.Common.{◌≡◌, refl, arith, List, length}
use Rattle.std.proofs.lemmas.List.{length-take-le}
use Rattle.std.proofs.lemmas.Slice.Eq.{bytes_eq-Decides}
use Rattle.sha2.specs.Sha256.{sha256}
use Rattle.sha2.proofs.Facts256.{length-sha256}
use Rattle.definitions.specs.Items.{Item}
use Rattle.definitions.specs.Fingerprints.{IsExact, Print, compact_prints, counted_lanes, counted_text}
use Rattle.definitions.specs.Wire.{IsProfile, IsFingerprint, compact_profile}
use Rattle.laws.proofs.Made.{compact_real}

abbrev pub IsPrint : Print → Type 0
IsPrint f = length f ≡ 12

pub of_is_value : (A : List Item) → IsPrint (compact_prints.of A)
of_is_value A =
    let whole = length-sha256 (counted_text (counted_lanes.of A)) in
    length-take-le 12 (sha256 (counted_text (counted_lanes.of A))) (omega arith)

pub exact : IsExact compact_prints
exact = bytes_eq-Decides

pub real : IsProfile compact_profile
real = compact_real

pub spelled : (f : Print) → IsPrint f → IsFingerprint compact_profile f
spelled f value = (value, refl)

pub fixed : (f : Print) → IsPrint f → length (compact_profile.text f) ≡ 12
fixed f value = value
