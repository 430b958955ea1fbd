-- Laws of the two-lane fingerprint.
use Rattle.std.proofs.Common.{◌≡◌, ℕ, ◌+◌, ◌%◌, ◌^◌, List, [], ◌++◌, ◌∙◌, sym, ap, rules}
use Rattle.std.specs.Prelude.{sum_by, take, drop, length}
use Rattle.std.specs.Int.{w128, from_be_bytes}
use Rattle.std.proofs.Math.Nat.{add-mod-mod, mod-add-mod}
use Rattle.std.proofs.lemmas.List.Sums.{sum_by-append}
use Rattle.sha2.specs.Sha256.{sha256}
use Rattle.definitions.specs.Items.{Item}
use Rattle.definitions.specs.Fingerprints.{Lanes, IsLanes, IsExact, join_lanes, two_lanes}
use Rattle.definitions.specs.Wire.{IsProfile, IsFingerprint, two_lane_profile}
use Rattle.laws.proofs.Made.{two_lanes_real}

pub add_mod : (m a b : ℕ) → (a + b) % m ≡ (a % m + b % m) % m
add_mod m a b = sym (mod-add-mod a m (b % m) ∙ add-mod-mod a b m)

-- where each sum over C is the sum of those over A and B, so is the fingerprint
pub joined_from_sums : (A B C : List Item) → ((f : Item → ℕ) → sum_by f C ≡ sum_by f A + sum_by f B) →
    two_lanes.of C ≡ join_lanes (two_lanes.of A) (two_lanes.of B)
joined_from_sums A B C sums =
    let lane : (f : Item → ℕ) → sum_by f C % 2 ^ 128 ≡ (sum_by f A % 2 ^ 128 + sum_by f B % 2 ^ 128) % 2 ^ 128 =
    λ f. ap (λ n. n % 2 ^ 128) (sums f) ∙ add_mod (2 ^ 128) (sum_by f A) (sum_by f B) in
    λ i. record {
      first = lane (λ x. from_be_bytes w128 (take 16 (sha256 x))) i;
      second = lane (λ x. from_be_bytes w128 (drop 16 (sha256 x))) i;
    }

pub adds_up : (A B : List Item) → two_lanes.of (A ++ B) ≡ join_lanes (two_lanes.of A) (two_lanes.of B)
adds_up A B = joined_from_sums A B (A ++ B) (λ f. sum_by-append f A B)

pub of_is_value : (A : List Item) → IsLanes (two_lanes.of A)
of_is_value A = search rules

pub joined_is_value : (f g : Lanes) → IsLanes (join_lanes f g)
joined_is_value f g = search rules

pub associates : (f g h : Lanes) → join_lanes (join_lanes f g) h ≡ join_lanes f (join_lanes g h)
associates f g h = search rules

pub commutes : (f g : Lanes) → join_lanes f g ≡ join_lanes g f
commutes f g = search rules

pub unit : (f : Lanes) → IsLanes f → join_lanes (two_lanes.of []) f ≡ f
unit f value = search rules

pub exact : IsExact two_lanes
exact f g = search rules

pub real : IsProfile two_lane_profile
real = two_lanes_real

pub fixed : (f : Lanes) → IsLanes f → length (two_lane_profile.text f) ≡ 32
fixed f value = search rules

pub spelled : (f : Lanes) → IsLanes f → IsFingerprint two_lane_profile f
spelled f value =
    let first = value.first_fits in
    let second = value.second_fits in
    search (rules, first, second)
