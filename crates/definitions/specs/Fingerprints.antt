-- Fingerprints of sets. The definitions are generic over them: a profile says what its fingerprint is, and whether a
-- session may begin with a cut.
--     Summary F, IsExact S       a fingerprint of type F
--     Lanes, IsLanes f, two_lanes    the two-lane sum over SHA-256
--     join_lanes f g             the fingerprint of two sets together
--     Counted, counted_lanes     the same, with the count of items beside it
--     lanes_text f, counted_text f   the bytes of either, 32 and 36
--     Print, print_of f, compact_prints   the first 12 bytes of the digest of those 36
use Rattle.std.specs.Prelude.{◌≡◌, ℕ, ◌+◌, ◌%◌, ◌<◌, ◌^◌, Bool, true, false, ◌&&◌, ◌==◌, ◌↔◌, List, length, take, drop}
use Rattle.std.specs.Prelude.{◌++◌, IsTrue, bytes_eq, sum_by}
use Rattle.std.specs.Int.{w32, w128, from_be_bytes, to_be_bytes}
use Rattle.sha2.specs.Sha256.{sha256}
use Rattle.definitions.specs.Items.{Item}

-- the fingerprint of a set, and the test of two for equality; and whether the first message of a session may cut the
-- range of everything, or is one Sum of it
pub record Summary (F : Type 0) : Type 0 where
  pub of : List Item → F
  pub same : F → F → Bool
  pub may_cut : Bool

-- the test of equality answers equality
abbrev pub IsExact : {F : Type 0} → Summary F → Type 0
IsExact {F} S = (f g : F) → IsTrue (S.same f g) ↔ (f ≡ g)

-- two sums modulo 2 ^ 128
pub record Lanes : Type 0 where
  pub first : ℕ
  pub second : ℕ

-- the pairs of numbers that are fingerprints
pub record IsLanes (f : Lanes) : Type 0 where
  pub first_fits : f.first < 2 ^ 128
  pub second_fits : f.second < 2 ^ 128

-- lane by lane, with no carry from one to the other
abbrev pub join_lanes : Lanes → Lanes → Lanes
join_lanes f g = record { first = (f.first + g.first) % 2 ^ 128; second = (f.second + g.second) % 2 ^ 128 }

-- the sums of the two halves of each item's digest, with no carry from one to the other
abbrev pub lanes_by : (Item → List ℕ) → List Item → Lanes
lanes_by digest A = record {
  first = sum_by (λ x. from_be_bytes w128 (take 16 (digest x))) A % 2 ^ 128;
  second = sum_by (λ x. from_be_bytes w128 (drop 16 (digest x))) A % 2 ^ 128;
}

abbrev pub same_lanes : Lanes → Lanes → Bool
same_lanes f g = (f.first == g.first) && (f.second == g.second)

abbrev pub lanes_summary : (Item → List ℕ) → Summary Lanes
lanes_summary digest = record { of = lanes_by digest; same = same_lanes; may_cut = false }

-- the fingerprint of profile 1
abbrev pub two_lanes : Summary Lanes
two_lanes = lanes_summary sha256

-- the fingerprint of profile 2: the count of the items, modulo 2 ^ 32, beside the lanes
pub record Counted : Type 0 where
  pub count : ℕ
  pub lanes : Lanes

abbrev pub counted_lanes : Summary Counted
counted_lanes = record {
  of = λ A. record { count = length A % 2 ^ 32; lanes = lanes_by sha256 A };
  same = λ f g. (f.count == g.count) && same_lanes f.lanes g.lanes;
  may_cut = false;
}

-- the 32 bytes of two lanes, each with its highest byte first
abbrev pub lanes_text : Lanes → List ℕ
lanes_text f = to_be_bytes w128 f.first ++ to_be_bytes w128 f.second

-- the 36 bytes of a count and two lanes
abbrev pub counted_text : Counted → List ℕ
counted_text f = to_be_bytes w32 f.count ++ lanes_text f.lanes

-- the fingerprint of the compact profile: 12 bytes
abbrev pub Print : Type 0
Print = List ℕ

-- the first 12 bytes of the digest of the 36
abbrev pub print_of : Counted → Print
print_of f = take 12 (sha256 (counted_text f))

-- two are equal if their bytes are; the first message of a session may cut
abbrev pub compact_prints : Summary Print
compact_prints = record { of = λ A. print_of (counted_lanes.of A); same = bytes_eq; may_cut = true }
