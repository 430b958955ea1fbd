-- The two-lane sum with the count of the items beside it, and its laws.
--     IsCounted f              the values that are such summaries
--     join_counted f g         the summary of two sets together
use Rattle.std.proofs.Common.{◌≡◌, ◌+◌, ◌%◌, ◌^◌, ◌<◌, true, ◌&&◌, ◌==◌, List, [], ◌++◌, length, ◌∙◌, ap, rules}
use Rattle.std.proofs.lemmas.List.{length-append}
use Rattle.std.proofs.lemmas.Bool.{eqb-true, eq-eqb, and_parts, and_from}
use Rattle.definitions.specs.Items.{Item}
use Rattle.definitions.specs.Fingerprints.{IsLanes, IsExact, Counted, join_lanes, same_lanes, counted_lanes}
use Rattle.definitions.specs.Wire.{IsProfile, IsFingerprint, counted_profile}
use Rattle.laws.proofs.Made.{counted_real}
use Rattle.digest_core.specs.Laws as lanes

pub record IsCounted (f : Counted) : Type 0 where
  pub count_fits : f.count < 2 ^ 32
  pub lanes_fit : IsLanes f.lanes

abbrev pub join_counted : Counted → Counted → Counted
join_counted f g = record { count = (f.count + g.count) % 2 ^ 32; lanes = join_lanes f.lanes g.lanes }

pub of_is_value : (A : List Item) → IsCounted (counted_lanes.of A)
of_is_value A = record { count_fits = search rules; lanes_fit = lanes.of_is_value A }

pub joined_is_value : (f g : Counted) → IsCounted (join_counted f g)
joined_is_value f g = record { count_fits = search rules; lanes_fit = lanes.joined_is_value f.lanes g.lanes }

pub associates : (f g h : Counted) → join_counted (join_counted f g) h ≡ join_counted f (join_counted g h)
associates f g h =
    let count : ((f.count + g.count) % 2 ^ 32 + h.count) % 2 ^ 32
    ≡ (f.count + (g.count + h.count) % 2 ^ 32) % 2 ^ 32 = search rules in
    λ i. record { count = count i; lanes = lanes.associates f.lanes g.lanes h.lanes i }

pub commutes : (f g : Counted) → join_counted f g ≡ join_counted g f
commutes f g =
    let count : (f.count + g.count) % 2 ^ 32 ≡ (g.count + f.count) % 2 ^ 32 = search rules in
    λ i. record { count = count i; lanes = lanes.commutes f.lanes g.lanes i }

pub unit : (f : Counted) → IsCounted f → join_counted (counted_lanes.of []) f ≡ f
unit f value =
    let fits = value.count_fits in
    let count : (0 + f.count) % 2 ^ 32 ≡ f.count = search (rules, fits) in
    λ i. record { count = count i; lanes = lanes.unit f.lanes value.lanes_fit i }

pub adds_up : (A B : List Item) → counted_lanes.of (A ++ B) ≡ join_counted (counted_lanes.of A) (counted_lanes.of B)
adds_up A B =
    let count : length (A ++ B) % 2 ^ 32 ≡ (length A % 2 ^ 32 + length B % 2 ^ 32) % 2 ^ 32 =
    ap (λ n. n % 2 ^ 32) (length-append A B) ∙ lanes.add_mod (2 ^ 32) (length A) (length B) in
    λ i. record { count = count i; lanes = lanes.adds_up A B i }

same-eq : (f g : Counted) → ((f.count == g.count) && same_lanes f.lanes g.lanes) ≡ true → f ≡ g
same-eq f g h =
    let both = and_parts (f.count == g.count) (same_lanes f.lanes g.lanes) h in
    let count = eqb-true f.count g.count both.0 in
    let same = (lanes.exact f.lanes g.lanes).0 both.1 in
    λ i. record { count = count i; lanes = same i }

eq-same : (f g : Counted) → f ≡ g → ((f.count == g.count) && same_lanes f.lanes g.lanes) ≡ true
eq-same f g h = and_from (f.count == g.count) (same_lanes f.lanes g.lanes)
    (eq-eqb f.count g.count (ap (λ (e : Counted). e.count) h))
    ((lanes.exact f.lanes g.lanes).1 (ap (λ (e : Counted). e.lanes) h))

pub exact : IsExact counted_lanes
exact f g = (same-eq f g, eq-same f g)

pub real : IsProfile counted_profile
real = counted_real

pub fixed : (f : Counted) → IsCounted f → length (counted_profile.text f) ≡ 36
fixed f value = search rules

pub spelled : (f : Counted) → IsCounted f → IsFingerprint counted_profile f
spelled f value =
    let fits = value.count_fits in
    let first = value.lanes_fit.first_fits in
    let second = value.lanes_fit.second_fits in
    search (rules, fits, first, second)
