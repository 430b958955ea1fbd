-- The profile that the first four bytes choose.
--     begins_with_hello P bytes    whether bytes begin with the hello of the profile P
--     is_counted, is_compact       whether they begin with the hello of the counted profile, of the compact one
--     ChosenSpeaks .., ChosenUnopened .., ChosenFirst ..     `Speaks`, `Unopened` and `CameFirst` in that profile
use Rattle.std.specs.Prelude.{◌≡◌, ℕ, ◌⊎◌, Bool, true, false, List, take, bytes_eq, Option}
use Rattle.definitions.specs.Accounts.{Seen}
use Rattle.definitions.specs.Fingerprints.{two_lanes, counted_lanes, compact_prints}
use Rattle.definitions.specs.Engines.{responding}
use Rattle.definitions.specs.Replies.{Peer}
use Rattle.definitions.specs.Wire.{Profile, two_lane_profile, counted_profile, compact_profile}
use Rattle.session_table.specs.declared.outcome.Outcome.{Outcome}
use Rattle.peer_threads.specs.Outcomes.{Traffic, Origin, Speaks, SpeaksUnopened, CameFirst}
use Rattle.session_table.specs.Sent.{sent_in}

abbrev pub begins_with_hello : {F : Type 0} → Profile F → List ℕ → Bool
begins_with_hello P bytes = bytes_eq (take 4 bytes) P.hello

-- bytes that begin with the hello of one of these two profiles are heard in it, and all others in that of two lanes
abbrev pub is_counted : List ℕ → Bool
is_counted bytes = begins_with_hello counted_profile bytes

abbrev pub is_compact : List ℕ → Bool
is_compact bytes = begins_with_hello compact_profile bytes

-- one of three that bytes choose: of the counted profile, of the compact one, of that of two lanes
abbrev pub Chosen : {A B C : Type 0} → (A → List ℕ) → (B → List ℕ) → (C → List ℕ) → Type 0
Chosen {A} {B} {C} counted compact plain =
    ((x : A) × (is_counted (counted x) ≡ true))
    ⊎ (((x : B) × (is_compact (compact x) ≡ true))
    ⊎ ((x : C) × (is_counted (plain x) ≡ false) × (is_compact (plain x) ≡ false)))

-- the side that answers, in the profile that the bytes choose
abbrev pub ChosenSpeaks : Type 0 → Peer → ℕ → ℕ → ℕ → Traffic → Seen → Seen → Outcome → Type 0
ChosenSpeaks fits p version bound limit t r w o = Chosen
    {A = Speaks counted_lanes counted_profile fits (responding counted_lanes p) version bound limit t r w o}
    {B = Speaks compact_prints compact_profile fits (responding compact_prints p) version bound limit t r w o}
    {C = Speaks two_lanes two_lane_profile fits (responding two_lanes p) version bound limit t r w o} (λ x. x.bytes)
    (λ x. x.bytes) (λ x. x.bytes)

-- no message was said, and what the outcome says holds of whoever would have answered
pub record ChosenUnopened (t : Traffic) (r w : Seen) (o : Outcome) : Type 0 where
  pub none : sent_in o ≡ 0
  pub anyone : (p : Peer) (version : ℕ) → Chosen
      {A = SpeaksUnopened counted_lanes counted_profile (responding counted_lanes p) version t r w o}
      {B = SpeaksUnopened compact_prints compact_profile (responding compact_prints p) version t r w o}
      {C = SpeaksUnopened two_lanes two_lane_profile (responding two_lanes p) version t r w o}
      (λ x. x.bytes) (λ x. x.bytes) (λ x. x.bytes)

-- what was read begins with a message that may stand first
abbrev pub ChosenFirst : Origin → Option (List ℕ) → Type 0
ChosenFirst unread left = Chosen
    {A = CameFirst counted_lanes counted_profile unread left}
    {B = CameFirst compact_prints compact_profile unread left}
    {C = CameFirst two_lanes two_lane_profile unread left} (λ x. x.bytes) (λ x. x.bytes) (λ x. x.bytes)
