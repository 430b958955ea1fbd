-- Hellos over standard input and output.
--     hello_in p          the hello of a wire profile
--     spoken_by hello     the wire profile of a hello, if it is one
--     own_hello hello     our hello to a peer with this one: in its profile, or else in profile 1
use Rattle.std.specs.Prelude.{ℕ, List, bytes_eq, Option, Some, None, unwrap_or, if◌then◌else◌}
use Rattle.definitions.specs.Wire.{two_lane_profile, counted_profile, compact_profile}
use Rattle.watch_core.specs.declared.profile.SpokenProfile.{SpokenProfile}
use Rattle.watch_core.specs.declared.profile.SpokenProfile.TheVariants as profiles

abbrev pub hello_in : SpokenProfile → List ℕ
hello_in profiles.One = two_lane_profile.hello
hello_in profiles.Two = counted_profile.hello
hello_in profiles.Compact = compact_profile.hello

abbrev pub spoken_by : List ℕ → Option SpokenProfile
spoken_by hello =
    if bytes_eq hello two_lane_profile.hello then Some profiles.One
    else if bytes_eq hello counted_profile.hello then Some profiles.Two
    else if bytes_eq hello compact_profile.hello then Some profiles.Compact
    else None

abbrev pub own_hello : List ℕ → List ℕ
own_hello hello = hello_in (unwrap_or (spoken_by hello) profiles.One)
