-- When the first message of a peer is judged: a session is opened for these bytes.
--     is_plain came        they begin with the hello of profile 1
--     is_strange came      they begin with a hello that no profile has
--     front came           how a frame begins that may begin a session: its length, and a Sum over all items
--     long came            the length of the first frame
--     is_told rest         what comes after such a frame is known: it is the end of the message, or it is no end
--     is_due came          the first message is whole, or it is refused already, or it is too long to wait for
use Rattle.std.specs.Prelude.{ℕ, ◌+◌, ◌&&◌, ◌||◌, not, nat_eq, nat_lt, nat_le, Bool, List, [], ◌∷◌, length, take, drop}
use Rattle.std.specs.Prelude.{bytes_eq, if◌then◌else◌}
use Rattle.std.specs.Int.{w32, from_be_bytes}
use Rattle.definitions.specs.Wire.{two_lane_profile}
use Rattle.hub_core.specs.Greetings.{is_counted, is_compact}

abbrev pub is_plain : List ℕ → Bool
is_plain came = bytes_eq (take 4 came) two_lane_profile.hello

abbrev pub is_strange : List ℕ → Bool
is_strange came =
    nat_le 4 (length came) && not (is_counted came) && (not (is_compact came) && not (is_plain came))

-- a kind, two bounds in one byte each, and a fingerprint
abbrev pub front : List ℕ → List ℕ
front came =
    if is_counted came then 0 ∷ 0 ∷ 0 ∷ 39 ∷ 1 ∷ 0 ∷ 0xFF ∷ []
    else if is_compact came then 0 ∷ 0 ∷ 0 ∷ 15 ∷ 1 ∷ 0 ∷ 0xFF ∷ []
    else 0 ∷ 0 ∷ 0 ∷ 35 ∷ 1 ∷ 0 ∷ 0xFF ∷ []

abbrev pub is_front : List ℕ → Bool
is_front came = bytes_eq (take 7 (drop 4 came)) (front came)

abbrev pub long : List ℕ → ℕ
long came = from_be_bytes w32 (take 4 (drop 4 came))

-- the length of the end is 1, and its kind is one byte more
abbrev pub is_told : List ℕ → Bool
is_told rest = nat_le 4 (length rest) && not (bytes_eq rest (0 ∷ 0 ∷ 0 ∷ 1 ∷ []))

-- the first frame is whole, and no other may follow it, or what follows is known
abbrev pub is_framed : List ℕ → Bool
is_framed came = nat_le (8 + long came) (length came) && (not (is_front came) || is_told (drop (8 + long came) came))

-- the length of the first frame has come: it is none that a frame may have, or too long to wait for, or the frame is
-- judged
abbrev pub is_judged : List ℕ → Bool
is_judged came = nat_eq (long came) 0 || nat_lt 512 (long came) || is_framed came

abbrev pub is_due : List ℕ → Bool
is_due came = nat_lt 1024 (length came) || is_strange came || (nat_le 8 (length came) && is_judged came)
