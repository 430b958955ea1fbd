-- The time of a session on a line, in microseconds. What is above the greatest number of 64 bits counts as that number.
--     turn_micros line window bytes     a turn of a side with this window, and its window then
--     line_micros line turns            a session with these turns
use Rattle.std.specs.Prelude.{ℕ, zero, suc, ◌-◌, ◌*◌, ◌/◌, Bool, ◌&&◌, nat_lt, List, [], ◌∷◌, if◌then◌else◌}
use Rattle.session_core.specs.Sizes.{plus, times}
use Rattle.sim_core.specs.declared.line.Line.{Line}

-- eight bits a byte, and so many bits a microsecond
abbrev pub micros_of : ℕ → ℕ → ℕ
micros_of bytes rate = times bytes 8 / rate

abbrev pub round_trip : Line → ℕ
round_trip line = line.round_trip * 1000

-- more is left than the window, and a window takes less than a round trip
abbrev pub waits : Line → ℕ → ℕ → Bool
waits line window left = nat_lt window left && nat_lt (micros_of window line.rate) (round_trip line)

abbrev pub ends_turn : Line → ℕ → ℕ → ℕ → ℕ × ℕ
ends_turn line window left micros = (plus micros (micros_of left line.rate), window)

-- a round trip for each window, which is twice as wide as the one before; n is no less than the bytes that are left
abbrev pub turn_from : Line → ℕ → ℕ → ℕ → ℕ → ℕ × ℕ
turn_from line zero window left micros = ends_turn line window left micros
turn_from line (suc n) window left micros =
    if waits line window left
    then turn_from line n (times window 2) (left - window) (plus micros (round_trip line))
    else ends_turn line window left micros

abbrev pub turn_micros : Line → ℕ → ℕ → ℕ × ℕ
turn_micros line window bytes = turn_from line bytes window bytes (round_trip line / 2)

-- the next turn is that of the side with the window `own`
abbrev pub turns_from : Line → ℕ → ℕ → ℕ → List ℕ → ℕ
turns_from line own other micros [] = micros
turns_from line own other micros (turn ∷ turns) = turns_from line other (turn_micros line own turn).1
    (plus micros (turn_micros line own turn).0) turns

-- a round trip to connect, and a first window of ten segments for each side
abbrev pub line_micros : Line → List ℕ → ℕ
line_micros line turns = turns_from line 14600 14600 (round_trip line) turns
