-- When a partner is called again.
--     pause_after every n        the seconds after the n-th session in a row that did not come about: `every`, then
--                                twice as long each time, and at most 16 times, or a minute where that is longer
--     around millis draw         that time, up to a tenth less or more, by a number that is drawn
--     is_due due ended now news  whether it is called now: its time has come; or there is news, and its last session
--                                ended 200 milliseconds ago
use Rattle.std.specs.Prelude.{ℕ, ◌+◌, ◌-◌, ◌*◌, ◌/◌, ◌%◌, ◌^◌, nat_lt, nat_le, min, max, Bool, ◌&&◌, ◌||◌}
use Rattle.std.specs.Prelude.{if◌then◌else◌}

abbrev pub doubled : ℕ → ℕ
doubled times = if nat_lt times 6 then 2 ^ times else 64

-- 64 times is above the longest
abbrev pub pause_after : ℕ → ℕ → ℕ
pause_after every failures = min (every * doubled (failures - 1)) (max (every * 16) 60)

abbrev pub around : ℕ → ℕ → ℕ
around millis draw = millis - millis / 10 + draw % (millis / 5 + 1)

abbrev pub is_due : ℕ → ℕ → ℕ → Bool → Bool
is_due due ended now news = nat_le due now || (news && nat_le 200 (now - ended))
