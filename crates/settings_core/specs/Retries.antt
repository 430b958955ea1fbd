-- How a session is tried again.
--     pause_before n     the seconds before the try that n others came before: 1, 2, 4 .. and at most 60
use Rattle.std.specs.Prelude.{ℕ, ◌^◌, nat_lt, if◌then◌else◌}

abbrev pub pause_before : ℕ → ℕ
pause_before again = if nat_lt again 6 then 2 ^ again else 60
