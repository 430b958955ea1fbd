-- What `sync` prints of what its session cost.
--     stats_text s      messages, parts and bytes both ways, and seconds: a line each
use Rattle.std.specs.Prelude.{ℕ, ◌/◌, ◌%◌, List, ◌++◌, codes, Option, Some, None}
use Rattle.std.specs.Fmt.{decimal}
use Rattle.printing_core.specs.declared.sync_stats.Stats.{Stats}

-- thousandths of a second, as seconds to three places
abbrev pub seconds_text : Option ℕ → List ℕ
seconds_text None = codes "-"
seconds_text (Some millis) = decimal (millis / 1000) ++ (codes "." ++ (decimal (millis / 100 % 10)
    ++ (decimal (millis / 10 % 10) ++ decimal (millis % 10))))

-- a name, and what went both ways
abbrev pub both_line : List ℕ → ℕ → ℕ → List ℕ
both_line name sent received = name ++ (codes " sent " ++ (decimal sent ++ (codes " received "
    ++ (decimal received ++ codes "\n"))))

abbrev pub stats_text : Stats → List ℕ
stats_text s = both_line (codes "messages") s.sent.messages s.received.messages
    ++ (both_line (codes "parts") s.sent.parts s.received.parts
    ++ (both_line (codes "bytes") s.sent.bytes s.received.bytes
    ++ (codes "seconds " ++ (seconds_text s.millis ++ codes "\n"))))
