-- The names of refusals.
--     session_refusal_name n    the name of the refusal of a session, by its number
use Rattle.std.specs.Prelude.{ℕ, List, ◌==◌, if◌then◌else◌, codes}

-- the refusals of the wire, of an end, and of what its process holds: its log and lock, its table and gate, its
-- listener, its input and its memory
abbrev pub session_refusal_name : ℕ → List ℕ
session_refusal_name n =
    if n == 1 then codes "BadHello"
    else if n == 2 then codes "FrameLength"
    else if n == 3 then codes "Truncated"
    else if n == 4 then codes "BadKind"
    else if n == 5 then codes "BadBound"
    else if n == 6 then codes "EmptyRange"
    else if n == 7 then codes "ItemLength"
    else if n == 8 then codes "ItemOrder"
    else if n == 9 then codes "ItemOutside"
    else if n == 10 then codes "MarkPadding"
    else if n == 11 then codes "Trailing"
    else if n == 12 then codes "TooManyParts"
    else if n == 20 then codes "Misplaced"
    else if n == 21 then codes "Stall"
    else if n == 22 then codes "Gap"
    else if n == 23 then codes "MissingAnswer"
    else if n == 24 then codes "MarkCount"
    else if n == 25 then codes "AnswerRepeats"
    else if n == 26 then codes "Spent"
    else if n == 40 then codes "Full"
    else if n == 41 then codes "Busy"
    else if n == 42 then codes "WritersSpent"
    else if n == 50 then codes "TableFull"
    else if n == 51 then codes "Unknown"
    else if n == 52 then codes "OverBound"
    else if n == 53 then codes "SerialsSpent"
    else if n == 54 then codes "GateClosed"
    else if n == 55 then codes "WrongSet"
    else if n == 56 then codes "NoShard"
    else if n == 57 then codes "BadEntry"
    else if n == 62 then codes "Accept"
    else if n == 80 then codes "CannotRead"
    else if n == 90 then codes "Memory"
    else codes "Other"
