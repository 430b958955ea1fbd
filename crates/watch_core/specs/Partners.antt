-- How the partners of a server stand.
--     turn_of o         how a turn ended whose last session ended so; one whose bytes ended in the middle was cut off
--     is_away t         the partner was not reached, or was cut off
--     is_up p           the last turn with the partner ended
--     is_behind p       more than three turns in a row with it did not end
--     behind ps         of how many partners they did not
--     state_text p      how it stands, in a word
--     seconds_ago p     how many seconds ago the last turn ended that did
use Rattle.std.specs.Prelude.{ℕ, ◌/◌, ◌==◌, ◌&&◌, Bool, nat_lt, if◌then◌else◌, List, codes, count_by, Option}
use Rattle.std.specs.Prelude.{Some, None, option_map, true, false}
use Rattle.session_table.specs.declared.outcome.Outcome.{Outcome}
use Rattle.session_table.specs.declared.outcome.Outcome.TheVariants as outcomes
use Rattle.watch_core.specs.declared.partnered.Partnered.{Partnered}
use Rattle.watch_core.specs.declared.turn.Turn.{Turn}
use Rattle.watch_core.specs.declared.turn.Turn.TheVariants as turns

-- 3 is the refusal of bytes that end in the middle of a message
abbrev pub refusing : ℕ → Turn
refusing code = if code == 3 then turns.CutOff else turns.Refuses code

abbrev pub is_away : Turn → Bool
is_away turns.NotReached = true
is_away turns.CutOff = true
is_away t = false

abbrev pub turn_of : Outcome → Turn
turn_of (outcomes.Ended learned sent version) = turns.Ended
turn_of (outcomes.Refused code sent) = refusing code
turn_of (outcomes.PeerRefused code sent) = turns.IsRefused code
turn_of (outcomes.Io side sent) = turns.CutOff
turn_of (outcomes.Memory sent) = turns.CutOff

abbrev pub is_up : Partnered → Bool
is_up p = (p.behind == 0) && nat_lt 0 p.ended

abbrev pub is_behind : Partnered → Bool
is_behind p = nat_lt 3 p.behind

abbrev pub behind : List Partnered → ℕ
behind ps = count_by is_behind ps

-- by how the last turn was that did not end
abbrev pub fault_state : Option Turn → List ℕ
fault_state (Some (turns.Refuses code)) = codes "refused"
fault_state (Some (turns.IsRefused code)) = codes "refused"
fault_state t = codes "away"

abbrev pub state_text : Partnered → List ℕ
state_text p = if is_up p then codes "up" else if p.behind == 0 then codes "new" else fault_state p.fault

abbrev pub seconds_ago : Partnered → Option ℕ
seconds_ago p = option_map (λ n. n / 1000) p.silent
