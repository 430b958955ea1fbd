-- The least ranks and the check by the steps of a staircase alone, as a loop over the counts finds them.
--     climb_to T n         the steps below n, or the first count up to n that is cut into fewer than two parts
--     find_steps T         the same as found T
--     check_by_steps T     the same as check_fault T
use Rattle.std.specs.Prelude.{ℕ, zero, suc, ◌+◌, ◌&&◌, List, [], ◌∷◌, ◌++◌, length, max, nat_lt, slice_index}
use Rattle.std.specs.Prelude.{if◌then◌else◌, Option, Some, None, option_map, Result, Ok, Err}
use Rattle.std.specs.Option.{option_or}
use Rattle.definitions.specs.Strategies.{Table, shares}
use Rattle.definitions.specs.Ranks.{rank_by, is_stuck, first_long, CheckFault, List_too_long, No_descent, Too_deep}

-- one more than the greatest rank of a share; the steps below n rank all counts up to n
abbrev pub above_all_by : List ℕ → List ℕ → ℕ
above_all_by steps [] = 0
above_all_by steps (s ∷ ss) = max (rank_by steps s + 1) (above_all_by steps ss)

-- n becomes a step where the next count has a greater rank than n, which is the number of the steps below n
abbrev pub push_step : Table → ℕ → List ℕ → List ℕ
push_step T n steps = if nat_lt (length steps) (above_all_by steps (shares T (suc n))) then steps ++ n ∷ [] else steps

pub data Climbing : Type 0 where
  -- this count is cut into fewer than two parts
  Stuck_at : (count : ℕ) → Climbing
  At : (steps : List ℕ) → Climbing

-- from n to the next count
abbrev pub climbing_next : Table → ℕ → Climbing → Climbing
climbing_next T n (Stuck_at k) = Stuck_at k
climbing_next T n (At steps) = if is_stuck T (suc n) then Stuck_at (suc n) else At (push_step T n steps)

abbrev pub climb_to : Table → ℕ → Climbing
climb_to T zero = if is_stuck T 0 then Stuck_at 0 else At []
climb_to T (suc n) = climbing_next T n (climb_to T n)

abbrev pub climbing_end : ℕ → Climbing → Result (List ℕ) ℕ
climbing_end cap (Stuck_at k) = Err k
climbing_end cap (At steps) = Ok (steps ++ cap ∷ [])

abbrev pub find_steps : Table → Result (List ℕ) ℕ
find_steps T = climbing_end T.cap (climb_to T T.cap)

-- the first count whose rank exceeds the rounds is the one after entry number rounds
abbrev pub deep_by_steps : ℕ → ℕ → List ℕ → Option CheckFault
deep_by_steps cap rounds steps =
    if nat_lt rounds (length steps) && nat_lt (slice_index steps rounds) cap
    then Some (Too_deep (slice_index steps rounds + 1) (rounds + 1)) else None

abbrev pub after_find : Table → Result (List ℕ) ℕ → Option CheckFault
after_find T (Err n) = Some (No_descent n)
after_find T (Ok steps) = deep_by_steps T.cap T.rounds steps

abbrev pub check_by_steps : Table → Option CheckFault
check_by_steps T = option_or (option_map List_too_long (first_long T)) (after_find T (find_steps T))
