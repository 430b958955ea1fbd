-- What a peer over standard input and output is told that speaks of a part of a set, or of another one.
--     refusal_of_all part said     the number of its refusal, where it says a part or does not, and so much of a set
use Rattle.std.specs.Prelude.{ℕ, Bool, Option, Some, None, if◌then◌else◌}
use Rattle.shard_core.specs.declared.selector.Selecting.{Selecting}
use Rattle.shard_core.specs.declared.selector.Selecting.TheVariants.{NoSelector, More, WrongSet, Selected}

abbrev pub refusal_of_all : Bool → Selecting → Option ℕ
refusal_of_all part NoSelector = Some 1
refusal_of_all part More = None
refusal_of_all part WrongSet = Some 55
refusal_of_all part (Selected which X used) = if part then Some 55 else None
