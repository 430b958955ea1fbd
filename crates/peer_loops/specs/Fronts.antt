-- Of which set a peer has to speak, and what of one that does not.
--     set_of front                          what the set is called, if peers have to say it
--     said_openly came                      what a peer says of which this much came before its hello, and that need
--                                           not say of which set it speaks: of which range, or else of all
--     said_by front came                    the same of any peer
--     chosen_in said                        the shard or the directory, and the range, if it says so
--     range_of chosen                       the range; that of all items, if it is not said
--     selector_by front which X             what a partner is told before the hello
--     is_known phase                        whether it is known of which set it speaks: its hello has come, and ours is
--                                           written; or its input is over
--     refusal_in first count said           the number of the refusal of a peer that says this and no more: of another
--                                           set or of none, or of a part that is not kept
--     refusal_at front first count phase came   the same, once it is known what it says
use Rattle.std.specs.Prelude.{ℕ, Bool, true, false, ◌==◌, ◌||◌, List, [], Option, Some, None, if◌then◌else◌}
use Rattle.definitions.specs.Items.{Range, same_range, whole}
use Rattle.definitions.specs.Refusals.{truncated}
use Rattle.shard_core.specs.Selectors.{selecting, selector_text, says_part}
use Rattle.shard_core.specs.declared.selector.Which.{Which}
use Rattle.shard_core.specs.declared.selector.Which.TheVariants.{Shard}
use Rattle.shard_core.specs.declared.selector.Selecting.{Selecting}
use Rattle.shard_core.specs.declared.selector.Selecting.TheVariants.{NoSelector, More, WrongSet, Selected}
use Rattle.shard_core.specs.declared.set_name.SetName.{SetName}
use Rattle.hub_core.specs.declared.phase.Phase.{Phase}
use Rattle.hub_core.specs.declared.phase.Phase.TheVariants as phases
use Rattle.peer_loops.specs.declared.chosen.Front.{Front}
use Rattle.peer_loops.specs.declared.chosen.Front.TheVariants as fronts
use Rattle.peer_loops.specs.ShardSpans.{keeps}

abbrev pub set_of : Front → Option SetName
set_of fronts.Open = None
set_of (fronts.Named set) = Some set
set_of (fronts.Cut set) = Some set

abbrev pub said_openly : List ℕ → Selecting
said_openly came = if says_part came then selecting [] 0 came else Selected (Shard 0) whole 0

abbrev pub said_by : Front → List ℕ → Selecting
said_by fronts.Open came = said_openly came
said_by (fronts.Named set) came = selecting set.name.now set.bits came
said_by (fronts.Cut set) came = selecting set.name.now set.bits came

abbrev pub chosen_in : Selecting → Option (Which × Range)
chosen_in NoSelector = None
chosen_in More = None
chosen_in WrongSet = None
chosen_in (Selected which X used) = Some (which, X)

abbrev pub range_of : Option (Which × Range) → Range
range_of None = whole
range_of (Some (which, X)) = X

-- where sets have no names, nothing of a range of all items
abbrev pub selector_in : Option SetName → Which → Range → List ℕ
selector_in None which X = if same_range X whole then [] else selector_text [] 0 which X
selector_in (Some set) which X = selector_text set.name.now set.bits which X

abbrev pub selector_by : Front → Which → Range → List ℕ
selector_by front which X = selector_in (set_of front) which X

abbrev pub is_known : Phase → Bool
is_known (phases.Greeting g) = (g.said == 4) || g.over
is_known (phases.Plain c) = false
is_known (phases.Counted c) = false
is_known (phases.Compact c) = false

abbrev pub refusal_in : ℕ → ℕ → Selecting → Option ℕ
refusal_in first count NoSelector = Some 1
refusal_in first count More = Some truncated
refusal_in first count WrongSet = Some 55
refusal_in first count (Selected which X used) = if keeps first count which then None else Some 55

abbrev pub refusal_at : Front → ℕ → ℕ → Phase → List ℕ → Option ℕ
refusal_at front first count phase came =
    if is_known phase then refusal_in first count (said_by front came) else None
