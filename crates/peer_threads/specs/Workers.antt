-- The seats of workers.
--     Outlives v w                       what a seat is after workers have used seats that were split off it: it has
--                                        seen no less, and its writer, its entries and its cap are the same
--     MayWork cap v                      a worker may begin with the seat, under a strategy for so many items
--     PutIn x v w                        the seat has put the item into the log, or found it there
--     is_own own x                       the item is of this shard; of no shard but of a whole set each item is
--     may_stand own f x                  .. and is not below this floor
--     are_own own h                      each of these entries is
--     PutInOrDropped may x v w dropped   .. or dropped it, since there was no room, or since it may not be put in
--     PutInAll may xs v w dropped        it has done so with each of these, in order, but for so many that were dropped
--     IsSettled says serial own xs v w left      it has done so with the first of these, as many as the gate lets in of
--                                        the session with this serial; so many are left out
--     PutsInBy says serial own o v w     .. of what the outcome says was learned of the peer; nothing where it did not
--                                        end
--     PutsInLearned says o v w           the same of a session over a whole set whose serial is not said
--     LookedOrNot v w                    the seat was used for one `pin`, or is as before
--     Taught spoke learned               what was learned of a session that ended; or none, of one that did not
use Rattle.std.specs.Prelude.{◌≡◌, ◌≤◌, ◌⊎◌, ◌+◌, ◌-◌, ℕ, Bool, true, false, ◌&&◌, List, [], ◌∷◌, length, take}
use Rattle.std.specs.Prelude.{Option, Some, None, ⊤}
use Rattle.definitions.specs.Items.{Item}
use Rattle.definitions.specs.Histories.{History}
use Rattle.definitions.specs.Talks.{Knowledge}
use Rattle.shard_core.specs.Shards.{lies_in}
use Rattle.shard_core.specs.Floors.{keeps}
use Rattle.shard_core.specs.declared.floor.Floor.{Floor}
use Rattle.shard_core.specs.declared.shard.OneShard.{OneShard}
use Rattle.version_log.specs.declared.answer.Added.{Added}
use Rattle.version_log.specs.declared.answer.LogFault.TheVariants.{Full, Memory}
use Rattle.version_lock.specs.declared.view.View.{View}
use Rattle.version_lock.specs.Beginnings.{StartsWith}
use Rattle.version_lock.specs.Calls.{Looked, DidInsert, DidNotInsert}
use Rattle.session_table.specs.declared.outcome.Outcome.{Outcome}
use Rattle.session_table.specs.declared.outcome.Outcome.TheVariants as outcomes

pub record Outlives (v w : View) : Type 0 where
  pub seen : StartsWith w.seen v.seen
  pub writer : w.writer ≡ v.writer
  pub mine : w.mine ≡ v.mine
  pub cap : w.cap ≡ v.cap

pub record MayWork (cap : ℕ) (v : View) : Type 0 where
  pub fits : v.cap ≤ cap
  pub fresh : v.writer ≡ None

-- ---- what a worker puts into the log

abbrev pub PutIn : Item → View → View → Type 0
PutIn x v w = (did : Added) × DidInsert x v did w

abbrev pub is_own : Option OneShard → Item → Bool
is_own None x = true
is_own (Some one) x = lies_in one.bits one.number x

abbrev pub are_own : Option OneShard → History → Bool
are_own own [] = true
are_own own (e ∷ h) = is_own own e.1 && are_own own h

-- .. or has dropped it, since there was no room
abbrev pub PutInOrFull : Item → View → View → ℕ → Type 0
PutInOrFull x v w dropped = (PutIn x v w × (dropped ≡ 0)) ⊎ (DidNotInsert x v Full w × (dropped ≡ 1))

-- what may be put into a log that has the items of this shard, or of a whole set, and of which these are kept
abbrev pub may_stand : Option OneShard → Floor → Item → Bool
may_stand own floor x = is_own own x && keeps floor x

-- .. or since it may not be put in
abbrev pub PutInOrDropped : (Item → Bool) → Item → View → View → ℕ → Type 0
PutInOrDropped may x v w dropped =
    ((may x ≡ true) × PutInOrFull x v w dropped)
    ⊎ ((may x ≡ false) × (w ≡ v) × (dropped ≡ 1))

-- each is put in or dropped, in order; where memory runs out, that one and all that are left are dropped
abbrev pub PutInAll : (Item → Bool) → List Item → View → View → ℕ → Type 0
PutInAll may [] v w dropped = (w ≡ v) × (dropped ≡ 0)
PutInAll may (x ∷ xs) v w dropped =
    ((next : View) × (one others : ℕ) × PutInOrDropped may x v next one × PutInAll may xs next w others
    × (dropped ≡ one + others))
    ⊎ (DidNotInsert x v Memory w × (dropped ≡ length (x ∷ xs)))

-- what a gate says: of so many items of a session it lets in so many, and this is the floor
pub record Says : Type 1 where
  pub lets_in : ℕ → ℕ → ℕ → Type 0
  pub floors : Floor → Type 0

abbrev pub says : (ℕ → ℕ → ℕ → Type 0) → (Floor → Type 0) → Says
says lets_in floors = record { lets_in = lets_in; floors = floors }

abbrev pub IsSettled : Says → ℕ → Option OneShard → List Item → View → View → ℕ → Type 0
IsSettled gate serial own xs v w left = (count dropped : ℕ) × (floor : Floor)
    × gate.lets_in serial (length xs) count × gate.floors floor
    × PutInAll (may_stand own floor) (take count xs) v w dropped
    × (left ≡ length xs - length (take count xs) + dropped)

abbrev pub PutsInBy : Says → ℕ → Option OneShard → Outcome → View → View → Type 0
PutsInBy gate serial own (outcomes.Ended learned sent version) v w =
    (left : ℕ) × IsSettled gate serial own learned.theirs v w left
PutsInBy gate serial own (outcomes.Refused code sent) v w = w ≡ v
PutsInBy gate serial own (outcomes.PeerRefused code sent) v w = w ≡ v
PutsInBy gate serial own (outcomes.Io side sent) v w = w ≡ v
PutsInBy gate serial own (outcomes.Memory sent) v w = w ≡ v

-- .. of a session over a whole set whose serial is not said
abbrev pub PutsInLearned : Says → Outcome → View → View → Type 0
PutsInLearned gate (outcomes.Ended learned sent version) v w =
    (serial left : ℕ) × IsSettled gate serial None learned.theirs v w left
PutsInLearned gate (outcomes.Refused code sent) v w = w ≡ v
PutsInLearned gate (outcomes.PeerRefused code sent) v w = w ≡ v
PutsInLearned gate (outcomes.Io side sent) v w = w ≡ v
PutsInLearned gate (outcomes.Memory sent) v w = w ≡ v

-- ---- the session before

abbrev pub LookedOrNot : View → View → Type 0
LookedOrNot v w = Looked v w ⊎ (w ≡ v)

abbrev pub HasNotEnded : Outcome → Type 0
HasNotEnded (outcomes.Ended learned sent version) = ⊥
HasNotEnded (outcomes.Refused code sent) = ⊤
HasNotEnded (outcomes.PeerRefused code sent) = ⊤
HasNotEnded (outcomes.Io side sent) = ⊤
HasNotEnded (outcomes.Memory sent) = ⊤

-- `spoke` is what is said of an outcome
abbrev pub Taught : (Outcome → Type 0) → Option Knowledge → Type 0
Taught spoke None = (o : Outcome) × spoke o × HasNotEnded o
Taught spoke (Some learned) = (sent version : ℕ) × spoke (outcomes.Ended learned sent version)

abbrev pub learned_in : Option (ℕ × Knowledge) → Option Knowledge
learned_in None = None
learned_in (Some (serial, learned)) = Some learned
