-- What becomes of a part of which much is forgotten: it is made anew with what is kept, and who has a seat goes over.
--     IsDueIn range h                of the content of a history, of which a range is kept, a quarter is not kept
--     Forgets range cap v w count    the seat v found a history of a part. Where that is due, there is a part that
--                                    begins with its items of the range, so many are forgotten, and w is the first
--                                    seat at that part; else w is v, and none is forgotten
--     IsThere own cap h x            a log of this history has the item; or it is not of the part, or the log was full
--     left_out_by did                how many items are left out where one was put in so; None where memory ran out
--     Took own xs v w left           what the seat v, which is w after it, has entered of these items: nothing else,
--                                    and each is there; where none is left out the log has all
use Rattle.std.specs.Prelude.{◌≡◌, ◌⊎◌, ◌+◌, ℕ, true, false, List, ◌++◌, length, Contains, Option, Some, None}
use Rattle.std.specs.Prelude.{Result, Ok, Err}
use Rattle.definitions.specs.Items.{Item, Range}
use Rattle.definitions.specs.Sets.{has, items_in}
use Rattle.definitions.specs.Histories.{History, Full, content, insertion, items_of}
use Rattle.shard_core.specs.Floors.{LacksAQuarter}
use Rattle.shard_core.specs.declared.shard.OneShard.{OneShard}
use Rattle.version_log.specs.Logs.{opened}
use Rattle.version_log.specs.declared.answer.Added.{Added}
use Rattle.version_log.specs.declared.answer.LogFault.TheVariants as faults
use Rattle.version_lock.specs.declared.view.View.{View}
use Rattle.version_lock.specs.Beginnings.{Entry, StartsWith}
use Rattle.version_lock.specs.Views.{first_view}
use Rattle.peer_threads.specs.Workers.{is_own}
use Rattle.peer_loops.specs.declared.hand.HandFault.{HandFault}
use Rattle.peer_loops.specs.declared.hand.HandFault.TheVariants.{Elsewhere, Log}

abbrev pub IsDueIn : Range → History → Type 0
IsDueIn range h = LacksAQuarter (length (content h)) (length (items_in (content h) range))

abbrev pub BeginsAnew : Range → ℕ → History → View → ℕ → Type 0
BeginsAnew range cap h w count = (w ≡ first_view (opened cap (items_in (content h) range) 1))
    × (count + length (items_in (content h) range) ≡ length (content h))

abbrev pub Forgets : Range → ℕ → View → View → ℕ → Type 0
Forgets range cap v w count = ((IsDueIn range v.base → ⊥) × (w ≡ v) × (count ≡ 0))
    ⊎ (IsDueIn range v.base × BeginsAnew range cap v.base w count)

abbrev pub IsThere : Option OneShard → ℕ → History → Item → Type 0
IsThere own cap h x = (has (items_of h) x ≡ true)
    ⊎ ((is_own own x ≡ false) ⊎ ((g : History) × StartsWith h g × (insertion cap g x ≡ Full)))

abbrev pub left_out_by : Result Added HandFault → Option ℕ
left_out_by (Ok did) = Some 0
left_out_by (Err Elsewhere) = Some 1
left_out_by (Err (Log faults.Full)) = Some 1
left_out_by (Err (Log faults.Memory)) = None

pub record Took (own : Option OneShard) (xs : List Item) (v w : View) (left : ℕ) : Type 0 where
  pub each : (x : Item) → Contains xs x → IsThere own w.cap w.seen x
  pub none : left ≡ 0 → (x : Item) → Contains xs x → has (items_of w.seen) x ≡ true
  pub only : (more : History) × (w.entered ≡ v.entered ++ more)
      × ((e : Entry) → Contains more e → Contains xs e.1)
