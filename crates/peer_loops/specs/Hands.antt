-- What one who is no loop puts in.
--     Adds own x v w r             of an item by the seat of a part: it is entered or was there, or not and why
--     Held, held own v             a part, and the view of the seat at it
--     entries hs                   what each seat has entered so far
--     place_in hs x                the place of the part that may have the item; the first part says how the set is cut
--     IsElsewhere hs x             there is no part there, or the item is not of it
--     PutsAt hs x r ks             of an item by one of the seats, if its part is kept here; the others stay
--     PutsEach hs xs news ks       items, one after the other: each is entered or was there, and these were entered
--     PutsUntil hs xs news e ks    the same of all; where there is a fault, of those before the first that was not put
--                                  in
--     PutsSome hs xs ks            the first few of them, and nothing else
use Rattle.std.specs.Prelude.{◌≡◌, ◌⊎◌, ℕ, true, false, List, [], ◌∷◌, map, take, slice_set, Option, Some, None}
use Rattle.std.specs.Prelude.{Result, Ok, Err, IfSome, ◌-◌, nat_lt, if◌then◌else◌}
use Rattle.std.specs.List.{slice_get}
use Rattle.definitions.specs.Items.{Item}
use Rattle.definitions.specs.Histories.{History}
use Rattle.shard_core.specs.Shards.{shard_number}
use Rattle.shard_core.specs.declared.shard.OneShard.{OneShard}
use Rattle.version_log.specs.declared.answer.Added.{Added}
use Rattle.version_log.specs.declared.answer.Added.TheVariants.{New, Already}
use Rattle.version_lock.specs.declared.view.View.{View}
use Rattle.version_lock.specs.Calls.{DidInsert, DidNotInsert}
use Rattle.peer_threads.specs.Workers.{is_own}
use Rattle.peer_loops.specs.declared.hand.HandFault.{HandFault}
use Rattle.peer_loops.specs.declared.hand.HandFault.TheVariants.{Elsewhere, Log}

abbrev pub Adds : Option OneShard → Item → View → View → Result Added HandFault → Type 0
Adds own x v w (Ok did) = (is_own own x ≡ true) × DidInsert x v did w
Adds own x v w (Err Elsewhere) = (is_own own x ≡ false) × (w ≡ v)
Adds own x v w (Err (Log fault)) = (is_own own x ≡ true) × DidNotInsert x v fault w

pub record Held : Type 0 where
  pub own : Option OneShard
  pub seat : View

abbrev pub held : Option OneShard → View → Held
held own v = record { own = own; seat = v }

abbrev pub entries : List Held → List History
entries hs = map (λ h. h.seat.entered) hs

abbrev pub place_by : Option OneShard → Item → Option ℕ
place_by None x = Some 0
place_by (Some one) x =
    if nat_lt (shard_number one.bits x) one.number then None else Some (shard_number one.bits x - one.number)

abbrev pub place_in : List Held → Item → Option ℕ
place_in [] x = None
place_in (h ∷ hs) x = place_by h.own x

abbrev pub IsElsewhere : List Held → Item → Type 0
IsElsewhere hs x = IfSome (place_in hs x) (λ k. IfSome (slice_get hs k) (λ h. is_own h.own x ≡ false))

-- one seat adds it
abbrev pub PutsBy : List Held → Item → Result Added HandFault → List Held → Type 0
PutsBy hs x r ks = (i : ℕ) × (h k : Held) × (slice_get hs i ≡ Some h) × (ks ≡ slice_set hs i k) × (k.own ≡ h.own)
    × Adds h.own x h.seat k.seat r

abbrev pub PutsAt : List Held → Item → Result Added HandFault → List Held → Type 0
PutsAt hs x r ks = ((r ≡ Err Elsewhere) × (ks ≡ hs)) ⊎ PutsBy hs x r ks

abbrev pub entered_by : Added → Item → List Item → List Item
entered_by (New version) x news = x ∷ news
entered_by Already x news = news

abbrev pub PutsEach : List Held → List Item → List Item → List Held → Type 0
PutsEach hs [] news ks = (news ≡ []) × (ks ≡ hs)
PutsEach hs (x ∷ xs) news ks = (ms : List Held) × (did : Added) × (later : List Item) × PutsAt hs x (Ok did) ms
    × (news ≡ entered_by did x later) × PutsEach ms xs later ks

abbrev pub PutsUntil : List Held → List Item → List Item → Option HandFault → List Held → Type 0
PutsUntil hs xs news None ks = PutsEach hs xs news ks
PutsUntil hs xs news (Some fault) ks = (n : ℕ) × (x : Item) × (ms : List Held) × (slice_get xs n ≡ Some x)
    × PutsEach hs (take n xs) news ms × PutsAt ms x (Err fault) ks × (entries ks ≡ entries ms)

abbrev pub PutsSome : List Held → List Item → List Held → Type 0
PutsSome hs xs ks = (n : ℕ) × (news : List Item) × (ms : List Held) × PutsEach hs (take n xs) news ms
    × (entries ks ≡ entries ms)
