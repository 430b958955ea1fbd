-- What a seat knows, its view, and how each kind of step changes it.
--     new_view, first_view l                             a view that has seen a history, and the first seat's
--     waited, holding, gave_back, added, enrolled        a step of the word
--     split_from, split_off, joined_with, spent          a seat that is split, and two that are joined
--     note_of, noted                                     a note that is split off a seat, and joined to one
--     HasWhole v, MadeBy v h next_writer                 no other seat is left, and what the log has then
use Rattle.std.specs.Prelude.{◌≡◌, ℕ, zero, suc, ◌+◌, ◌-◌, true, false, [], ◌∷◌, ◌++◌, length, Some, None, All}
use Rattle.std.specs.Prelude.{Contains}
use Rattle.definitions.specs.Histories.{History}
use Rattle.version_log.specs.Logs.{LogState, log}
use Rattle.version_lock.specs.declared.view.View.{View}
use Rattle.version_lock.specs.Beginnings.{Entry}

-- a seat without a part that has seen the history h, is not enrolled, and is at a log of this cap; the lock was made
-- with the history opened and this next writer number
abbrev pub new_view : History → ℕ → History → ℕ → View
new_view opened number h cap = record {
  spent = false;
  writer = None;
  seen = h;
  joined = [];
  mine = [];
  holding = false;
  base = [];
  next_writer = 0;
  cap = cap;
  opened = opened;
  first_number = number;
  entered = [];
  numbers = 0;
  parts = 0;
  halvings = 0;
  took = 0;
  busy = 0;
}

-- the first seat's, where the lock is made with this log: it has the whole
abbrev pub first_view : LogState → View
first_view l = record (new_view l.history l.next_writer l.history l.cap) { parts = 1 }

-- the log that a holding view found
abbrev pub found : View → LogState
found v = log v.cap v.base v.next_writer

abbrev pub with_entry : LogState → Entry → LogState
with_entry l e = record l { history = l.history ++ e ∷ [] }

-- the seat has found the word HELD so many times
abbrev pub waited : ℕ → View → View
waited busy v = record v { busy = busy }

-- the seat took the log out of its slot
abbrev pub holding : LogState → View → View
holding l v = record v { holding = true; base = l.history; next_writer = l.next_writer; took = v.took + 1 }

-- it gave the log back as it was
abbrev pub gave_back : View → View
gave_back v = record v { seen = v.base; holding = false }

-- it gave the log back with one entry more
abbrev pub added : Entry → View → View
added e v = record v {
  seen = v.base ++ e ∷ [];
  mine = v.mine ++ e ∷ [];
  entered = v.entered ++ e ∷ [];
  holding = false;
}

-- it gave the log back with one writer number given out, which is the seat's
abbrev pub enrolled : View → View
enrolled v = record v {
  writer = Some v.next_writer;
  mine = [];
  seen = v.base;
  numbers = v.numbers + 1;
  holding = false;
}

-- a seat was split off, which has half of each part
abbrev pub split_from : View → View
split_from v = record v { halvings = v.halvings + 1 }

-- the view of a note of what a seat had seen; that seat's view stays as it is
abbrev pub note_of : View → View
note_of v = new_view v.opened v.first_number v.seen v.cap

-- the view of a seat that was split off
abbrev pub split_off : View → View
split_off v = record (note_of v) { parts = v.parts; halvings = v.halvings + 1 }

-- x is doubled n times
abbrev pub doubled : ℕ → ℕ → ℕ
doubled zero x = x
doubled (suc n) x = doubled n (x + x)

-- another seat, of the view w, was joined to this one: the parts of both are put together, halved equally often
abbrev pub joined_with : View → View → View
joined_with v w = record v {
  joined = v.joined ++ w.seen ∷ [];
  entered = v.entered ++ w.entered;
  numbers = v.numbers + w.numbers;
  parts = doubled (w.halvings - v.halvings) v.parts + doubled (v.halvings - w.halvings) w.parts;
  halvings = v.halvings + (w.halvings - v.halvings);
}

-- a note, of the view w, was joined to this seat
abbrev pub noted : View → View → View
noted v w = record v { joined = v.joined ++ w.seen ∷ [] }

-- the view of a seat or a note that was joined to a seat
abbrev pub spent : View
spent = record (new_view [] 0 [] 0) { spent = true }

-- the seat has the whole: every other seat was joined to it, or to one that was
abbrev pub HasWhole : View → Type 0
HasWhole v = v.parts ≡ doubled v.halvings 1

-- this history and next writer number are the opened ones and what was entered and given out since
pub record IsMade (opened : History) (number : ℕ) (entered : History) (numbers : ℕ) (h : History) (next_writer : ℕ) :
    Type 0 where
  pub more : History
  pub history : h ≡ opened ++ more
  pub count : length more ≡ length entered
  pub each : All (λ e. Contains entered e) more
  pub next : next_writer ≡ number + numbers

-- they are what the lock was made with, and what this seat and those that were joined to it entered and were given
abbrev pub MadeBy : View → History → ℕ → Type 0
MadeBy v h next_writer = IsMade v.opened v.first_number v.entered v.numbers h next_writer
