-- A reader that takes the selector off the front of its input.
--     is_taken kinds bytes         these bytes begin with the four of a selector that is taken off
--     has_length bytes place       a byte says there how many bytes of a name or a bound come after it
--     after_fields place fields bytes      where these and what comes after them end, from a place on
--     front_length kinds bytes     how many of these bytes are a selector at their front; if one that says a length has
--                                  not come, how many there are up to and with that one
--     after_front kinds bytes      the bytes after it
--     wanted kinds bytes           how many bytes are to be there before it is known how long the front is
--     FrontState                   which selectors are taken off, the bytes that were read of the front, how many of
--                                  them are not passed on any more, and whether all of it was read
--     passed_on s unread           what is passed on of these bytes and of all that come
--     ComesOn old new unread left after       more of the front came, which was read before these bytes
use Rattle.std.specs.Prelude.{◌≡◌, ℕ, ◌+◌, Bool, true, false, ◌&&◌, ◌||◌, List, [], ◌∷◌, ◌++◌, length, take, drop}
use Rattle.std.specs.Prelude.{get_or, nat_le, nat_lt, bytes_eq, Option, option_map, if◌then◌else◌}
use Rattle.std.specs.Io.KnownBytes.{prepend_known, Consumes}
use Rattle.shard_core.specs.declared.after_selector.KindsTaken.{KindsTaken}
use Rattle.shard_core.specs.declared.after_selector.KindsTaken.TheVariants.{Both, Parts}
use Rattle.shard_core.specs.Selectors.{mark, part_mark}

abbrev pub begins_with : List ℕ → List ℕ → Bool
begins_with bytes first = bytes_eq (take 4 bytes) first

abbrev pub takes_both : KindsTaken → Bool
takes_both Both = true
takes_both Parts = false

abbrev pub is_taken : KindsTaken → List ℕ → Bool
is_taken kinds bytes = begins_with bytes part_mark || (takes_both kinds && begins_with bytes mark)

-- the byte at a place has come, and says a length of at most 64
abbrev pub has_length : List ℕ → ℕ → Bool
has_length bytes place = nat_lt place (length bytes) && nat_le (get_or bytes place 0) 64

-- a field is a byte that says a length, so many bytes, and this many more; the first that says no length ends them
abbrev pub after_fields : ℕ → List ℕ → List ℕ → ℕ
after_fields place [] bytes = place
after_fields place (more ∷ fields) bytes =
    if has_length bytes place then after_fields (place + (1 + get_or bytes place 0 + more)) fields bytes else place + 1

-- a name has b and the number after it, and a bound has nothing
abbrev pub fields_of : List ℕ → List ℕ
fields_of bytes = if begins_with bytes part_mark then 3 ∷ 0 ∷ 0 ∷ [] else 3 ∷ []

abbrev pub front_length : KindsTaken → List ℕ → ℕ
front_length kinds bytes = if is_taken kinds bytes then after_fields 4 (fields_of bytes) bytes else 0

abbrev pub after_front : KindsTaken → List ℕ → List ℕ
after_front kinds bytes = drop (front_length kinds bytes) bytes

abbrev pub wanted : KindsTaken → List ℕ → ℕ
wanted kinds bytes = if nat_lt (length bytes) 4 then 4 else front_length kinds bytes

pub record FrontState (R : Type 0) : Type 0 where
  pub inner : R
  pub kinds : KindsTaken
  pub came : List ℕ
  pub passed : ℕ
  pub whole : Bool

abbrev pub passed_on : {R : Type 0} → FrontState R → Option (List ℕ) → Option (List ℕ)
passed_on s unread =
    if s.whole then prepend_known (drop s.passed s.came) unread
    else option_map (λ bytes. after_front s.kinds (s.came ++ bytes)) unread

pub record ComesOn (old new : List ℕ) (unread left : Option (List ℕ)) (after : List ℕ) : Type 0 where
  pub more : List ℕ
  pub stays : new ≡ old ++ more
  pub read : Consumes unread left (more ++ after)
