-- Two sets that are made.
--     IsSample s                     its numbers are in their spans
--     item_text size n               the item of a number: the first bytes of sixteen words
--     items_from size first count    the items of so many numbers from the first one on
--     theirs_of s, ours_of s         the two sets of a sample: the responder's, and the initiator's
--     AreMade s theirs ours          they are these, of so many items, and differ in exactly so many
use Rattle.std.specs.Prelude.{◌≡◌, ℕ, zero, suc, ◌+◌, ◌-◌, ◌*◌, ◌/◌, ◌%◌, ◌^◌, ◌≤◌, List, [], ◌∷◌, ◌++◌, length, take}
use Rattle.definitions.specs.Sets.{set_of, difference}
use Rattle.std.specs.Int.{w32, to_be_bytes}
use Rattle.definitions.specs.Items.{Item}
use Rattle.sim_core.specs.declared.sample.Sample.{Sample}

pub record IsSample (s : Sample) : Type 0 where
  pub items : s.items ≤ 65536
  pub differences : s.differences ≤ s.items
  pub long : 4 ≤ s.length
  pub short : s.length ≤ 64

-- a number of 32 bits
abbrev pub wrapped : ℕ → ℕ
wrapped n = n % 2 ^ 32

-- an odd factor gives each number below 2^32 a first word of its own, and scatters those that follow one another
abbrev pub first_word : ℕ → ℕ
first_word n = wrapped (n * 2654435769)

abbrev pub second_word : ℕ → ℕ
second_word n = wrapped (wrapped (n * 2246822519) + 12345)

abbrev pub word_after : ℕ → ℕ → ℕ
word_after n word = wrapped (wrapped (wrapped (word * 69069) + wrapped (n * 514229)) + 1)

-- after the first one
abbrev pub later_word : ℕ → ℕ → ℕ
later_word n zero = second_word n
later_word n (suc place) = word_after n (later_word n place)

abbrev pub word_at : ℕ → ℕ → ℕ
word_at n zero = first_word n
word_at n (suc place) = later_word n place

abbrev pub words_to : ℕ → ℕ → List ℕ
words_to n zero = []
words_to n (suc place) = words_to n place ++ to_be_bytes w32 (word_at n place)

abbrev pub item_text : ℕ → ℕ → Item
item_text size n = take size (words_to n 16)

abbrev pub items_from : ℕ → ℕ → ℕ → List Item
items_from size first zero = []
items_from size first (suc count) = items_from size first count ++ item_text size (first + count) ∷ []

-- how many of the differences each set has
abbrev pub only_ours : Sample → ℕ
only_ours s = s.differences / 2

abbrev pub only_theirs : Sample → ℕ
only_theirs s = s.differences - only_ours s

-- the responder's set: the numbers from 0 on
abbrev pub theirs_of : Sample → List Item
theirs_of s = set_of (items_from s.length 0 s.items)

-- the initiator's: without the first ones, and with some after the last
abbrev pub ours_of : Sample → List Item
ours_of s = set_of (items_from s.length (only_theirs s) (s.items + only_ours s - only_theirs s))

-- the two sets of a sample, and how many items each has that the other lacks
pub record AreMade (s : Sample) (theirs ours : List Item) : Type 0 where
  pub first : theirs ≡ theirs_of s
  pub second : ours ≡ ours_of s
  pub first_size : length theirs ≡ s.items
  pub second_size : length ours ≡ s.items + only_ours s - only_theirs s
  pub first_alone : length (difference theirs ours) ≡ only_theirs s
  pub second_alone : length (difference ours theirs) ≡ only_ours s
