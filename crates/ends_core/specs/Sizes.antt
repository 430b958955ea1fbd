-- How many bytes of memory are counted for an item, a part and a message. What is above the greatest number of 64 bits
-- counts as that number.
--     plus a b, times a b                  a sum, a product
--     part_size p                          a part: its range and sum, each of its items, and a byte for each mark
--     message_size M, messages_size Ms     a message, and messages
--     known_size k                         what was learned
--     reply_size reply                     a reply so far, if it is kept
--     taken_size t                         what an end keeps of the parts of a message that has not ended: the reply to
--                                          them, and what they teach
use Rattle.std.specs.Prelude.{ℕ, ◌+◌, ◌*◌, ◌-◌, ◌^◌, min, List, length, fold, Option, Some, None}
use Rattle.definitions.specs.Messages.{Part, Message}
use Rattle.definitions.specs.Talks.{Knowledge}
use Rattle.definitions.specs.Taking.{Taken}
use Rattle.wire_core.specs.Parts.{items_in, marks_in}

abbrev pub plus : ℕ → ℕ → ℕ
plus a b = min (a + b) (2 ^ 64 - 1)

abbrev pub times : ℕ → ℕ → ℕ
times a b = min (a * b) (2 ^ 64 - 1)

-- an item takes 65 bytes, whatever its length
abbrev pub items_size : ℕ → ℕ
items_size count = times count 65

abbrev pub number_in : {X : Type 0} → Option (List X) → ℕ
number_in None = 0
number_in (Some xs) = length xs

abbrev pub part_size : {F : Type 0} → Part F → ℕ
part_size p = plus (plus 256 (items_size (number_in (items_in p)))) (number_in (marks_in p))

-- n, and then these parts
abbrev pub with_parts : {F : Type 0} → ℕ → Message F → ℕ
with_parts n M = fold (λ k p. plus k (part_size p)) n M

abbrev pub message_size : {F : Type 0} → Message F → ℕ
message_size M = with_parts 0 M

abbrev pub messages_size : {F : Type 0} → List (Message F) → ℕ
messages_size Ms = fold (λ k M. plus k (message_size M)) 0 Ms

abbrev pub known_size : Knowledge → ℕ
known_size k = plus (items_size (length k.ours)) (items_size (length k.theirs))

-- a reply that is too long is not kept
abbrev pub reply_size : {F : Type 0} → Option (Message F) → ℕ
reply_size None = 0
reply_size (Some M) = message_size M

abbrev pub drafted_size : {F : Type 0} → Option (Message F) → Knowledge → ℕ
drafted_size reply learned = plus (reply_size reply) (known_size learned)

abbrev pub taken_size : {F : Type 0} → Taken F → ℕ
taken_size t = drafted_size t.reply t.learned
