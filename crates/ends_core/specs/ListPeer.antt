-- Who replies under the list-only table.
use Rattle.std.specs.Prelude.{Bool, true, false, List}
use Rattle.std.specs.List.{list_all}
use Rattle.definitions.specs.Items.{Item}
use Rattle.definitions.specs.Messages.{Part, Sum, Listing, Answer, Message}
use Rattle.definitions.specs.Strategies.{list_only}
use Rattle.definitions.specs.Replies.{Peer}

abbrev pub list_peer : List Item → Peer
list_peer A = record { table = list_only; items = A }

abbrev pub is_sum : {F : Type 0} → Part F → Bool
is_sum (Sum X f) = true
is_sum (Listing X items) = false
is_sum (Answer X marks items) = false

-- each part is a Sum
abbrev pub are_sums : {F : Type 0} → Message F → Bool
are_sums M = list_all is_sum M
