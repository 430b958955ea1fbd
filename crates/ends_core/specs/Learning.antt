-- What one part tells, where the list that it answers is known.
--     ours_told A listed p        own items that the other lacks
--     told A listed p             and the other's that one lacks
--     IsAnswered A p reply        a List has its answer as the reply, and an Answer has none
use Rattle.std.specs.Prelude.{◌≡◌, List, [], ◌∷◌, ⊤}
use Rattle.std.specs.List.{items_where_true}
use Rattle.definitions.specs.Items.{Item}
use Rattle.definitions.specs.Sets.{items_in, difference}
use Rattle.definitions.specs.Messages.{Part, Message, Sum, Listing, Answer}
use Rattle.definitions.specs.Replies.{answer_to}
use Rattle.definitions.specs.Talks.{Knowledge, theirs_by}

abbrev pub ours_told : {F : Type 0} → List Item → List Item → Part F → List Item
ours_told A listed (Sum X f) = []
ours_told A listed (Listing X items) = difference (items_in A X) items
ours_told A listed (Answer X marks items) = items_where_true marks listed

abbrev pub told : {F : Type 0} → List Item → List Item → Part F → Knowledge
told A listed p = record { ours = ours_told A listed p; theirs = theirs_by A p }

abbrev pub IsAnswered : {F : Type 0} → List Item → Part F → Message F → Type 0
IsAnswered A (Sum X f) reply = ⊤
IsAnswered A (Listing X items) reply = reply ≡ answer_to A X items ∷ []
IsAnswered A (Answer X marks items) reply = reply ≡ []
