-- What the readers of a part tell.
use Rattle.std.specs.Prelude.{List, Bool, Option, Some, None}
use Rattle.definitions.specs.Items.{Item}
use Rattle.definitions.specs.Messages.{Part, Sum, Listing, Answer}
use Rattle.wire_core.specs.declared.part.PartKind.{PartKind}
use Rattle.wire_core.specs.declared.part.PartKind.TheVariants as kinds

abbrev pub kind_of : {F : Type 0} → Part F → PartKind
kind_of (Sum X f) = kinds.Sum
kind_of (Listing X items) = kinds.List
kind_of (Answer X marks items) = kinds.Answer

abbrev pub sum_in : {F : Type 0} → Part F → Option F
sum_in (Sum X f) = Some f
sum_in (Listing X items) = None
sum_in (Answer X marks items) = None

abbrev pub items_in : {F : Type 0} → Part F → Option (List Item)
items_in (Sum X f) = None
items_in (Listing X items) = Some items
items_in (Answer X marks items) = Some items

abbrev pub marks_in : {F : Type 0} → Part F → Option (List Bool)
marks_in (Sum X f) = None
marks_in (Listing X items) = None
marks_in (Answer X marks items) = Some marks
