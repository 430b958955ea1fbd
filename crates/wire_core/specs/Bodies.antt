-- A part's body, and the part as the definitions have it.
use Rattle.std.specs.Prelude.{ℕ, List, [], ◌++◌, Option, Some, None, ⊤}
use Rattle.definitions.specs.Items.{Item, Range}
use Rattle.definitions.specs.Messages.{Part, Sum, Listing, Answer}
use Rattle.definitions.specs.Wire.{Event, Came, Ended, Profile, items_text, marks_text}
use Rattle.wire_core.specs.declared.body.Body.{Body}
use Rattle.wire_core.specs.declared.body.Body.TheVariants as bodies

abbrev pub part_of : {F : Type 0} → Range → Body F → Part F
part_of X (bodies.Sum f) = Sum X f
part_of X (bodies.List items) = Listing X items.items
part_of X (bodies.Answer marks items) = Answer X marks items.items

abbrev pub items_in : {F : Type 0} → Body F → List Item
items_in (bodies.Sum f) = []
items_in (bodies.List items) = items.items
items_in (bodies.Answer marks items) = items.items

-- it is a list or an answer
abbrev pub Lists : {F : Type 0} → Body F → Type 0
Lists (bodies.Sum f) = ⊥
Lists (bodies.List items) = ⊤
Lists (bodies.Answer marks items) = ⊤

-- the fields of a part, or the end of the message
abbrev pub fields_event : {F : Type 0} → Option (Range × Body F) → Event F
fields_event (Some p) = Came (part_of p.0 p.1)
fields_event None = Ended

-- a body's first byte, and what follows its range
abbrev pub kind_byte : {F : Type 0} → Body F → ℕ
kind_byte (bodies.Sum f) = 1
kind_byte (bodies.List items) = 2
kind_byte (bodies.Answer marks items) = 3

abbrev pub fields_text : {F : Type 0} → Profile F → Body F → List ℕ
fields_text P (bodies.Sum f) = P.text f
fields_text P (bodies.List items) = items_text items.items
fields_text P (bodies.Answer marks items) = marks_text marks ++ items_text items.items
