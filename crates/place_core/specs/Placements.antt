-- A place: the open parts of the own message that is answered, and where the placing of the answer stands.
--     Placement
--     start_of p                  before the first part
--     due own cursor              the items of the first List at or after the cursor
use Rattle.std.specs.Prelude.{Bool, List, [], ◌∷◌, drop, if◌then◌else◌}
use Rattle.definitions.specs.Items.{Item}
use Rattle.definitions.specs.Messages.{Sum, Listing, Answer, Message}
use Rattle.definitions.specs.Placing.{Place, First, place_after}
use Rattle.place_core.specs.declared.cursor.Cursor.{Cursor}
use Rattle.place_core.specs.declared.cursor.Cursor.TheVariants as cursors

pub record Placement (F : Type 0) : Type 0 where
  -- it is the first message of all, which answers none
  pub first : Bool
  -- the first message of all may cut
  pub cut : Bool
  pub own : Message F
  pub now : Place F

abbrev pub start_of : {F : Type 0} → Placement F → Place F
start_of p = if p.first then First p.cut else place_after p.own

-- the items of the first List
abbrev pub first_list : {F : Type 0} → Message F → List Item
first_list [] = []
first_list (Sum X f ∷ ps) = first_list ps
first_list (Listing X items ∷ ps) = items
first_list (Answer X marks items ∷ ps) = first_list ps

abbrev pub due : {F : Type 0} → Message F → Cursor → List Item
due own (cursors.First cut) = []
due own (cursors.After at inside) = first_list (drop at own)
due own (cursors.Refused f) = []
