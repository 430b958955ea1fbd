-- Which items of a part a session is over.
--     meant floor range A     the items of the range that the floor keeps
use Rattle.std.specs.Prelude.{List}
use Rattle.definitions.specs.Items.{Item, Range}
use Rattle.definitions.specs.Sets.{items_in}

abbrev pub meant : Range → Range → List Item → List Item
meant floor range A = items_in (items_in A floor) range
