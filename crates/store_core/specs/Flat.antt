-- What a FlatStore holds.
use Rattle.std.specs.Prelude.{List}
use Rattle.definitions.specs.Items.{Item}
use Rattle.store_core.specs.declared.flat_store.FlatStore.{FlatStore}

-- the items, in rising order
abbrev pub flat_items : FlatStore → List Item
flat_items s = s.items.items
