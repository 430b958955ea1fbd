-- Where a cursor stands in the message that it walks.
--     place_at sent cursor        as the definitions have it
use Rattle.std.specs.Prelude.{drop}
use Rattle.definitions.specs.Messages.{Message, open_parts}
use Rattle.definitions.specs.Placing.{Place, First, After, Refused}
use Rattle.place_core.specs.PlaceFaults.{place_fault_number}
use Rattle.place_core.specs.declared.cursor.Cursor.{Cursor}
use Rattle.place_core.specs.declared.cursor.Cursor.TheVariants as cursors

abbrev pub place_at : {F : Type 0} → Message F → Cursor → Place F
place_at sent (cursors.First cut) = First cut
place_at sent (cursors.After at inside) = After (open_parts (drop at sent)) inside
place_at sent (cursors.Refused f) = Refused (place_fault_number f)
