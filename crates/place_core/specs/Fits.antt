-- How a part meets one part of the message that it answers.
--     rest_between y u            what of a range that ends at u comes after y, if y is before u
--     after_fit fit left p        where the placing stands then
use Rattle.std.specs.Prelude.{List, ℕ, Option, Some, None, if◌then◌else◌}
use Rattle.definitions.specs.Items.{Range, is_below}
use Rattle.definitions.specs.Messages.{Part, Message}
use Rattle.definitions.specs.Placing.{Place, After, Refused, next_outside}
use Rattle.place_core.specs.PlaceFaults.{place_fault_number}
use Rattle.place_core.specs.declared.fit.Fit.{Fit}
use Rattle.place_core.specs.declared.fit.Fit.TheVariants as fits

abbrev pub rest_between : Option (List ℕ) → Option (List ℕ) → Option Range
rest_between None u = None
rest_between (Some y) u = if is_below y u then Some (record { lower = y; upper = u }) else None

abbrev pub after_fit : {F : Type 0} → Fit → Message F → Part F → Place F
after_fit fits.NotHere left p = next_outside left p
after_fit (fits.Placed inside) left p = After left inside
after_fit (fits.Refused f) left p = Refused (place_fault_number f)
