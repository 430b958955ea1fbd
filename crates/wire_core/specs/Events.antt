-- Events as the definitions have them.
use Rattle.std.specs.Prelude.{List, map}
use Rattle.definitions.specs.Wire as wire
use Rattle.wire_core.specs.declared.event.Event.{Event}
use Rattle.wire_core.specs.declared.event.Event.TheVariants as events

abbrev pub event_value : {F : Type 0} → Event F → wire.Event F
event_value (events.Part p) = wire.Came p
event_value events.End = wire.Ended
event_value (events.Fault code) = wire.Failed code

abbrev pub event_values : {F : Type 0} → List (Event F) → List (wire.Event F)
event_values events = map event_value events
