use Rattle.std.proofs.Common.{rules, ◌≡◌}
use Rattle.definitions.specs.Items.{IsBytes}
use Rattle.definitions.specs.Messages.{Listing}
use Rattle.definitions.specs.CompactReading.{gives, listing_in, field_from}
use Rattle.compact_core.specs.Readings.{field_bytes_from, in_field}
use Rattle.compact_core.proofs.Fields.{field_given, field_stops, field_short, list_is_part}
use Rattle.compact_core.proofs.parts.take_list_part.Goals as goal

pub listing-requires : goal.listing-requires
listing-requires g c =
    let P = g.F.WireSummary.profile in
    let X = c.args.range in
    let bytes = c.args.bytes.now.now in
    let here : field_bytes_from bytes ≡ gives c.in_ok-field.field.now c.take_field.new.bytes.now = search rules in
    let fits : IsBytes bytes = search rules in
    list_is_part P g.met.F.WireSummary.real X c.lower.ensures.range bytes c.take_field.new.bytes.now fits
    c.in-Ok.items.items
    (field_given (listing_in P X) bytes c.in_ok-field.field.now c.take_field.new.bytes.now _
    (Listing X c.in-Ok.items.items) here c.in-Ok.ensures)

pub returns-in-Err-clause-read : goal.returns-in-Err-clause-read
returns-in-Err-clause-read g c =
    let P = g.F.WireSummary.profile in
    let bytes = c.args.bytes.now.now in
    let here : field_bytes_from bytes ≡ gives c.in_ok-field.field.now c.take_field.new.bytes.now = search rules in
    rw c.in_field.ensures
    (field_stops (listing_in P c.args.range) bytes c.in_ok-field.field.now c.take_field.new.bytes.now c.in-Err.error
    here c.in-Err.ensures)
