use Rattle.std.proofs.Common.{List, sym, subst}
use Rattle.definitions.specs.Items.{Item, IsRange}
use Rattle.definitions.specs.Messages.{Listing}
use Rattle.definitions.specs.Wire.{two_lane_profile, IsPart}
use Rattle.ends_core.proofs.Parts.{range_of_part}
use Rattle.ends_core.proofs.listing.reply_to.Goals as goal

pub listing-requires : goal.listing-requires
listing-requires c =
    let range = subst IsRange (sym c.range-range.ensures.range)
    (range_of_part two_lane_profile c.args.part.now c.range-range.ensures.part) in
    let fits = c.sets_fit.ensures two_lane_profile _ c.range-range.result.now c.args.store.now.rises
    c.args.store.now.are_items c.requires range in
    subst (λ (items : List Item). IsPart two_lane_profile (Listing c.range-range.result.now items))
    (sym c.in_ok-items.ensures) fits
