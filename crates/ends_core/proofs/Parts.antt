-- A part's range is one.
use Rattle.definitions.specs.Items.{IsRange}
use Rattle.definitions.specs.Messages.{Part, Sum, Listing, Answer, range_of}
use Rattle.definitions.specs.Wire.{Profile, IsPart, HasFields}

pub range_of_part : {F : Type 0} (Q : Profile F) (p : Part F) → IsPart Q p → IsRange (range_of p)
range_of_part Q (Sum X f) h = let fields : HasFields Q (Sum X f) = h.fields in fields.0
range_of_part Q (Listing X items) h = let fields : HasFields Q (Listing X items) = h.fields in fields.0
range_of_part Q (Answer X marks items) h = let fields : HasFields Q (Answer X marks items) = h.fields in fields.0
