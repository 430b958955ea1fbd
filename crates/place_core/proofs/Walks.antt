-- The walk over the parts of the own message.
use Rattle.std.proofs.Common.{◌≡◌, ℕ, ◌+◌, [], ◌∷◌, drop, Some, None, refl, ap, ◌∙◌, subst}
use Rattle.std.specs.List.{slice_get, list_any}
use Rattle.std.proofs.lemmas.List.{drop_more}
use Rattle.std.proofs.lemmas.Option.{slice_get_within, get_or_from_slice_get}
use Rattle.definitions.specs.Items.{Range}
use Rattle.definitions.specs.Messages.{Part, Sum, Listing, Answer, Message, range_of, open_parts}
use Rattle.definitions.specs.Placing.{next_outside, is_list}
use Rattle.wire_core.specs.Parts.{items_in}
use Rattle.place_core.specs.Fits.{after_fit}
use Rattle.place_core.specs.declared.fit.Fit.{Fit}

-- a List is open
pub open_lists : {F : Type 0} (M : Message F) → list_any is_list (open_parts M) ≡ list_any is_list M
open_lists [] = refl
open_lists (Sum X f ∷ M) = open_lists M
open_lists (Listing X items ∷ M) = refl
open_lists (Answer X marks items ∷ M) = open_lists M

-- a part of no items is a Sum
pub met_by_sum : {F : Type 0} (own p : Part F) (X : Range) (fit : Fit) → X ≡ range_of own → items_in own ≡ None →
    ((f : F) (left : Message F) → next_outside (Sum X f ∷ left) p ≡ after_fit fit left p) →
    (left : Message F) → next_outside (open_parts (own ∷ left)) p ≡ after_fit fit (open_parts left) p
met_by_sum (Sum Y f) p X fit e none h left = subst
    (λ Z. next_outside (Sum Z f ∷ open_parts left) p ≡ after_fit fit (open_parts left) p) e (h f (open_parts left))
met_by_sum (Listing Y items) p X fit e none h left = cc
met_by_sum (Answer Y marks items) p X fit e none h left = cc

-- one part more of the own message is done
pub walked : {F : Type 0} (sent : Message F) (at : ℕ) (own p : Part F) (fit : Fit) → slice_get sent at ≡ Some own →
    ((left : Message F) → next_outside (open_parts (own ∷ left)) p ≡ after_fit fit (open_parts left) p) →
    next_outside (open_parts (drop at sent)) p ≡ after_fit fit (open_parts (drop (at + 1) sent)) p
walked sent at own p fit found h =
    let here : drop at sent ≡ own ∷ drop (at + 1) sent = drop_more sent at own (slice_get_within sent at own found)
    ∙ ap (λ q. q ∷ drop (at + 1) sent) (get_or_from_slice_get sent at own own found) in
    ap (λ left. next_outside (open_parts left) p) here ∙ h (drop (at + 1) sent)
