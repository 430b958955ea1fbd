-- Events that are read one after another, and what is left of the bytes.
use Rattle.std.proofs.Common.{rules, refl, ◌≡◌, List, [], ◌∷◌, ◌-◌, ℕ, length, take, drop, sym, ap, ◌∙◌}
use Rattle.std.proofs.lemmas.List.{take_all, length-drop}
use Rattle.std.specs.Prelude.{Option}
use Rattle.std.specs.Option.{option_to_list}
use Rattle.definitions.specs.Wire.{Profile}
use Rattle.definitions.specs.Items.{IsBytes}
use Rattle.definitions.specs.Streams as streams
use Rattle.definitions.specs.Streams.{Fed, feed, stays}
use Rattle.laws.specs.Parts.{FeedsRest}
use Rattle.wire_core.specs.Standings.{standing_of, fed_as}
use Rattle.wire_core.specs.declared.event.Event as declared
use Rattle.wire_core.specs.declared.standing.Standing.{Standing}

pub before_both : {X : Type 0} (a b c : List X) → take (length a) b ≡ a → take (length b) c ≡ b → take (length a) c ≡ a
before_both [] b c h k = refl
before_both (x ∷ a) [] c h k = absurd cc
before_both (x ∷ a) (y ∷ b) [] h k = absurd cc
before_both {X} (x ∷ a) (y ∷ b) (z ∷ c) h k =
    let head_h : y ≡ x = cc in
    let tail_h : take (length a) b ≡ a = cc in
    let head_k : z ≡ y = cc in
    let tail_k : take (length b) c ≡ b = cc in
    let rest = before_both a b c tail_h tail_k in
    λ i. (head_k ∙ head_h) i ∷ rest i

-- what is left after one event stays
pub left_stays : {F : Type 0} (P : Profile F) → FeedsRest P → (from : streams.Standing) (bytes : List ℕ)
    (made : Option (declared.Event F)) (to : Standing) (left : List ℕ) → IsBytes bytes →
    feed P from bytes ≡ fed_as (option_to_list made) to left →
    feed P (standing_of to) left ≡ stays (standing_of to) left
left_stays {F} P rests from bytes made to left fits fed =
    let at : (feed P from bytes).to ≡ standing_of to = ap (λ (f : Fed F). f.to) fed in
    let kept : (feed P from bytes).kept ≡ left = ap (λ (f : Fed F). f.kept) fed in
    sym (λ i. feed P (at i) (kept i)) ∙ (rests from bytes fits).0 ∙ (λ i. stays (at i) (kept i))

pub slice_back : (taken : ℕ) (bytes : List ℕ) → take (length bytes - taken) (drop taken bytes) ≡ drop taken bytes
slice_back taken bytes = search (rules, take_all, length-drop)
