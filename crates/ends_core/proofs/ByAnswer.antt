-- What a List tells is what the answer to it tells.
use Rattle.std.proofs.Common.{rules, ◌≡◌, Bool, List, [], ◌∷◌, map, Option, Some, None, sym, ap, ◌∙◌}
use Rattle.std.specs.Prelude.{not}
use Rattle.std.specs.List.{slice_get, items_where_true}
use Rattle.definitions.specs.Items.{Item}
use Rattle.definitions.specs.Sets.{has, items_in, difference}
use Rattle.definitions.specs.Messages.{Part, Message, Sum, Listing, Answer}
use Rattle.laws.proofs.Times.{items_where_true-map}
use Rattle.wire_core.specs.Parts as parts
use Rattle.ends_core.specs.Learning.{told, IsAnswered}

pub told_by_answer : {F : Type 0} (A listed theirs ours : List Item) (marks : List Bool) (p answer : Part F)
    (reply : Message F) → IsAnswered A p reply → parts.items_in p ≡ Some theirs → slice_get reply 0 ≡ Some answer →
    parts.marks_in answer ≡ Some marks → parts.items_in answer ≡ Some ours →
    record { ours = ours; theirs = items_where_true marks theirs } ≡ told A listed p
told_by_answer A listed theirs ours marks (Sum X f) answer reply is list first at own = absurd cc
told_by_answer A listed theirs ours marks (Answer X m items) answer reply is list first at own =
    absurd (let none : None ≡ Some answer = sym (ap (λ (ps : Message _). slice_get ps 0) is) ∙ first in cc)
told_by_answer A listed theirs ours marks (Listing X items) answer reply is list first at own =
    let same : items ≡ theirs = cc in
    let one = ap (λ (ps : Message _). slice_get ps 0) is in
    let made = sym one ∙ first in
    let marks_are = ap (λ (o : Option (Part _)). by_marks o) made ∙ at in
    let ours_are = ap (λ (o : Option (Part _)). by_items o) made ∙ own in
    let m : map (λ x. not (has A x)) items ≡ marks = cc in
    let o : difference (items_in A X) items ≡ ours = cc in
    let t : items_where_true marks theirs ≡ difference items A =
    (λ i. items_where_true (sym m i) (sym same i)) ∙ items_where_true-map (λ x. not (has A x)) items in
    λ i. record { ours = sym o i; theirs = t i } where
      by_marks : {F : Type 0} → Option (Part F) → Option (List Bool)
      by_marks None = None
      by_marks (Some p) = parts.marks_in p

      by_items : {F : Type 0} → Option (Part F) → Option (List Item)
      by_items None = None
      by_items (Some p) = parts.items_in p
