-- Items taken by their marks, one item more.
use Rattle.std.proofs.Common.{◌≡◌, ℕ, zero, suc, ◌+◌, ◌<◌, Bool, true, false, List, [], ◌∷◌, ◌++◌, length, take, get_or}
use Rattle.std.proofs.Common.{refl, sym, ap, ◌∙◌, append_assoc, arith}
use Rattle.std.specs.Prelude.{if◌then◌else◌, unwrap_or}
use Rattle.std.specs.List.{slice_get, items_where_true}
use Rattle.definitions.specs.Items.{Item}

pub none_marked : (marks : List Bool) → items_where_true {X = Item} marks [] ≡ []
none_marked [] = refl
none_marked (b ∷ bs) = refl

-- the item where its mark is set
abbrev pub where_marked : List Bool → List Item → ℕ → Item → List Item
where_marked marks xs i d = if unwrap_or (slice_get marks i) false then get_or xs i d ∷ [] else []

marked_next : (marks : List Bool) (xs : List Item) (i : ℕ) (d : Item) → i < length xs →
    items_where_true marks (take (suc i) xs) ≡ items_where_true marks (take i xs) ++ where_marked marks xs i d
marked_next marks [] i d low = absurd (omega arith)
marked_next [] (y ∷ ys) i d low = refl
marked_next (true ∷ bs) (y ∷ ys) zero d low = ap (λ zs. y ∷ zs) (none_marked bs)
marked_next (false ∷ bs) (y ∷ ys) zero d low = none_marked bs
marked_next (true ∷ bs) (y ∷ ys) (suc i) d low = ap (λ zs. y ∷ zs) (marked_next bs ys i d (omega arith))
marked_next (false ∷ bs) (y ∷ ys) (suc i) d low = marked_next bs ys i d (omega arith)

pub marked_more : (marks : List Bool) (xs : List Item) (i : ℕ) (d : Item) → i < length xs →
    items_where_true marks (take (i + 1) xs) ≡ items_where_true marks (take i xs) ++ where_marked marks xs i d
marked_more marks xs i d low = let next : i + 1 ≡ suc i = omega arith in rw next (marked_next marks xs i d low)

-- the marked items of one more
pub pushed : (marks : List Bool) (xs : List Item) (i : ℕ) (x : Item) (marked : Bool) (old before after : List Item) →
    i < length xs → get_or xs i x ≡ x →
    marked ≡ unwrap_or (slice_get marks i) false → before ≡ old ++ items_where_true marks (take i xs) →
    after ≡ before ++ (if marked then x ∷ [] else []) →
    after ≡ old ++ items_where_true marks (take (i + 1) xs)
pushed marks xs i x marked old before after low here mark is adds =
    let one : (if marked then x ∷ [] else []) ≡ where_marked marks xs i x =
    λ k. if mark k then sym here k ∷ [] else [] in
    adds ∙ ap (λ (ys : List Item). ys ++ (if marked then x ∷ [] else [])) is
    ∙ append_assoc old (items_where_true marks (take i xs)) (if marked then x ∷ [] else [])
    ∙ ap (λ (ys : List Item). old ++ (items_where_true marks (take i xs) ++ ys)) one
    ∙ ap (λ (ys : List Item). old ++ ys) (sym (marked_more marks xs i x low))
