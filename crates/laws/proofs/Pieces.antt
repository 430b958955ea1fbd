-- Each part of a cut has the own items between two places of the range.
-- Lists that make up B from a place on, one after another, are the pieces of B at the running sums of their lengths:
-- the first is as long as the first piece, so it is that piece, and the others make up the rest (`pieces`). The items
-- in the parts of a cut are such lists (`flat_map-ranges`), and have the shares as their lengths (`cutup-AreCuts`).
-- docs/LAWS.md: A cut is exact.
use Rattle.std.proofs.Common.{◌≡◌, ℕ, ◌+◌, ◌<◌, List, [], ◌∷◌, ◌++◌, length, take, drop, map, refl, sym, ap, ◌∙◌}
use Rattle.std.proofs.Common.{arith}
use Rattle.std.specs.List.{flat_map}
use Rattle.std.proofs.Math.Seq.{take-append_seam, drop-append_seam}
use Rattle.std.proofs.lemmas.List.{append-nil, drop-take, length-map}
use Rattle.definitions.proofs.Lemmas.{drop-drop}
use Rattle.definitions.proofs.Words.{Item, Range, items_in, inner_cuts, bound_at, ranges_between}
use Rattle.laws.specs.Cutting.{CutsArePieces, pieces_at}
use Rattle.laws.proofs.Cuts.{flat_map-ranges, cutup-AreCuts, length-ranges_between}

-- lists that make up B from a place on are its pieces at the running sums of their lengths
pieces : (ls : List (List Item)) (B : List Item) (start : ℕ) → 0 < length ls → flat_map (λ l. l) ls ≡ drop start B →
    ls ≡ pieces_at start (inner_cuts start (map length ls)) B
pieces [] B start some all = absurd (omega arith)
pieces (l ∷ []) B start some all = ap (λ zs. zs ∷ []) (sym (append-nil l) ∙ all)
pieces (l ∷ m ∷ ls) B start some all =
    let first : l ≡ drop start (take (start + length l) B) =
    sym (take-append_seam l (flat_map (λ l. l) (m ∷ ls))) ∙ ap (take (length l)) all
    ∙ sym (drop-take start (length l) B) in
    let rest : flat_map (λ l. l) (m ∷ ls) ≡ drop (start + length l) B =
    sym (drop-append_seam l (flat_map (λ l. l) (m ∷ ls))) ∙ ap (drop (length l)) all ∙ drop-drop (length l) start B in
    let others = pieces (m ∷ ls) B (start + length l) (omega arith) rest in
    λ i. first i ∷ others i

-- the items of each range, one list after another
lists_of : {X A : Type 0} (f : X → List A) (xs : List X) → flat_map (λ l. l) (map f xs) ≡ flat_map f xs
lists_of f [] = refl
lists_of f (x ∷ xs) = ap (λ zs. f x ++ zs) (lists_of f xs)

lengths_of : {X A : Type 0} (f : X → List A) (xs : List X) → map length (map f xs) ≡ map (λ x. length (f x)) xs
lengths_of f [] = refl
lengths_of f (x ∷ xs) = ap (λ zs. length (f x) ∷ zs) (lengths_of f xs)

pub cuts_are_pieces : CutsArePieces
cuts_are_pieces b A X [] set cut = refl
cuts_are_pieces b A X (s ∷ ss) set cut =
    let B : List Item = items_in A X in
    let sizes : List ℕ = s ∷ ss in
    let cuts : List Item = map (bound_at b B) (inner_cuts 0 sizes) in
    let Ys : List Range = ranges_between X.lower cuts X.upper in
    let are = cutup-AreCuts b A X sizes set cut.total (omega arith) cut.positive in
    let whole : flat_map (λ l. l) (map (items_in A) Ys) ≡ drop 0 B =
    lists_of (items_in A) Ys ∙ flat_map-ranges A set X.lower cuts X.upper are.rise in
    let lengths : map length (map (items_in A) Ys) ≡ sizes = lengths_of (items_in A) Ys ∙ are.counts in
    let some : 0 < length (map (items_in A) Ys) =
    omega (arith, length-map Ys (items_in A), length-ranges_between X.lower cuts X.upper) in
    pieces (map (items_in A) Ys) B 0 some whole ∙ ap (λ zs. pieces_at 0 (inner_cuts 0 zs) B) lengths
