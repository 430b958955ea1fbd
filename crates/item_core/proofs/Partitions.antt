-- A walk along the parts of a range, by which Partitions is decided.
use Rattle.std.proofs.Common.{◌≡◌, ◌↔◌, ℕ, Bool, true, false, ◌&&◌, List, [], ◌∷◌, length, drop, get_or, ◌<◌, ◌≤◌, ◌+◌}
use Rattle.std.proofs.Common.{Option, Some, None, Bor, IsTrue, refl, sym, ap, ◌∙◌, arith}
use Rattle.std.specs.Option.{option_eq, option_copied}
use Rattle.std.proofs.lemmas.List.{drop_more, drop_all}
use Rattle.std.specs.Prelude.{bytes_eq}
use Rattle.std.proofs.lemmas.Slice.Eq.{bytes_eq-Decides}
use Rattle.definitions.specs.Items.{Range, Partitions, ranges_between, same_upper}

-- the parts go on from a seam, each from where the one before it ends, and end at the upper bound y
abbrev pub go_on : Option (List ℕ) → List Range → Option (List ℕ) → Bool
go_on seam [] y = same_upper seam y
go_on None (Z ∷ Zs) y = false
go_on (Some x) (Z ∷ Zs) y = bytes_eq x Z.lower && go_on Z.upper Zs y

both : (a b : Bool) → (a && b) ≡ true → (a ≡ true) × (b ≡ true)
both true b e = (refl, e)
both false b e = cc

same_bytes : (x y : List ℕ) → bytes_eq x y ≡ true → x ≡ y
same_bytes x y = (bytes_eq-Decides x y).0

is_same_bytes : (x : List ℕ) → bytes_eq x x ≡ true
is_same_bytes x = (bytes_eq-Decides x x).1 refl

same_bound : (x y : Option (List ℕ)) → same_upper x y ≡ true → x ≡ y
same_bound None None e = refl
same_bound None (Some y) e = cc
same_bound (Some x) None e = cc
same_bound (Some x) (Some y) e = ap Some (same_bytes x y e)

is_same_bound : (x : Option (List ℕ)) → same_upper x x ≡ true
is_same_bound None = refl
is_same_bound (Some x) = is_same_bytes x

-- parts that go on do so from an item
from_item : (x : Option (List ℕ)) (Z : Range) (Zs : List Range) (y : Option (List ℕ)) → go_on x (Z ∷ Zs) y ≡ true →
    (cut : List ℕ) × (x ≡ Some cut) × (go_on (Some cut) (Z ∷ Zs) y ≡ true)
from_item None Z Zs y e = cc
from_item (Some cut) Z Zs y e = (cut, refl, e)

cuts_of : (x : List ℕ) (Z : Range) (Zs : List Range) (y : Option (List ℕ)) → go_on (Some x) (Z ∷ Zs) y ≡ true →
    (cuts : List (List ℕ)) × (Z ∷ Zs ≡ ranges_between x cuts y)
cuts_of x Z [] y e =
    let ends = both _ _ e in
    let lower : Z.lower ≡ x = sym (same_bytes x Z.lower ends.0) in
    let upper : Z.upper ≡ y = same_bound Z.upper y ends.1 in
    ([], λ i. record { lower = lower i; upper = upper i } ∷ [])
cuts_of x Z (W ∷ Ws) y e =
    let ends = both _ _ e in
    let next = from_item Z.upper W Ws y ends.1 in
    let rest = cuts_of next.0 W Ws y next.2 in
    let lower : Z.lower ≡ x = sym (same_bytes x Z.lower ends.0) in
    (next.0 ∷ rest.0, λ i. record { lower = lower i; upper = next.1 i } ∷ rest.1 i)

goes_on : (x : List ℕ) (cuts : List (List ℕ)) (y : Option (List ℕ)) → go_on (Some x) (ranges_between x cuts y) y ≡ true
goes_on x [] y = rw (is_same_bytes x) (is_same_bound y)
goes_on x (cut ∷ cuts) y = rw (is_same_bytes x) (goes_on cut cuts y)

-- what a walk along all parts says
walk-decides : (X : Range) (Ys : List Range) → 0 < length Ys →
    IsTrue (go_on (Some X.lower) Ys X.upper) ↔ Partitions X Ys
walk-decides X [] some = absurd (omega arith)
walk-decides X (Y ∷ Ys) some =
    (cuts_of X.lower Y Ys X.upper, λ p. ap (λ Zs. go_on (Some X.lower) Zs X.upper) p.1 ∙ goes_on X.lower p.0 X.upper)

-- a part that does not begin at the seam
turns : (x : Option (List ℕ)) (Z : Range) (Zs : List Range) (y : Option (List ℕ)) →
    same_upper x (Some Z.lower) ≡ false → go_on x (Z ∷ Zs) y ≡ false
turns None Z Zs y e = refl
turns (Some x) Z Zs y e = rw e refl

no_parts : (X : Range) → Partitions X [] → IsTrue false
no_parts X ([], e) = cc
no_parts X (cut ∷ cuts, e) = cc

pub none_splits : (X : Range) (Ys : List Range) → length Ys ≡ 0 → IsTrue false ↔ Partitions X Ys
none_splits X [] e = ((λ f. cc), no_parts X)
none_splits X (Y ∷ Ys) e = absurd (omega arith)

-- the test of two lent bounds
abbrev pub meets : Option (Bor (List ℕ)) → Option (Bor (List ℕ)) → Bool
meets x y = option_eq (λ a b. bytes_eq a.now b.now) x y

meets-same : (x y : Option (Bor (List ℕ))) → meets x y ≡ same_upper (option_copied x) (option_copied y)
meets-same None None = refl
meets-same None (Some y) = refl
meets-same (Some x) None = refl
meets-same (Some x) (Some y) = refl

module _ (X : Range) (Ys : List Range) (seam : Option (Bor (List ℕ))) (i : ℕ)
    (so_far : go_on (Some X.lower) Ys X.upper ≡ go_on (option_copied seam) (drop i Ys) X.upper) where
  walk : Bool
  walk = go_on (Some X.lower) Ys X.upper

  -- the part at i does not begin at the seam
  pub stops : (Z : Range) (lower : Bor (List ℕ)) → i < length Ys → Z ≡ get_or Ys i Z → lower.now ≡ Z.lower →
      meets seam (Some lower) ≡ false → IsTrue false ↔ Partitions X Ys
  unfolding walk
  stops Z lower low at is e =
      let apart : same_upper (option_copied seam) (Some Z.lower) ≡ false =
      rw (← is) (sym (meets-same seam (Some lower)) ∙ e) in
      let left : drop i Ys ≡ Z ∷ drop (i + 1) Ys = drop_more Ys i Z low ∙ ap (λ W. W ∷ drop (i + 1) Ys) (sym at) in
      let fails : walk ≡ false = so_far ∙ ap (λ Zs. go_on (option_copied seam) Zs X.upper) left ∙ turns _ Z _ _ apart in
      ((λ f. cc), λ p. sym fails ∙ (walk-decides X Ys (omega arith)).1 p)

  -- no part is left
  pub ends : (upper : Option (Bor (List ℕ))) (answer : Bool) → length Ys ≤ i → 0 < length Ys →
      option_copied upper ≡ X.upper → answer ≡ meets seam upper → IsTrue answer ↔ Partitions X Ys
  unfolding walk
  ends upper answer high some is answers =
      let met : answer ≡ walk = answers ∙ meets-same seam upper ∙ ap (same_upper (option_copied seam)) is
      ∙ sym (so_far ∙ ap (λ Zs. go_on (option_copied seam) Zs X.upper) (drop_all i Ys high)) in
      rw met (walk-decides X Ys some)
