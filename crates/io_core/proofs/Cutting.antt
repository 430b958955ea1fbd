-- Where lines end, and what is left of them when they are cut.
use Rattle.std.proofs.Common.{◌≡◌, ◌∙◌, ℕ, suc, ◌+◌, ◌-◌, ◌<◌, ◌≤◌, List, [], ◌∷◌, ◌++◌, length, take, drop, get_or}
use Rattle.std.proofs.Common.{slice_index, Option, Some, None, refl, sym, ap, subst, arith, append_assoc, append-nil}
use Rattle.std.proofs.Common.{⊎_elim, take-append-drop}
use Rattle.std.specs.List.{concat}
use Rattle.std.proofs.lemmas.List.{length-append, length-take, get_or_at, get_or-append-add, get_or_append_left}
use Rattle.std.proofs.lemmas.List.{take_at, take_all, take-append-le, length_push, get_or-take}
use Rattle.std.proofs.lemmas.Bool.{cases_lt}
use Rattle.std.proofs.Math.Seq.{take-append-add}
use Rattle.io_core.specs.Lines.{AreLines, HasNoFeed, Splits, AreSomeOf, BeginningsAreWhole, feed}
use Rattle.io_core.specs.Devices.{Holds}
use Rattle.io_core.specs.Keeping.{OpensWhole}

-- ---- lines

-- no byte at all, and a line, are lines
pub no_lines : AreLines []
no_lines some = absurd (omega arith)

pub one_line : (text : List ℕ) → AreLines (text ++ feed ∷ [])
one_line text some =
    get_or_at text feed [] 0 (length (text ++ feed ∷ []) - 1) (omega (arith, length_push text feed))

-- lines and lines are lines
pub more_lines : (xs ys : List ℕ) → AreLines xs → AreLines ys → AreLines (xs ++ ys)
more_lines xs [] first last = rw append-nil first
more_lines xs (y ∷ ys) first last = λ some.
    let n = length-append xs (y ∷ ys) in
    let at : length (xs ++ y ∷ ys) - 1 ≡ length xs + (length (y ∷ ys) - 1) = omega arith in
    ap (slice_index (xs ++ y ∷ ys)) at ∙ (get_or-append-add xs (y ∷ ys) (length (y ∷ ys) - 1) 0 ∙ last (omega arith))

-- the end of lines, from any place on, is lines
pub last_lines : (xs ys : List ℕ) → AreLines (xs ++ ys) → AreLines ys
last_lines xs ys all some =
    let n = length-append xs ys in
    let at : length xs + (length ys - 1) ≡ length (xs ++ ys) - 1 = omega arith in
    sym (get_or-append-add xs ys (length ys - 1) 0) ∙ (ap (slice_index (xs ++ ys)) at ∙ all (omega arith))

pub drop_lines : (n : ℕ) (xs : List ℕ) → AreLines xs → AreLines (drop n xs)
drop_lines n xs all = last_lines (take n xs) (drop n xs) (subst AreLines (sym (take-append-drop n xs)) all)

-- what has no line feed and is lines is nothing
pub none_torn : (xs : List ℕ) → AreLines xs → HasNoFeed xs → length xs ≡ 0
none_torn [] lines none = refl
none_torn (x ∷ xs) lines none = absurd (none (length (x ∷ xs) - 1) 0 (omega arith) (lines (omega arith)))

-- whole lines that are cut after their last line feed stay as they are
pub all_whole : (n : ℕ) (xs : List ℕ) → AreLines xs → HasNoFeed (drop n xs) → length xs ≤ n
all_whole n xs lines none =
    let left = none_torn (drop n xs) (drop_lines n xs lines) none in
    omega (arith, left, length-take n xs, length-append (take n xs) (drop n xs), ap length (take-append-drop n xs))

-- ---- there is one place to cut

-- the last byte of longer lines would be in what has no line feed
no_longer : (bytes a b c d : List ℕ) → Splits bytes a b → bytes ≡ c ++ d → AreLines c → length c ≤ length a
no_longer bytes a b c d split all lines =
    ⊎_elim (λ less. absurd (torn less)) (λ more. more) (cases_lt (length a) (length c))
  where
    torn : length a < length c → ⊥
    torn less =
        let last = length c - 1 in
        let at : last ≡ length a + (last - length a) = omega arith in
        let short : length bytes ≡ length a + length b = ap length split.all ∙ length-append a b in
        let long : length bytes ≡ length c + length d = ap length all ∙ length-append c d in
        let in_torn : get_or bytes last 0 ≡ get_or b (last - length a) 0
        = ap (λ (l : List ℕ). get_or l last 0) split.all
        ∙ (ap (λ i. get_or (a ++ b) i 0) at ∙ get_or-append-add a b (last - length a) 0) in
        let in_lines : get_or bytes last 0 ≡ get_or c last 0
        = ap (λ (l : List ℕ). get_or l last 0) all ∙ get_or_append_left c d 0 last (omega arith) in
        split.rest (last - length a) 0 (omega arith) (sym in_torn ∙ (in_lines ∙ lines (omega arith)))

one_place : (bytes a b c d : List ℕ) → Splits bytes a b → Splits bytes c d → a ≡ c
one_place bytes a b c d left right =
    let less = no_longer bytes a b c d left right.all right.lines in
    let more = no_longer bytes c d a b right left.all left.lines in
    let same : length a ≡ length c = omega arith in
    sym (take_at a b (length c) same)
    ∙ (ap (take (length c)) (sym left.all ∙ right.all) ∙ take_at c d (length c) refl)

-- ---- a beginning of lines

-- it ends inside the first of them
inside : (base text rest : List ℕ) (n : ℕ) → AreLines base → HasNoFeed text → length base ≤ n
    → n ≤ length base + length text
    → Splits (take n (base ++ (text ++ feed ∷ [] ++ rest))) base (take (n - length base) text)
inside base text rest n lines none far near =
    let more : n ≡ length base + (n - length base) = omega arith in
    record {
      all = ap (λ i. take i (base ++ (text ++ feed ∷ [] ++ rest))) more
          ∙ (take-append-add base (text ++ feed ∷ [] ++ rest) (n - length base)
          ∙ ap (λ (l : List ℕ). base ++ l)
          (ap (take (n - length base)) (append_assoc text (feed ∷ []) rest)
          ∙ take-append-le (n - length base) text (feed ∷ [] ++ rest) (omega arith)));
      lines = lines;
      rest = λ i d within is.
          let short = length-take (n - length base) text in
          none i d (omega arith) (sym (get_or-take (n - length base) text i d (omega arith)) ∙ is);
    }

nothing_more : (base : List ℕ) → AreLines base → Splits (base ++ []) base []
nothing_more base lines = record { all = refl; lines = lines; rest = λ i d within is. absurd (omega arith) }

none_of : (base : List ℕ) (lines : List (List ℕ)) (whole : List ℕ) → whole ≡ base → AreSomeOf base lines whole
none_of base lines whole same = record { j = 0; within = omega arith; are = same ∙ sym (append-nil base) }

one_more : (base line : List ℕ) (lines : List (List ℕ)) (whole : List ℕ) → AreSomeOf (base ++ line) lines whole
    → AreSomeOf base (line ∷ lines) whole
one_more base line lines whole some = record {
  j = suc some.j;
  within = let within = some.within in omega arith;
  are = some.are ∙ append_assoc base line (concat (take some.j lines));
}

pub beginnings_whole : BeginningsAreWhole
beginnings_whole base [] n whole torn first are far split =
    none_of base [] whole (one_place (base ++ []) whole torn base []
    (subst (λ (l : List ℕ). Splits l whole torn)
    (take_all n (base ++ []) (omega (arith, ap length (append-nil base)))) split) (nothing_more base first))
beginnings_whole base (line ∷ lines) n whole torn first are far split =
    let rest = concat lines in
    let is = are.0.is in
    let long : length line ≡ length are.0.text + 1 = ap length is ∙ length_push are.0.text feed in
    let both = length-append base line in
    ⊎_elim
    (λ near. none_of base (line ∷ lines) whole (one_place (take n (base ++ (line ++ rest))) whole torn base
    (take (n - length base) are.0.text) split
    (subst (λ (l : List ℕ). Splits (take n (base ++ (l ++ rest))) base (take (n - length base) are.0.text)) (sym is)
    (inside base are.0.text rest n first are.0.one far (omega arith)))))
    (λ more. one_more base line lines whole (beginnings_whole (base ++ line) lines n whole torn
    (more_lines base line first (subst AreLines (sym is) (one_line are.0.text))) are.1 more
    (subst (λ (l : List ℕ). Splits (take n l) whole torn) (sym (append_assoc base line rest)) split)))
    (cases_lt n (length (base ++ line)))

-- ---- what a kept file holds

held_is : (held : Option (List ℕ)) (bytes all : List ℕ) → held ≡ Some bytes → Holds held all → bytes ≡ all
held_is None bytes all is holds = absurd (cc is)
held_is (Some xs) bytes all is holds = let same : xs ≡ bytes = cc is in sym same ∙ holds

pub openings_whole : {D : Type 0} (held : D → Option (List ℕ)) → OpensWhole held
openings_whole held base lines f bytes whole torn are first k known split =
    let front = base ++ k.written in
    let all : bytes ≡ front ++ take k.torn f.waiting = held_is (held f.device) bytes _ known k.holds in
    let told : base ++ concat lines ≡ front ++ f.waiting
    = ap (λ (l : List ℕ). base ++ l) k.order ∙ sym (append_assoc base k.written f.waiting) in
    let beginning : bytes ≡ take (length front + k.torn) (base ++ concat lines)
    = all ∙ sym (ap (take (length front + k.torn)) told ∙ take-append-add front f.waiting k.torn) in (
      beginnings_whole base lines (length front + k.torn) whole torn first are
          (omega (arith, length-append base k.written)) (subst (λ (l : List ℕ). Splits l whole torn) beginning split),
      (let size = k.size in let more = no_longer bytes whole torn front _ split all k.whole in omega arith),
    )
