-- The bounds of a selector are read back from their bytes, and from no others.
use Rattle.std.proofs.Common.{◌≡◌, ℕ, zero, suc, ◌+◌, ◌<◌, ◌≤◌, Bool, true, false, not, List, [], ◌∷◌, ◌++◌, length}
use Rattle.std.proofs.Common.{get_or, take, drop, refl, sym, ap, subst, ◌∙◌, arith, Option, Some, None}
use Rattle.std.specs.Prelude.{nat_lt, ◌||◌, if◌then◌else◌}
use Rattle.std.proofs.lemmas.Bool.{and_parts, and_from, le-ltb, ltb-false}
use Rattle.std.proofs.lemmas.List.{take-append-drop, drop-drop, get_or-drop, length-take}
use Rattle.std.proofs.lemmas.List.{length-drop}
use Rattle.std.proofs.Math.Seq.{take-append_seam, drop-cons}
use Rattle.definitions.specs.Items.{IsBytes, Range, IsRange, IsUpper, is_below, same_range, whole}
use Rattle.shard_core.specs.declared.selector.Which.{Which}
use Rattle.shard_core.specs.declared.selector.Selecting.TheVariants.{More, WrongSet, Selected}
use Rattle.shard_core.specs.Selectors.{upper_bytes, length_at, short_at, after_short, upper_of, range_in, is_part}
use Rattle.shard_core.specs.Selectors.{part_selected, part_in}
use Rattle.shard_core.proofs.Spelled.{if_not, if_so, Bounds, bounds_length, upper_length, after_upper_length}

abbrev range_of : List ℕ → List ℕ → Range
range_of x y = record { lower = x; upper = upper_of y }

-- ---- an upper bound and its bytes

upper_back : (y : Option (List ℕ)) → IsUpper y → upper_of (upper_bytes y) ≡ y
upper_back None is = refl
upper_back (Some []) is = absurd (omega (arith, is.not_empty))
upper_back (Some (b ∷ y)) is = refl

pub upper_few : (y : Option (List ℕ)) → IsUpper y → length (upper_bytes y) ≤ 64
upper_few None is = omega arith
upper_few (Some y) is = is.not_long

upper_same : (y : List ℕ) → upper_bytes (upper_of y) ≡ y
upper_same [] = refl
upper_same (b ∷ y) = refl

upper_is : (y : List ℕ) → length y ≤ 64 → IsBytes y → IsUpper (upper_of y)
upper_is [] few bytes = tt
upper_is (b ∷ y) few bytes = record { not_empty = omega arith; not_long = few; bytes = bytes }

-- ---- what is written is read back

pub both_false : (c d : Bool) → c ≡ false → d ≡ false → (c || d) ≡ false
both_false false false p q = refl
both_false false true p q = q
both_false true d p q = p

-- with all tests passed
all_there : (w : Which) (front : ℕ) (rest : List ℕ) → length_at rest 0 ≤ 64 →
    length_at rest (after_short rest 0) ≤ 64 → after_short rest (after_short rest 0) ≤ length rest →
    part_in w front rest ≡ part_selected w (range_in rest) (front + after_short rest (after_short rest 0))
all_there w front rest few some long =
    let lower : Bool = nat_lt 64 (length_at rest 0) in
    let upper : Bool = nat_lt 64 (length_at rest (after_short rest 0)) in
    if_not (lower || upper) WrongSet _ (both_false lower upper (le-ltb 64 (length_at rest 0) few)
    (le-ltb 64 (length_at rest (after_short rest 0)) some))
    ∙ if_not (nat_lt (length rest) (after_short rest (after_short rest 0))) More _
    (le-ltb (length rest) (after_short rest (after_short rest 0)) long)

module _ (x y later : List ℕ) where
  middle : after_short (Bounds x y later) 0 ≡ suc (length x)
  middle = omega arith

  upper_there : length_at (Bounds x y later) (after_short (Bounds x y later) 0) ≡ length y
  upper_there = upper_length x y later (after_short (Bounds x y later) 0) middle

  pub bounds_end : after_short (Bounds x y later) (after_short (Bounds x y later) 0) ≡ 2 + length x + length y
  bounds_end = omega (arith, upper_there)

  lower_read : short_at (Bounds x y later) 0 ≡ x
  lower_read = take-append_seam x (length y ∷ (y ++ later))

  upper_read : short_at (Bounds x y later) (after_short (Bounds x y later) 0) ≡ y
  upper_read =
      let place : after_short (Bounds x y later) 0 + 1 ≡ suc (length x + 1) = omega arith in
      ap (λ n. take n (drop (after_short (Bounds x y later) 0 + 1) (Bounds x y later))) upper_there
      ∙ ap (λ xs. take (length y) xs)
      (after_upper_length x y later (after_short (Bounds x y later) 0 + 1) place)
      ∙ take-append_seam y later

  range_read : range_in (Bounds x y later) ≡ range_of x y
  range_read = λ i. range_of (lower_read i) (upper_read i)

  bounds_read : (w : Which) (front : ℕ) → length x ≤ 64 → length y ≤ 64 →
      part_in w front (Bounds x y later) ≡ part_selected w (range_of x y) (front + (2 + length x + length y))
  bounds_read w front few some =
      let long = bounds_length x y later in
      all_there w front (Bounds x y later) few (omega (arith, upper_there)) (omega (arith, bounds_end, long))
      ∙ (λ i. part_selected w (range_read i) (front + bounds_end i))

pub bounds_written : (w : Which) (front : ℕ) (X : Range) (later : List ℕ) → IsRange X → same_range X whole ≡ false →
    part_in w front (Bounds X.lower (upper_bytes X.upper) later)
    ≡ Selected w X (front + (2 + length X.lower + length (upper_bytes X.upper)))
bounds_written w front X later is part =
    let used : ℕ = front + (2 + length X.lower + length (upper_bytes X.upper)) in
    let same : range_of X.lower (upper_bytes X.upper) ≡ X =
    λ i. record { lower = X.lower; upper = upper_back X.upper is.upper i } in
    bounds_read X.lower (upper_bytes X.upper) later w front is.lower.not_long (upper_few X.upper is.upper)
    ∙ ap (λ Y. part_selected w Y used) same
    ∙ if_so (is_part X) (Selected w X used) WrongSet
    (and_from (is_below X.lower X.upper) (not (same_range X whole)) is.rises (ap not part))

-- ---- and nothing else is

few_short : (rest : List ℕ) (i : ℕ) → length_at rest i ≤ 64 → length (short_at rest i) ≤ 64
few_short rest i few = let size = length-take (length_at rest i) (drop (i + 1) rest) in omega (arith, size)

short_is : (rest : List ℕ) (i : ℕ) → after_short rest i ≤ length rest → length (short_at rest i) ≡ length_at rest i
short_is rest i long =
    let size = length-take (length_at rest i) (drop (i + 1) rest) in
    let left = length-drop (i + 1) rest in omega (arith, size, left)

-- a length, so many bytes, and what follows them
short_split : (rest : List ℕ) (i : ℕ) → after_short rest i ≤ length rest →
    drop i rest ≡ length (short_at rest i) ∷ (short_at rest i ++ drop (after_short rest i) rest)
short_split rest i long =
    let n : ℕ = length_at rest i in
    let place : suc i ≡ i + 1 = omega arith in
    let size : n ≡ length (short_at rest i) = sym (short_is rest i long) in
    let after : drop n (drop (i + 1) rest) ≡ drop (after_short rest i) rest = drop-drop n (i + 1) rest in
    let both : drop (i + 1) rest ≡ short_at rest i ++ drop n (drop (i + 1) rest) =
    sym (take-append-drop n (drop (i + 1) rest)) in
    drop-cons rest i 0 (omega arith) ∙ ap (λ k. n ∷ drop k rest) place ∙ ap (λ xs. n ∷ xs) both
    ∙ (λ j. size j ∷ (short_at rest i ++ after j))

-- small bytes are bytes
few_bytes : (n : ℕ) (xs : List ℕ) → ((i : ℕ) → get_or xs i 0 < 256) → IsBytes (take n xs)
few_bytes zero xs small = tt
few_bytes (suc n) [] small = tt
few_bytes (suc n) (x ∷ xs) small = (small 0, few_bytes n xs (λ i. small (suc i)))

short_bytes : (rest : List ℕ) (i : ℕ) → ((k : ℕ) → get_or rest k 0 < 256) → IsBytes (short_at rest i)
short_bytes rest i small =
    few_bytes (length_at rest i) (drop (i + 1) rest)
    (λ k. let at = get_or-drop (i + 1) rest k 0 in let fits = small (i + 1 + k) in omega (arith, at, fits))

neither : (c d : Bool) → (c || d) ≡ false → (c ≡ false) × (d ≡ false)
neither false false e = (refl, refl)
neither false true e = absurd (cc)
neither true d e = absurd (cc)

not_true : (c : Bool) → not c ≡ true → c ≡ false
not_true false e = refl
not_true true e = absurd (cc)

-- what the bytes after the number are, if they say a part
pub record IsPart (front : ℕ) (rest : List ℕ) (v w : Which) (X : Range) (used : ℕ) : Type 0 where
  pub which : v ≡ w
  pub range : IsRange X
  pub part : same_range X whole ≡ false
  pub ends : used ≡ front + (2 + length X.lower + length (upper_bytes X.upper))
  pub left : List ℕ
  pub text : rest ≡ Bounds X.lower (upper_bytes X.upper) left

selects : (w v : Which) (X Y : Range) (n used : ℕ) (c : Bool) →
    (if c then Selected w X n else WrongSet) ≡ Selected v Y used → (c ≡ true) × (w ≡ v) × (X ≡ Y) × (n ≡ used)
selects w v X Y n used true e = (refl, cc, cc, cc)
selects w v X Y n used false e = absurd (cc)

-- the tests that the bounds passed
passed : (w v : Which) (X Y : Range) (n used : ℕ) (long short part : Bool) →
    (if long then WrongSet else if short then More else if part then Selected w X n else WrongSet) ≡ Selected v Y used →
    (long ≡ false) × (short ≡ false) × (part ≡ true) × (w ≡ v) × (X ≡ Y) × (n ≡ used)
passed w v X Y n used true short part e = absurd (cc)
passed w v X Y n used false true part e = absurd (cc)
passed w v X Y n used false false part e =
    let is = selects w v X Y n used part e in (refl, refl, is.0, is.1, is.2, is.3)

-- both bounds, and what follows them
both_split : (rest : List ℕ) → after_short rest (after_short rest 0) ≤ length rest →
    rest ≡ Bounds (short_at rest 0) (short_at rest (after_short rest 0))
    (drop (after_short rest (after_short rest 0)) rest)
both_split rest long =
    short_split rest 0 (omega arith)
    ∙ ap (λ xs. length (short_at rest 0) ∷ (short_at rest 0 ++ xs)) (short_split rest (after_short rest 0) long)

pub part_only : (w v : Which) (front : ℕ) (rest : List ℕ) (X : Range) (used : ℕ) →
    ((k : ℕ) → get_or rest k 0 < 256) → part_in w front rest ≡ Selected v X used → IsPart front rest w v X used
part_only w v front rest X used small says =
    let middle : ℕ = after_short rest 0 in
    let x : List ℕ = short_at rest 0 in
    let y : List ℕ = short_at rest middle in
    let tests = passed w v (range_in rest) X (front + after_short rest middle) used
    (nat_lt 64 (length_at rest 0) || nat_lt 64 (length_at rest middle)) (nat_lt (length rest) (after_short rest middle))
    (is_part (range_in rest)) says in
    let lengths = neither (nat_lt 64 (length_at rest 0)) (nat_lt 64 (length_at rest middle)) tests.0 in
    let few : length_at rest 0 ≤ 64 = ltb-false 64 (length_at rest 0) lengths.0 in
    let some : length_at rest middle ≤ 64 = ltb-false 64 (length_at rest middle) lengths.1 in
    let long : after_short rest middle ≤ length rest = ltb-false (length rest) (after_short rest middle) tests.1 in
    let both = and_parts (is_below x (upper_of y)) (not (same_range (range_in rest) whole)) tests.2 in
    let first : length x ≡ length_at rest 0 = short_is rest 0 (omega arith) in
    let last : length y ≡ length_at rest middle = short_is rest middle long in
    subst (λ Y. IsPart front rest w v Y used) tests.4 (record {
      which = tests.3;
      range = record {
        lower = record { not_long = few_short rest 0 few; bytes = short_bytes rest 0 small };
        upper = upper_is y (few_short rest middle some) (short_bytes rest middle small);
        rises = both.0;
      };
      part = not_true (same_range (range_in rest) whole) both.1;
      ends = let same = ap length (upper_same y) in omega (arith, tests.5, first, last, same);
      left = drop (after_short rest middle) rest;
      text = both_split rest long
          ∙ ap (λ z. Bounds x z (drop (after_short rest middle) rest)) (sym (upper_same y));
    })
