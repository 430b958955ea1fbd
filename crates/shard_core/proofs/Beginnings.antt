-- Where at least one byte of a selector is missing, more must come.
use Rattle.std.proofs.Common.{◌≡◌, ℕ, zero, suc, ◌+◌, ◌<◌, ◌≤◌, Bool, true, false, ◌&&◌, ◌==◌, List, [], ◌∷◌, ◌++◌}
use Rattle.std.proofs.Common.{length, get_or, drop, refl, sym, ap, ◌∙◌, arith, inl, inr, ◌⊎◌, append-nil, Err}
use Rattle.std.specs.Prelude.{nat_lt, ◌||◌, if◌then◌else◌}
use Rattle.std.specs.Int.{w16, to_be_bytes}
use Rattle.std.proofs.lemmas.Bool.{eq-eqb, and_from, lt-ltb, le-ltb, cases_lt}
use Rattle.std.proofs.lemmas.List.{length-append, get_or_append_left, get_or_past}
use Rattle.definitions.specs.Items.{Range, IsRange}
use Rattle.shard_core.specs.declared.selector.Which.{Which}
use Rattle.shard_core.specs.declared.selector.Selecting.{Selecting}
use Rattle.shard_core.specs.declared.selector.Selecting.TheVariants.{NoSelector, More, WrongSet}
use Rattle.shard_core.specs.Selectors.{mark, part_mark, IsWhich, which_number, which_text, upper_bytes, bounds_text}
use Rattle.shard_core.specs.Selectors.{selector_text}
use Rattle.shard_core.specs.Selectors.{agree, is_own, which_in, length_at, after_short}
use Rattle.shard_core.specs.Selectors.{part_in, selected, said_of, selecting}
use Rattle.shard_core.proofs.Spelled.{if_not, if_so, Spelled, Bounds, whole_text, part_text, kinds}
use Rattle.shard_core.proofs.Spelled.{front_text, bounds_then, whole_length, after_name, after_number}
use Rattle.shard_core.proofs.Spelled.{bounds_length, upper_length}
use Rattle.shard_core.proofs.Bounded.{upper_few, both_false}
use Rattle.shard_core.proofs.Selections.{said}

-- ---- beginnings of one list

-- two beginnings agree
both_begin : (xs ys a z : List ℕ) → xs ++ a ≡ ys ++ z → agree xs ys ≡ true
both_begin [] ys a z same = refl
both_begin (x ∷ xs) [] a z same = refl
both_begin (x ∷ xs) (y ∷ ys) a z same =
    let first : x ≡ y = cc in
    let rest : xs ++ a ≡ ys ++ z = cc in
    and_from (x == y) (agree xs ys) (eq-eqb x y first) (both_begin xs ys a z rest)

-- what is dropped of a beginning is dropped of the whole
dropped : (n : ℕ) (xs a ts : List ℕ) → xs ++ a ≡ ts → (z : List ℕ) × (drop n xs ++ z ≡ drop n ts)
dropped zero xs a ts same = (a, same)
dropped (suc n) [] a ts same = (drop (suc n) ts, refl)
dropped (suc n) (x ∷ xs) a [] same = absurd (cc)
dropped (suc n) (x ∷ xs) a (t ∷ ts) same = dropped n xs a ts (cc)

-- the longer of two beginnings begins with the shorter
goes_past : (ys xs a z : List ℕ) → xs ++ a ≡ ys ++ z → length ys ≤ length xs →
    (r : List ℕ) × (xs ≡ ys ++ r) × (r ++ a ≡ z)
goes_past [] xs a z same long = (xs, refl, same)
goes_past (y ∷ ys) [] a z same long = absurd (omega arith)
goes_past (y ∷ ys) (x ∷ xs) a z same long =
    let first : x ≡ y = cc in
    let after = goes_past ys xs a z (cc) (omega arith) in
    (after.0, (λ i. first i ∷ after.1 i), after.2)

-- ---- the name, b and the number

-- the beginning of a text of this name and these bits
module _ (m : ℕ) (name : List ℕ) (b : ℕ) (after bytes a : List ℕ) (text : bytes ++ a ≡ Spelled m name b after) where
  begins_at : (n : ℕ) (ys z : List ℕ) → drop n (Spelled m name b after) ≡ ys ++ z → agree (drop n bytes) ys ≡ true
  begins_at n ys z there =
      let rest = dropped n bytes a (Spelled m name b after) text in
      both_begin (drop n bytes) ys rest.0 z (rest.1 ∙ there)

  begins_own : is_own name b bytes ≡ true
  begins_own =
      and_from (agree (drop 4 bytes) (length name ∷ []))
      (agree (drop 5 bytes) name && agree (drop (5 + length name) bytes) (b ∷ []))
      (begins_at 4 (length name ∷ []) (name ++ (b ∷ after)) refl)
      (and_from (agree (drop 5 bytes) name) (agree (drop (5 + length name) bytes) (b ∷ []))
      (begins_at 5 name (b ∷ after) refl)
      (begins_at (5 + length name) (b ∷ []) after (after_name m (length name) name (b ∷ after))))

  begins_mark : agree bytes (0x52 ∷ 0x52 ∷ 0x53 ∷ m ∷ []) ≡ true
  begins_mark = begins_at 0 (0x52 ∷ 0x52 ∷ 0x53 ∷ m ∷ []) (length name ∷ (name ++ (b ∷ after))) refl

  short_more : (say : Which → Selecting) → length bytes < 8 + length name → said_of (which_in name b bytes) say ≡ More
  short_more say short =
      ap (λ r. said_of r say)
      (if_so (is_own name b bytes) _ (Err WrongSet) begins_own
      ∙ if_so (nat_lt (length bytes) (8 + length name)) (Err More) _ (lt-ltb (length bytes) (8 + length name) short))

-- ---- the bounds

more_with : (w : Which) (front : ℕ) (rest : List ℕ) (l u : ℕ) → get_or rest 0 0 ≡ l → get_or rest (suc l) 0 ≡ u →
    l ≤ 64 → u ≤ 64 → length rest < 2 + l + u → part_in w front rest ≡ More
more_with w front rest l u lower upper few some short =
    let place : after_short rest 0 ≡ suc l = omega arith in
    let last : length_at rest (after_short rest 0) ≡ u = ap (λ i. get_or rest i 0) place ∙ upper in
    let long : Bool = nat_lt 64 (length_at rest 0) in
    let wide : Bool = nat_lt 64 (length_at rest (after_short rest 0)) in
    if_not (long || wide) WrongSet _ (both_false long wide (le-ltb 64 (length_at rest 0) (omega arith))
    (le-ltb 64 (length_at rest (after_short rest 0)) (omega (arith, last))))
    ∙ if_so (nat_lt (length rest) (after_short rest (after_short rest 0))) More _
    (lt-ltb (length rest) (after_short rest (after_short rest 0)) (omega (arith, last, place)))

-- a byte that has come is that of the text, and one that has not stands for none
byte_or_none : (rest a ts : List ℕ) (i n : ℕ) → rest ++ a ≡ ts → get_or ts i 0 ≡ n →
    ((i < length rest) × (get_or rest i 0 ≡ n)) ⊎ ((length rest ≤ i) × (get_or rest i 0 ≡ 0))
byte_or_none rest a ts i n text is = elim (cases_lt i (length rest)) [
  | inl there ↦ inl (there, sym (get_or_append_left rest a 0 i there) ∙ ap (λ xs. get_or xs i 0) text ∙ is)
  | inr past ↦ inr (past, get_or_past rest i 0 past)
]

bounds_more : (w : Which) (front : ℕ) (x y rest : List ℕ) (c : ℕ) (later : List ℕ) → length x ≤ 64 →
    length y ≤ 64 → rest ++ c ∷ later ≡ Bounds x y [] → part_in w front rest ≡ More
bounds_more w front x y rest c later few some text =
    let all : length (rest ++ c ∷ later) ≡ length (Bounds x y []) = ap length text in
    let long : length rest < 2 + length x + length y =
    omega (arith, all, length-append rest (c ∷ later), bounds_length x y []) in
    elim (byte_or_none rest (c ∷ later) (Bounds x y []) 0 (length x) text refl) [
      | inl lower ↦ elim (byte_or_none rest (c ∷ later) (Bounds x y []) (suc (length x)) (length y) text
          (upper_length x y [] (suc (length x)) refl)) [
            | inl upper ↦ more_with w front rest (length x) (length y) lower.1 upper.1 few some long
            | inr none ↦ more_with w front rest (length x) 0 lower.1 none.1 few (omega arith)
                (let past = none.0 in omega arith)
          ]
      | inr none ↦ more_with w front rest 0 0 none.1 (get_or_past rest 1 0 (let past = none.0 in omega arith))
          (omega arith) (omega arith) (let past = none.0 in omega arith)
    ]

-- ---- the whole

is_begun : (bytes : List ℕ) (r : Selecting) → agree bytes mark ≡ true →
    (if agree bytes mark || agree bytes part_mark then r else NoSelector) ≡ r
is_begun bytes r is =
    if_so (agree bytes mark || agree bytes part_mark) r NoSelector (ap (λ c. c || agree bytes part_mark) is)

or_last : (c : Bool) → (c || true) ≡ true
or_last true = refl
or_last false = refl

part_begun : (bytes : List ℕ) (r : Selecting) → agree bytes part_mark ≡ true →
    (if agree bytes mark || agree bytes part_mark then r else NoSelector) ≡ r
part_begun bytes r is =
    if_so (agree bytes mark || agree bytes part_mark) r NoSelector
    (ap (λ c. agree bytes mark || c) is ∙ or_last (agree bytes mark))

first_more : (name : List ℕ) (b : ℕ) (bytes : List ℕ) (w : Which) (c : ℕ) (later : List ℕ) →
    bytes ++ c ∷ later ≡ mark ++ which_text name b w → selecting name b bytes ≡ More
first_more name b bytes w c later text =
    let say : Which → Selecting = λ v. selected v (8 + length name) bytes in
    let digits : List ℕ = to_be_bytes w16 (which_number w) in
    let spelled : bytes ++ c ∷ later ≡ Spelled 0x4E name b (digits ++ []) =
    text ∙ sym (append-nil (mark ++ which_text name b w)) ∙ whole_text name b w [] in
    let all : length (bytes ++ c ∷ later) ≡ length (mark ++ which_text name b w) = ap length text in
    let short : length bytes < 8 + length name =
    omega (arith, all, length-append bytes (c ∷ later), whole_length name b w) in
    is_begun bytes (said_of (which_in name b bytes) say)
    (begins_mark 0x4E name b (digits ++ []) bytes (c ∷ later) spelled)
    ∙ short_more 0x4E name b (digits ++ []) bytes (c ∷ later) spelled say short

-- with the number, and without the last bytes of the bounds
bounds_missing : (name : List ℕ) (b : ℕ) (bytes : List ℕ) (w : Which) (X : Range) (c : ℕ) (later : List ℕ) →
    b ≤ 12 → IsWhich b w → IsRange X →
    bytes ++ c ∷ later ≡ part_mark ++ (which_text name b w ++ bounds_text X) → 8 + length name ≤ length bytes →
    selecting name b bytes ≡ More
bounds_missing name b bytes w X c later low is range text long =
    let front : List ℕ = part_mark ++ which_text name b w in
    let size : length front ≡ 8 + length name = whole_length name b w in
    let after = goes_past front bytes (c ∷ later) (bounds_text X) text (omega (arith, size)) in
    let rest : List ℕ = after.0 in
    let spelled : bytes ≡ Spelled 0x50 name b (to_be_bytes w16 (which_number w) ++ rest) =
    after.1 ∙ front_text 0x50 name b w rest in
    let bounds : rest ++ c ∷ later ≡ Bounds X.lower (upper_bytes X.upper) [] =
    after.2 ∙ sym (append-nil (bounds_text X)) ∙ bounds_then X [] in
    ap (λ xs. selecting name b xs) spelled ∙ said 0x50 name b w rest low is
    ∙ ap (λ xs. part_in w (8 + length name) xs) (after_number 0x50 name b _ _ rest)
    ∙ bounds_more w (8 + length name) X.lower (upper_bytes X.upper) rest c later range.lower.not_long
    (upper_few X.upper range.upper) bounds

second_more : (name : List ℕ) (b : ℕ) (bytes : List ℕ) (w : Which) (X : Range) (c : ℕ) (later : List ℕ) →
    b ≤ 12 → IsWhich b w → IsRange X →
    bytes ++ c ∷ later ≡ part_mark ++ (which_text name b w ++ bounds_text X) → selecting name b bytes ≡ More
second_more name b bytes w X c later low is range text =
    let say : Which → Selecting = λ v. selected v (8 + length name) bytes in
    let after : List ℕ = to_be_bytes w16 (which_number w) ++ Bounds X.lower (upper_bytes X.upper) [] in
    let spelled : bytes ++ c ∷ later ≡ Spelled 0x50 name b after =
    text ∙ sym (append-nil (part_mark ++ (which_text name b w ++ bounds_text X))) ∙ part_text name b w X [] in
    elim (cases_lt (length bytes) (8 + length name)) [
      | inl short ↦ part_begun bytes (said_of (which_in name b bytes) say)
          (begins_mark 0x50 name b after bytes (c ∷ later) spelled)
          ∙ short_more 0x50 name b after bytes (c ∷ later) spelled say short
      | inr long ↦ bounds_missing name b bytes w X c later low is range text long
    ]

pub more : (name : List ℕ) (b : ℕ) (bytes : List ℕ) (w : Which) (X : Range) (c : ℕ) (later : List ℕ) → b ≤ 12 →
    IsWhich b w → IsRange X → selector_text name b w X ≡ bytes ++ c ∷ later → selecting name b bytes ≡ More
more name b bytes w X c later low is range text = elim (kinds name b w X) [
  | inl first ↦ first_more name b bytes w c later (sym text ∙ first.text)
  | inr part ↦ second_more name b bytes w X c later low is range (sym text ∙ part.text)
]
