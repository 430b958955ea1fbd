-- How a selector's text lies: which of its bytes stand where, and where its parts end.
use Rattle.std.proofs.Common.{◌≡◌, ℕ, suc, ◌+◌, Bool, true, false, List, ◌∷◌, ◌++◌, length}
use Rattle.std.proofs.Common.{get_or, drop, refl, sym, ap, ◌∙◌, arith, append_assoc, ◌⊎◌, inl, inr}
use Rattle.std.specs.Prelude.{if◌then◌else◌}
use Rattle.std.specs.Int.{w16, to_be_bytes}
use Rattle.std.proofs.lemmas.Bool.{false≢true}
use Rattle.std.proofs.lemmas.List.{length-append, drop-drop, get_or-drop}
use Rattle.std.proofs.Math.Seq.{drop-append_seam, get_or-append_seam}
use Rattle.definitions.specs.Items.{Range, same_range, whole}
use Rattle.definitions.specs.Wire.{short_text}
use Rattle.definitions.proofs.Equality.{same_range-eq}
use Rattle.shard_core.specs.declared.selector.Which.{Which}
use Rattle.shard_core.specs.Selectors.{mark, part_mark, which_number, which_text, upper_bytes, bounds_text}
use Rattle.shard_core.specs.Selectors.{selector_text}

pub if_not : {X : Type 0} (c : Bool) (p q : X) → c ≡ false → (if c then p else q) ≡ q
if_not true p q e = absurd (false≢true (sym e))
if_not false p q e = refl

pub if_so : {X : Type 0} (c : Bool) (p q : X) → c ≡ true → (if c then p else q) ≡ p
if_so true p q e = refl
if_so false p q e = absurd (false≢true e)

-- the bytes of one kind, with what follows b as one list
abbrev pub Spelled : ℕ → List ℕ → ℕ → List ℕ → List ℕ
Spelled m name b after = 0x52 ∷ 0x52 ∷ 0x53 ∷ m ∷ length name ∷ name ++ b ∷ after

-- the bounds, with what follows them
abbrev pub Bounds : List ℕ → List ℕ → List ℕ → List ℕ
Bounds x y later = length x ∷ (x ++ (length y ∷ (y ++ later)))

-- ---- the two kinds

pub front_text : (m : ℕ) (name : List ℕ) (b : ℕ) (w : Which) (later : List ℕ) →
    (0x52 ∷ 0x52 ∷ 0x53 ∷ m ∷ which_text name b w) ++ later
    ≡ Spelled m name b (to_be_bytes w16 (which_number w) ++ later)
front_text m name b w later =
    ap (λ xs. 0x52 ∷ 0x52 ∷ 0x53 ∷ m ∷ length name ∷ xs)
    (append_assoc name (b ∷ to_be_bytes w16 (which_number w)) later)

pub whole_text : (name : List ℕ) (b : ℕ) (w : Which) (later : List ℕ) →
    (mark ++ which_text name b w) ++ later ≡ Spelled 0x4E name b (to_be_bytes w16 (which_number w) ++ later)
whole_text name b w later = front_text 0x4E name b w later

pub bounds_then : (X : Range) (later : List ℕ) → bounds_text X ++ later ≡ Bounds X.lower (upper_bytes X.upper) later
bounds_then X later =
    ap (λ xs. length X.lower ∷ xs) (append_assoc X.lower (short_text (upper_bytes X.upper)) later)

pub part_text : (name : List ℕ) (b : ℕ) (w : Which) (X : Range) (later : List ℕ) →
    (part_mark ++ (which_text name b w ++ bounds_text X)) ++ later
    ≡ Spelled 0x50 name b (to_be_bytes w16 (which_number w) ++ Bounds X.lower (upper_bytes X.upper) later)
part_text name b w X later =
    let n : ℕ = which_number w in
    ap (λ xs. part_mark ++ xs) (append_assoc (which_text name b w) (bounds_text X) later
    ∙ ap (λ xs. which_text name b w ++ xs) (bounds_then X later)
    ∙ ap (λ xs. length name ∷ xs)
    (append_assoc name (b ∷ to_be_bytes w16 n) (Bounds X.lower (upper_bytes X.upper) later)))

-- it is of one kind or of the other
pub record IsFirst (name : List ℕ) (b : ℕ) (w : Which) (X : Range) : Type 0 where
  pub all : X ≡ whole
  pub text : selector_text name b w X ≡ mark ++ which_text name b w

pub record IsSecond (name : List ℕ) (b : ℕ) (w : Which) (X : Range) : Type 0 where
  pub part : same_range X whole ≡ false
  pub text : selector_text name b w X ≡ part_mark ++ (which_text name b w ++ bounds_text X)

pub kinds : (name : List ℕ) (b : ℕ) (w : Which) (X : Range) → IsFirst name b w X ⊎ IsSecond name b w X
kinds name b w X =
    let one : List ℕ = mark ++ which_text name b w in
    let two : List ℕ = part_mark ++ (which_text name b w ++ bounds_text X) in
    let either : (c : Bool) → same_range X whole ≡ c → IsFirst name b w X ⊎ IsSecond name b w X = elim [
      | true ↦ λ same. inl (record {
        all = same_range-eq X whole same;
        text = if_so (same_range X whole) one two same;
      })
      | false ↦ λ other. inr (record { part = other; text = if_not (same_range X whole) one two other })
    ] in
    either (same_range X whole) refl

pub second : (name : List ℕ) (b : ℕ) (w : Which) (X : Range) → same_range X whole ≡ false →
    selector_text name b w X ≡ part_mark ++ (which_text name b w ++ bounds_text X)
second name b w X other = if_not (same_range X whole) (mark ++ which_text name b w) _ other

-- ---- how long they are

which_length : (name : List ℕ) (b : ℕ) (w : Which) → length (which_text name b w) ≡ 4 + length name
which_length name b w =
    let tail = length-append name (b ∷ to_be_bytes w16 (which_number w)) in omega arith

pub whole_length : (name : List ℕ) (b : ℕ) (w : Which) → length (mark ++ which_text name b w) ≡ 8 + length name
whole_length name b w = let tail = which_length name b w in omega arith

pub part_length : (name : List ℕ) (b : ℕ) (w : Which) (X : Range) →
    length (part_mark ++ (which_text name b w ++ bounds_text X))
    ≡ 8 + length name + (2 + length X.lower + length (upper_bytes X.upper))
part_length name b w X =
    let front = which_length name b w in
    let both = length-append (which_text name b w) (bounds_text X) in
    let bounds = length-append X.lower (short_text (upper_bytes X.upper)) in omega arith

-- ---- what stands where

drop_five : (a b c d e : ℕ) (xs : List ℕ) (n : ℕ) → drop (5 + n) (a ∷ b ∷ c ∷ d ∷ e ∷ xs) ≡ drop n xs
drop_five a b c d e xs n =
    let more : 5 + n ≡ suc (suc (suc (suc (suc n)))) = omega arith in
    ap (λ k. drop k (a ∷ b ∷ c ∷ d ∷ e ∷ xs)) more

pub after_name : (m l : ℕ) (name rest : List ℕ) →
    drop (5 + length name) (0x52 ∷ 0x52 ∷ 0x53 ∷ m ∷ l ∷ name ++ rest) ≡ rest
after_name m l name rest = drop_five 0x52 0x52 0x53 m l (name ++ rest) (length name) ∙ drop-append_seam name rest

drop_more_of : (n k : ℕ) (xs ys : List ℕ) → drop n xs ≡ ys → drop (n + k) xs ≡ drop k ys
drop_more_of n k xs ys is = sym (drop-drop k n xs) ∙ ap (λ zs. drop k zs) is

pub after_bits : (m : ℕ) (name : List ℕ) (b : ℕ) (after : List ℕ) →
    drop (6 + length name) (Spelled m name b after) ≡ after
after_bits m name b after =
    let place : 6 + length name ≡ (5 + length name) + 1 = omega arith in
    ap (λ k. drop k (Spelled m name b after)) place
    ∙ drop_more_of (5 + length name) 1 (Spelled m name b after) (b ∷ after)
    (after_name m (length name) name (b ∷ after))

pub after_number : (m : ℕ) (name : List ℕ) (b c d : ℕ) (later : List ℕ) →
    drop (8 + length name) (Spelled m name b (c ∷ d ∷ later)) ≡ later
after_number m name b c d later =
    let text : List ℕ = Spelled m name b (c ∷ d ∷ later) in
    let place : 8 + length name ≡ (6 + length name) + 2 = omega arith in
    ap (λ k. drop k text) place
    ∙ drop_more_of (6 + length name) 2 text (c ∷ d ∷ later) (after_bits m name b (c ∷ d ∷ later))

pub spelled_length : (m : ℕ) (name : List ℕ) (b c d : ℕ) (later : List ℕ) →
    length (Spelled m name b (c ∷ d ∷ later)) ≡ 8 + length name + length later
spelled_length m name b c d later = omega (arith, length-append name (b ∷ c ∷ d ∷ later))

pub bounds_length : (x y later : List ℕ) → length (Bounds x y later) ≡ 2 + length x + length y + length later
bounds_length x y later =
    let all = length-append x (length y ∷ (y ++ later)) in
    let last = length-append y later in omega arith

-- the upper bound's length stands after the lower bound
pub upper_length : (x y later : List ℕ) (i : ℕ) → i ≡ suc (length x) → get_or (Bounds x y later) i 0 ≡ length y
upper_length x y later i is =
    ap (λ k. get_or (Bounds x y later) k 0) is ∙ get_or-append_seam x (length y) (y ++ later) 0

pub after_upper_length : (x y later : List ℕ) (i : ℕ) → i ≡ suc (length x + 1) → drop i (Bounds x y later) ≡ y ++ later
after_upper_length x y later i is =
    ap (λ k. drop k (Bounds x y later)) is
    ∙ drop_more_of (length x) 1 (x ++ (length y ∷ (y ++ later))) (length y ∷ (y ++ later))
    (drop-append_seam x (length y ∷ (y ++ later)))

-- a byte by its place in what comes after some
pub byte_after : (bytes rest : List ℕ) (n i place : ℕ) → drop n bytes ≡ rest → place ≡ n + i →
    get_or bytes place 0 ≡ get_or rest i 0
byte_after bytes rest n i place is at =
    ap (λ k. get_or bytes k 0) at ∙ sym (get_or-drop n bytes i 0) ∙ ap (λ xs. get_or xs i 0) is
