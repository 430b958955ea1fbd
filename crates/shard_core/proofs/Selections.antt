-- A selector of either kind is read back from its bytes, and from no others.
use Rattle.std.proofs.Common.{◌≡◌, ℕ, ◌+◌, ◌<◌, ◌≤◌, Bool, true, false, List, ◌++◌, length, get_or, take, drop}
use Rattle.std.proofs.Common.{refl, sym, ap, subst, ◌∙◌, arith, inl, inr, Option, Some, None, Ok, Err}
use Rattle.std.specs.Prelude.{nat_lt, ◌||◌, ok_or, if◌then◌else◌}
use Rattle.std.specs.Int.{w16, to_be_bytes}
use Rattle.std.proofs.lemmas.List.{get_or-drop}
use Rattle.std.proofs.Math.Seq.{take-append_seam}
use Rattle.definitions.specs.Items.{Range, IsRange, whole}
use Rattle.shard_core.specs.declared.selector.Which.{Which}
use Rattle.shard_core.specs.declared.selector.Selecting.{Selecting}
use Rattle.shard_core.specs.declared.selector.Selecting.TheVariants.{NoSelector, More, WrongSet, Selected}
use Rattle.shard_core.specs.Selectors.{mark, part_mark, IsWhich, which_number, which_text, upper_bytes, bounds_text}
use Rattle.shard_core.specs.Selectors.{selector_text, agree, is_own, which_of, number_at, which_in, part_in}
use Rattle.shard_core.specs.Selectors.{selected, said_of, selecting}
use Rattle.shard_core.proofs.Spelled.{Spelled, Bounds, whole_text, part_text, IsFirst, IsSecond, kinds}
use Rattle.shard_core.proofs.Spelled.{second, whole_length, part_length, after_number}
use Rattle.shard_core.proofs.Chosen.{which_written, which_only, IsRead}
use Rattle.shard_core.proofs.Bounded.{bounds_written, IsPart, part_only}

-- ---- what is written is read back

-- of either kind, the rest is judged
pub said : (m : ℕ) (name : List ℕ) (b : ℕ) (w : Which) (after : List ℕ) → b ≤ 12 → IsWhich b w →
    said_of (which_in name b (Spelled m name b (to_be_bytes w16 (which_number w) ++ after)))
    (λ v. selected v (8 + length name) (Spelled m name b (to_be_bytes w16 (which_number w) ++ after)))
    ≡ selected w (8 + length name) (Spelled m name b (to_be_bytes w16 (which_number w) ++ after))
said m name b w after low is =
    let text : List ℕ = Spelled m name b (to_be_bytes w16 (which_number w) ++ after) in
    ap (λ r. said_of r (λ v. selected v (8 + length name) text)) (which_written m name b w after low is)

first_written : (name : List ℕ) (b : ℕ) (bytes : List ℕ) (w : Which) (X : Range) (later : List ℕ) → b ≤ 12 →
    IsWhich b w → IsFirst name b w X → bytes ≡ selector_text name b w X ++ later →
    selecting name b bytes ≡ Selected w X (length (selector_text name b w X))
first_written name b bytes w X later low is first text =
    let spelled : bytes ≡ Spelled 0x4E name b (to_be_bytes w16 (which_number w) ++ later) =
    text ∙ ap (λ xs. xs ++ later) first.text ∙ whole_text name b w later in
    let size : 8 + length name ≡ length (selector_text name b w X) =
    sym (whole_length name b w) ∙ ap length (sym first.text) in
    ap (λ xs. selecting name b xs) spelled ∙ said 0x4E name b w later low is
    ∙ (λ i. Selected w (sym first.all i) (size i))

second_written : (name : List ℕ) (b : ℕ) (bytes : List ℕ) (w : Which) (X : Range) (later : List ℕ) → b ≤ 12 →
    IsWhich b w → IsRange X → IsSecond name b w X → bytes ≡ selector_text name b w X ++ later →
    selecting name b bytes ≡ Selected w X (length (selector_text name b w X))
second_written name b bytes w X later low is range part text =
    let after : List ℕ = Bounds X.lower (upper_bytes X.upper) later in
    let spelled : bytes ≡ Spelled 0x50 name b (to_be_bytes w16 (which_number w) ++ after) =
    text ∙ ap (λ xs. xs ++ later) part.text ∙ part_text name b w X later in
    let size : 8 + length name + (2 + length X.lower + length (upper_bytes X.upper))
    ≡ length (selector_text name b w X) = sym (part_length name b w X) ∙ ap length (sym part.text) in
    ap (λ xs. selecting name b xs) spelled ∙ said 0x50 name b w after low is
    ∙ ap (λ xs. part_in w (8 + length name) xs) (after_number 0x50 name b _ _ after)
    ∙ bounds_written w (8 + length name) X later range part.part ∙ ap (λ n. Selected w X n) size

pub written : (name : List ℕ) (b : ℕ) (bytes : List ℕ) (w : Which) (X : Range) (later : List ℕ) → b ≤ 12 →
    IsWhich b w → IsRange X → bytes ≡ selector_text name b w X ++ later →
    selecting name b bytes ≡ Selected w X (length (selector_text name b w X))
written name b bytes w X later low is range text = elim (kinds name b w X) [
  | inl first ↦ first_written name b bytes w X later low is first text
  | inr part ↦ second_written name b bytes w X later low is range part text
]

-- ---- and nothing else is

abbrev Reads : List ℕ → ℕ → List ℕ → Which → Range → ℕ → Type 0
Reads name b bytes w X used = IsWhich b w × IsRange X × (take used bytes ≡ selector_text name b w X)

taken : (bytes text later : List ℕ) (used : ℕ) → bytes ≡ text ++ later → used ≡ length text → take used bytes ≡ text
taken bytes text later used is ends = (λ i. take (ends i) (is i)) ∙ take-append_seam text later

whole_range : IsRange whole
whole_range = record { lower = record { not_long = omega arith; bytes = tt }; upper = tt; rises = refl }

first_only : (name : List ℕ) (b : ℕ) (bytes : List ℕ) (w : Which) → IsRead 0x4E name b bytes w →
    Reads name b bytes w whole (8 + length name)
first_only name b bytes w read =
    let later : List ℕ = drop (8 + length name) bytes in (
      read.is,
      whole_range,
      taken bytes (mark ++ which_text name b w) later (8 + length name)
          (read.text ∙ sym (whole_text name b w later)) (sym (whole_length name b w)),
    )

second_only : (name : List ℕ) (b : ℕ) (bytes : List ℕ) (w v : Which) (X : Range) (used : ℕ) →
    IsRead 0x50 name b bytes w → IsPart (8 + length name) (drop (8 + length name) bytes) w v X used →
    Reads name b bytes v X used
second_only name b bytes w v X used read part =
    let text : List ℕ = part_mark ++ (which_text name b w ++ bounds_text X) in
    let whole_bytes : bytes ≡ text ++ part.left =
    read.text ∙ ap (λ xs. Spelled 0x50 name b (to_be_bytes w16 (which_number w) ++ xs)) part.text
    ∙ sym (part_text name b w X part.left) in
    let ends : used ≡ length text = part.ends ∙ sym (part_length name b w X) in
    let front : take used bytes ≡ selector_text name b w X =
    taken bytes text part.left used whole_bytes ends ∙ sym (second name b w X part.part) in
    subst (λ u. Reads name b bytes u X used) part.which (read.is, part.range, front)

-- where a part is selected, the name, b and the number were read
said_only : (own short : Bool) (o : Option Which) (say : Which → Selecting) (w : Which) (X : Range) (used : ℕ) →
    said_of (if own then (if short then Err More else ok_or o WrongSet) else Err WrongSet) say ≡ Selected w X used →
    (v : Which) × ((if own then (if short then Err More else ok_or o WrongSet) else Err WrongSet) ≡ Ok v)
    × (say v ≡ Selected w X used)
said_only false short o say w X used e = absurd (cc)
said_only true true o say w X used e = absurd (cc)
said_only true false None say w X used e = absurd (cc)
said_only true false (Some v) say w X used e = (v, refl, e)

begun : (c : Bool) (r : Selecting) (w : Which) (X : Range) (used : ℕ) →
    (if c then r else NoSelector) ≡ Selected w X used → (c ≡ true) × (r ≡ Selected w X used)
begun true r w X used e = (refl, e)
begun false r w X used e = absurd (cc)

or_second : (c d : Bool) → (c || d) ≡ true → c ≡ false → d ≡ true
or_second false d e other = e
or_second true d e other = absurd (cc)

by_kind : (name : List ℕ) (b : ℕ) (bytes : List ℕ) (v w : Which) (X : Range) (used : ℕ) (first : Bool) →
    ((i : ℕ) → get_or bytes i 0 < 256) → agree bytes mark ≡ first →
    (agree bytes mark || agree bytes part_mark) ≡ true → which_in name b bytes ≡ Ok v →
    (if first then Selected v whole (8 + length name) else part_in v (8 + length name) (drop (8 + length name) bytes))
    ≡ Selected w X used → Reads name b bytes w X used
by_kind name b bytes v w X used true small marked some read e =
    let which : v ≡ w = cc in
    let range : whole ≡ X = cc in
    let ends : 8 + length name ≡ used = cc in
    let is = first_only name b bytes v (which_only 0x4E name b bytes v small marked read) in
    subst (λ n. Reads name b bytes w X n) ends
    (subst (λ Y. Reads name b bytes w Y (8 + length name)) range
    (subst (λ u. Reads name b bytes u whole (8 + length name)) which is))
by_kind name b bytes v w X used false small marked some read e =
    let front : ℕ = 8 + length name in
    let after : (k : ℕ) → get_or (drop front bytes) k 0 < 256 =
    λ k. let at = get_or-drop front bytes k 0 in let fits = small (front + k) in omega (arith, at, fits) in
    second_only name b bytes v w X used
    (which_only 0x50 name b bytes v small (or_second (agree bytes mark) (agree bytes part_mark) some marked) read)
    (part_only v w front (drop front bytes) X used after e)

pub only : (name : List ℕ) (b : ℕ) (bytes : List ℕ) (w : Which) (X : Range) (used : ℕ) →
    ((i : ℕ) → get_or bytes i 0 < 256) → selecting name b bytes ≡ Selected w X used → Reads name b bytes w X used
only name b bytes w X used small says =
    let say : Which → Selecting = λ v. selected v (8 + length name) bytes in
    let tests = begun (agree bytes mark || agree bytes part_mark) (said_of (which_in name b bytes) say) w X used says in
    let read = said_only (is_own name b bytes) (nat_lt (length bytes) (8 + length name))
    (which_of b (number_at bytes (6 + length name))) say w X used tests.1 in
    by_kind name b bytes read.0 w X used (agree bytes mark) small refl tests.0 read.1 read.2
