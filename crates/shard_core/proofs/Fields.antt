-- How long a front is. Once as many bytes are there as are wanted, no further byte changes it, and it is among those
-- that are there (`known`). Of a selector's text it is the length (`front_of_first`, `front_of_second`).
use Rattle.std.proofs.Common.{◌≡◌, ℕ, zero, suc, ◌+◌, ◌<◌, ◌≤◌, Bool, true, false, ◌&&◌, List, [], ◌∷◌, ◌++◌, length}
use Rattle.std.proofs.Common.{get_or, drop, refl, sym, ap, ◌∙◌, arith}
use Rattle.std.specs.Prelude.{nat_lt, nat_le, ◌||◌, bytes_eq, if◌then◌else◌}
use Rattle.std.proofs.lemmas.List.{take-append-le, get_or_append_left, length-append}
use Rattle.std.proofs.lemmas.Bool.{and_parts, and_from, lt-ltb, ltb-true, le-leb}
use Rattle.definitions.specs.Items.{Range, IsRange}
use Rattle.shard_core.specs.declared.selector.Which.{Which}
use Rattle.shard_core.specs.declared.after_selector.KindsTaken.{KindsTaken}
use Rattle.shard_core.specs.declared.after_selector.KindsTaken.TheVariants.{Both}
use Rattle.shard_core.specs.Selectors.{mark, part_mark, which_text, upper_bytes, bounds_text}
use Rattle.shard_core.specs.Fronts.{begins_with, takes_both, is_taken, has_length, after_fields, fields_of}
use Rattle.shard_core.specs.Fronts.{front_length, wanted}
use Rattle.shard_core.proofs.Spelled.{if_not, if_so, Spelled, Bounds, whole_text, part_text}
use Rattle.shard_core.proofs.Spelled.{whole_length, part_length, after_number, spelled_length, bounds_length}
use Rattle.shard_core.proofs.Spelled.{upper_length, byte_after}
use Rattle.shard_core.proofs.Bounded.{upper_few}

-- ---- one field after another

-- the first that says no length ends them
pub ends : (place i : ℕ) (fields bytes : List ℕ) → i < length fields → has_length bytes place ≡ false →
    after_fields place (drop i fields) bytes ≡ place + 1
ends place i [] bytes low none = absurd (omega arith)
ends place zero (more ∷ fields) bytes low none = if_not (has_length bytes place) _ (place + 1) none
ends place (suc i) (more ∷ fields) bytes low none = ends place i fields bytes (omega arith) none

next_field : (place more length_here : ℕ) (fields bytes : List ℕ) → place < length bytes →
    get_or bytes place 0 ≡ length_here → length_here ≤ 64 →
    after_fields place (more ∷ fields) bytes ≡ after_fields (place + (1 + length_here + more)) fields bytes
next_field place more n fields bytes there is few =
    if_so (has_length bytes place) _ (place + 1)
    (and_from (nat_lt place (length bytes)) (nat_le (get_or bytes place 0) 64) (lt-ltb place (length bytes) there)
    (le-leb (get_or bytes place 0) 64 (omega arith)))
    ∙ ap (λ k. after_fields (place + (1 + k + more)) fields bytes) is

-- ---- further bytes

same_length : (came x : List ℕ) (place : ℕ) → place < length came → has_length (came ++ x) place ≡ has_length came place
same_length came x place there =
    let long : place < length (came ++ x) = omega (arith, length-append came x) in
    let both : nat_lt place (length (came ++ x)) ≡ nat_lt place (length came) =
    lt-ltb place (length (came ++ x)) long ∙ sym (lt-ltb place (length came) there) in
    λ i. both i && nat_le (get_or_append_left came x 0 place there i) 64

fields_known : (place : ℕ) (fields came x : List ℕ) → after_fields place fields came ≤ length came →
    after_fields place fields (came ++ x) ≡ after_fields place fields came
fields_known place [] came x few = refl
fields_known place (more ∷ fields) came x few =
    let next : ℕ → ℕ = λ n. place + (1 + n + more) in
    let either : (c : Bool) → has_length came place ≡ c →
    (if c then after_fields (next (get_or came place 0)) fields came else place + 1) ≤ length came →
    (if has_length (came ++ x) place then after_fields (next (get_or (came ++ x) place 0)) fields (came ++ x)
    else place + 1) ≡ (if c then after_fields (next (get_or came place 0)) fields came else place + 1) = elim [
      | true ↦ λ says enough. (
          let there : place < length came =
          ltb-true place (length came) (and_parts (nat_lt place (length came)) (nat_le (get_or came place 0) 64) says).0
          in
          if_so (has_length (came ++ x) place) _ (place + 1) (same_length came x place there ∙ says)
          ∙ ap (λ n. after_fields (next n) fields (came ++ x)) (get_or_append_left came x 0 place there)
          ∙ fields_known (next (get_or came place 0)) fields came x enough
          )
      | false ↦ λ says enough. (
          let there : place < length came = omega arith in
          if_not (has_length (came ++ x) place) _ (place + 1) (same_length came x place there ∙ says)
          )
    ] in
    either (has_length came place) refl few

enough : (n front : ℕ) → (if nat_lt n 4 then 4 else front) ≤ n → (4 ≤ n) × (front ≤ n)
enough n front few = grind arith

either : (m : Bool) (a b : ℕ) → (m ≡ true → a ≡ b) → (if m then a else 0) ≡ (if m then b else 0)
either true a b e = e refl
either false a b e = refl

pub known : (kinds : KindsTaken) (came x : List ℕ) → wanted kinds came ≤ length came →
    (front_length kinds (came ++ x) ≡ front_length kinds came) × (front_length kinds came ≤ length came)
known kinds came x few =
    let there = enough (length came) (front_length kinds came) few in
    let first : (m : List ℕ) → begins_with (came ++ x) m ≡ begins_with came m =
    λ m. ap (λ t. bytes_eq t m) (take-append-le 4 came x there.0) in
    let taken : is_taken kinds (came ++ x) ≡ is_taken kinds came =
    λ i. first part_mark i || (takes_both kinds && first mark i) in
    let fields : fields_of (came ++ x) ≡ fields_of came = λ i. if first part_mark i then 3 ∷ 0 ∷ 0 ∷ [] else 3 ∷ [] in (
      (λ i. if taken i then after_fields 4 (fields i) (came ++ x) else 0)
          ∙ either (is_taken kinds came) (after_fields 4 (fields_of came) (came ++ x))
          (after_fields 4 (fields_of came) came)
          (λ is. fields_known 4 (fields_of came) came x (
          let all = if_so (is_taken kinds came) (after_fields 4 (fields_of came) came) 0 is in
          omega (arith, there.1, all)
          )),
      there.1,
    )

-- ---- of a selector's text

first_fields : (name : List ℕ) (b c d : ℕ) (later : List ℕ) → length name ≤ 64 →
    after_fields 4 (3 ∷ []) (Spelled 0x4E name b (c ∷ d ∷ later)) ≡ 8 + length name
first_fields name b c d later short =
    let text : List ℕ = Spelled 0x4E name b (c ∷ d ∷ later) in
    let long = spelled_length 0x4E name b c d later in
    let sum : 4 + (1 + length name + 3) ≡ 8 + length name = omega arith in
    next_field 4 3 (length name) [] text (omega (arith, long)) refl short ∙ sum

second_fields : (name : List ℕ) (b c d : ℕ) (x y later : List ℕ) → length name ≤ 64 → length x ≤ 64 →
    length y ≤ 64 → after_fields 4 (3 ∷ 0 ∷ 0 ∷ []) (Spelled 0x50 name b (c ∷ d ∷ Bounds x y later))
    ≡ 8 + length name + (2 + length x + length y)
second_fields name b c d x y later short lower upper =
    let text : List ℕ = Spelled 0x50 name b (c ∷ d ∷ Bounds x y later) in
    let rest : drop (8 + length name) text ≡ Bounds x y later = after_number 0x50 name b c d (Bounds x y later) in
    let long = spelled_length 0x50 name b c d (Bounds x y later) in
    let left = bounds_length x y later in
    let one : ℕ = 4 + (1 + length name + 3) in
    let two : ℕ = one + (1 + length x + 0) in
    let first : get_or text one 0 ≡ length x =
    byte_after text (Bounds x y later) (8 + length name) 0 one rest (omega arith) in
    let last : get_or text two 0 ≡ length y =
    byte_after text (Bounds x y later) (8 + length name) (suc (length x)) two rest (omega arith)
    ∙ upper_length x y later (suc (length x)) refl in
    let sum : two + (1 + length y + 0) ≡ 8 + length name + (2 + length x + length y) = omega arith in
    next_field 4 3 (length name) (0 ∷ 0 ∷ []) text (omega (arith, long, left)) refl short
    ∙ next_field one 0 (length x) (0 ∷ []) text (omega (arith, long, left)) first lower
    ∙ next_field two 0 (length y) [] text (omega (arith, long, left)) last upper ∙ sum

pub front_of_first : (name : List ℕ) (b : ℕ) (w : Which) (later : List ℕ) → length name ≤ 64 →
    front_length Both ((mark ++ which_text name b w) ++ later) ≡ length (mark ++ which_text name b w)
front_of_first name b w later short =
    ap (λ xs. front_length Both xs) (whole_text name b w later) ∙ first_fields name b _ _ later short
    ∙ sym (whole_length name b w)

pub front_of_second : (kinds : KindsTaken) (name : List ℕ) (b : ℕ) (w : Which) (X : Range) (later : List ℕ) →
    length name ≤ 64 → IsRange X →
    front_length kinds ((part_mark ++ (which_text name b w ++ bounds_text X)) ++ later)
    ≡ length (part_mark ++ (which_text name b w ++ bounds_text X))
front_of_second kinds name b w X later short is =
    ap (λ xs. front_length kinds xs) (part_text name b w X later)
    ∙ second_fields name b _ _ X.lower (upper_bytes X.upper) later short is.lower.not_long (upper_few X.upper is.upper)
    ∙ sym (part_length name b w X)
