-- Parts that are made, and the profiles.
-- The profiles are real: their hellos are four bytes, and 32 bytes come back from two lanes of 16 bytes each, 36 from
-- a count of 4 and the lanes. The 12 bytes of the compact profile are what they are read as.
-- Items that are made have no fault exactly if each is above the one before and in the range. A part that is made of
-- right bounds and items then has a fault exactly if it has no spelling, and the only one that is left is a body that
-- is too long.
-- Lengths: an item takes at most 65 bytes, so 65,536 items with two bounds stay below 8,388,608 bytes. What a set has
-- in a range is such a list. An Answer to a List has a mark for each listed item; the List has a spelling, so it has
-- fewer items than its body has bytes, and their marks take a megabyte at most.
-- docs/LAWS.md: The wire format (that both profiles are such); What is made has a spelling.
use Rattle.std.proofs.Common.{◌≡◌, ℕ, List, ◌++◌, length, take, drop, refl, sym, ◌∙◌, arith, ◌≤◌, Bool, true, not, []}
use Rattle.std.proofs.Common.{◌∷◌, Option, Some, None, ap, ◌*◌, length-append}
use Rattle.std.specs.Prelude.{flat_map, if◌then◌else◌, filter, map, IsTrue}
use Rattle.definitions.specs.Sets.{has, difference}
use Rattle.definitions.proofs.Words.{w32, w128, to_be_bytes, from_be_bytes, AllByRecursion, option_or, IsBytes, Item}
use Rattle.definitions.proofs.Words.{IsItem, Range, IsRange, contains, item_cmp, lanes_text, lanes_read}
use Rattle.definitions.proofs.Words.{two_lane_profile, counted_profile, compact_profile, IsProfile, Profile, body}
use Rattle.definitions.proofs.Words.{short_text}
use Rattle.definitions.proofs.Words.{range_text, count_text, items_text, mark_bytes, mark_bytes_for, marks_text}
use Rattle.definitions.proofs.Words.{max_body, Part, rises_from, items_fault, body_fault, frame_length, item_order}
use Rattle.definitions.proofs.Words.{item_outside, items_in}
use Rattle.definitions.proofs.Lemmas.{length-append, length-take-le, length-drop, take-append-drop, be_bytes_4, le-ltb}
use Rattle.definitions.proofs.Lemmas.{IsStrictlySortedBy-filter, length-filter, count_by-le-length, All-filter}
use Rattle.std.proofs.lemmas.List.{length-map}
use Rattle.laws.specs.Parts.{ItemsFaultIsExact, PartFaultIsExact, SetsFit, AnswersFit}
use Rattle.laws.proofs.Fields.{be_bytes_16, front_fits, rest_fits, byte_fits}
use Rattle.laws.proofs.Bodies.{IsRun, run_rises, rises_run}
use Rattle.laws.proofs.Marks.{length-mark_bytes}

-- ==== The profiles are real

lanes_back : (bytes : List ℕ) → IsBytes bytes → length bytes ≡ 32 → lanes_text (lanes_read bytes) ≡ bytes
lanes_back bytes fits len =
    let whole : bytes ≡ take 16 bytes ++ drop 16 bytes = sym (take-append-drop 16 bytes) in
    let a : to_be_bytes w128 (from_be_bytes w128 (take 16 bytes)) ≡ take 16 bytes =
    be_bytes_16 (take 16 bytes) (length-take-le 16 bytes (omega arith))
    (byte_fits (take 16 bytes) (front_fits bytes (take 16 bytes) (drop 16 bytes) whole fits)) in
    let b : to_be_bytes w128 (from_be_bytes w128 (drop 16 bytes)) ≡ drop 16 bytes =
    be_bytes_16 (drop 16 bytes) (let l = length-drop 16 bytes in
    omega arith) (byte_fits (drop 16 bytes) (rest_fits bytes (take 16 bytes) (drop 16 bytes) whole fits)) in
    (λ i. a i ++ b i) ∙ sym whole

pub two_lanes_real : IsProfile two_lane_profile
two_lanes_real = record {
  hello = refl;
  hello_bytes = (omega arith, (omega arith, (omega arith, (omega arith, tt))));
  size = omega arith;
  small = omega arith;
  back = lanes_back;
}

pub counted_real : IsProfile counted_profile
counted_real = record {
  hello = refl;
  hello_bytes = (omega arith, (omega arith, (omega arith, (omega arith, tt))));
  size = omega arith;
  small = omega arith;
  back = λ bytes fits len.
      let whole : bytes ≡ take 4 bytes ++ drop 4 bytes = sym (take-append-drop 4 bytes) in
      let a : to_be_bytes w32 (from_be_bytes w32 (take 4 bytes)) ≡ take 4 bytes =
      be_bytes_4 (take 4 bytes) _ (length-take-le 4 bytes (omega arith))
      (byte_fits (take 4 bytes) (front_fits bytes (take 4 bytes) (drop 4 bytes) whole fits)) refl in
      let b : lanes_text (lanes_read (drop 4 bytes)) ≡ drop 4 bytes = lanes_back (drop 4 bytes)
      (rest_fits bytes (take 4 bytes) (drop 4 bytes) whole fits) (let l = length-drop 4 bytes in omega arith) in
      (λ i. a i ++ b i) ∙ sym whole;
}

pub compact_real : IsProfile compact_profile
compact_real = record {
  hello = refl;
  hello_bytes = (omega arith, (omega arith, (omega arith, (omega arith, tt))));
  size = omega arith;
  small = omega arith;
  back = λ bytes fits len. refl;
}

-- ==== Items and parts that are made: no fault where they have a spelling

-- ---- items

abbrev tests : Bool → Bool → Option ℕ → Option ℕ
tests rises within later = if not rises then Some item_order else if not within then Some item_outside else later

passed : (rises within : Bool) (later : Option ℕ) → tests rises within later ≡ None →
    (rises ≡ true) × (within ≡ true) × (later ≡ None)
passed rises within later h = grind arith

passes : (rises within : Bool) (later : Option ℕ) → rises ≡ true → within ≡ true → tests rises within later ≡ later
passes rises within later h k = cc

run_of : (X : Range) (before : Option Item) (xs : List Item) → AllByRecursion IsItem xs →
    items_fault X before xs ≡ None → IsRun X (length xs) before xs
run_of X before [] each h = tt
run_of X before (x ∷ xs) each h =
    let p = passed (rises_from before x) (contains X x) (items_fault X (Some x) xs) h in
    (each.0, p.0, p.1, run_of X (Some x) xs each.1 p.2)

no_fault : (X : Range) (before : Option Item) (xs : List Item) → IsRun X (length xs) before xs →
    items_fault X before xs ≡ None
no_fault X before [] run = refl
no_fault X before (x ∷ xs) run =
    passes (rises_from before x) (contains X x) (items_fault X (Some x) xs) run.1 run.2 ∙ no_fault X (Some x) xs run.3

pub items_exact : ItemsFaultIsExact
items_exact X items each few = grind (arith, run_rises, run_of, no_fault, rises_run)

-- ---- lengths

-- an item's text has a byte at least
length-texts : (xs : List Item) → length xs ≤ length (flat_map short_text xs)
length-texts [] = omega arith
length-texts (x ∷ xs) = let a = length-append (short_text x) (flat_map short_text xs) in let i = length-texts xs in
    omega arith

length-items : (xs : List Item) → length xs ≤ length (items_text xs)
length-items xs = let a = length-append (count_text (length xs)) (flat_map short_text xs) in let i = length-texts xs in
    omega arith

length-marks : (marks : List Bool) → mark_bytes_for (length marks) ≤ length (marks_text marks)
length-marks marks = let a = length-append (count_text (length marks)) (mark_bytes marks) in
    let b = length-mark_bytes marks in omega arith

-- ---- parts

or_none : (a b : Option ℕ) → a ≡ None → b ≡ None → option_or a b ≡ None
or_none a b h k = cc

short_is : {F : Type 0} (P : Profile F) (p : Part F) → length (body P p) ≤ max_body → body_fault P p ≡ None
short_is P p h = ap (λ b. if b then Some frame_length else None) (le-ltb max_body (length (body P p)) h)

pub part_exact : {F : Type 0} (P : Profile F) → IsProfile P → PartFaultIsExact P
part_exact P real a made = grind (arith, length-append, length-items, items_exact, or_none, short_is, length-marks)

-- ==== How long the bodies of lists are

pub length-range_text : (X : Range) → IsRange X → length (range_text X) ≤ 130
length-range_text X h = grind (arith, length-append)

-- an item is a length byte and at most 64 bytes
length-texts_le : (items : List Item) → AllByRecursion IsItem items →
    length (flat_map short_text items) ≤ 65 * length items
length-texts_le [] h = omega arith
length-texts_le (x ∷ xs) h = grind (arith, length-texts_le xs h.1, length-append)

-- what holds of each element holds of those that are kept
pub All-kept : {X : Type 0} (P : X → Type 0) (test : X → Bool) (xs : List X) → AllByRecursion P xs →
    AllByRecursion P (filter test xs)
All-kept P test [] h = tt
All-kept P test (x ∷ xs) h = grind (arith, All-kept P test xs h.1)

pub sets_fit_lem : {F : Type 0} (P : Profile F) → SetsFit P
sets_fit_lem P A X set each few range =
    let items = items_in A X in
    let fewer : length items ≤ length A =
    omega (arith, length-filter (contains X) A, count_by-le-length (contains X) A) in
    let kept = All-kept IsItem (contains X) A each in
    record {
      fields = (
        range,
        record {
          count = omega arith;
          each = kept;
          rises = IsStrictlySortedBy-filter item_cmp (contains X) A set;
          inside = All-filter (contains X) A;
        },
      );
      short = omega (
        arith,
        length-range_text X range,
        length-append (range_text X) (items_text items),
        length-append (count_text (length items)) (flat_map short_text items),
        length-texts_le items kept,
      );
    }

pub answers_fit_lem : {F : Type 0} (P : Profile F) → AnswersFit P
answers_fit_lem P A X listed set each few part =
    let held = items_in A X in
    let items = difference held listed in
    let marks = map (λ x. not (has A x)) listed in
    let new : Item → Bool = λ x. not (has listed x) in
    let fewer : length items ≤ length A = omega (
      arith,
      length-filter new held,
      count_by-le-length new held,
      length-filter (contains X) A,
      count_by-le-length (contains X) A,
    ) in
    let kept = All-kept IsItem new held (All-kept IsItem (contains X) A each) in
    let range = part.fields.0 in
    let short = part.short in
    let many : length marks ≡ length listed = length-map listed (λ x. not (has A x)) in
    let heard = length-append (range_text X) (items_text listed) in
    let few_listed = length-items listed in
    record {
      fields = (
        range,
        omega arith,
        record {
          count = omega arith;
          each = kept;
          rises = IsStrictlySortedBy-filter item_cmp new held (IsStrictlySortedBy-filter item_cmp (contains X) A set);
          inside = All-kept (λ x. IsTrue (contains X x)) new held (All-filter (contains X) A);
        },
      );
      short = omega (
        arith,
        short,
        heard,
        few_listed,
        many,
        length-range_text X range,
        length-append (range_text X) (marks_text marks ++ items_text items),
        length-append (marks_text marks) (items_text items),
        length-append (count_text (length marks)) (mark_bytes marks),
        length-mark_bytes marks,
        length-append (count_text (length items)) (flat_map short_text items),
        length-texts_le items kept,
      );
    }
