-- The items of a part in the compact spelling are the items of the part in its frame.
-- Items one after another that stay below the upper bound are a run (Bodies), so they rise strictly and lie in the
-- range. They take no more room than there is: each takes its own. And the other way round. Their text is at most 257
-- bytes longer than in a frame: an entry is longer by one byte only if it shares nothing with the item before it, whose
-- first byte is then smaller; so at most 256 are.
-- docs/LAWS.md: The compact spelling.
use Rattle.std.proofs.Common.{◌≡◌, ℕ, suc, ◌+◌, ◌-◌, ◌^◌, ◌<◌, ◌≤◌, Bool, true, false, List, [], ◌∷◌, length, drop}
use Rattle.std.proofs.Common.{Option, Some, None, refl, ap, arith, inl, inr}
use Rattle.std.specs.Prelude.{not, ◌==◌, if◌then◌else◌, IsTrue, flat_map}
use Rattle.definitions.proofs.Words.{IsBytes, IsLower, Item, Range, comes_before, is_below, short_text, AreItemsOf}
use Rattle.definitions.proofs.Words.{contains, list_all, AllByRecursion}
use Rattle.definitions.proofs.Lemmas.{not-true, length-append, before-asym, eqb-true, All-map, All-from_list_all}
use Rattle.definitions.proofs.Lemmas.{All-every, not_before-trans, length-drop}
use Rattle.definitions.specs.Compact.{shared, common_length, entry_text, entries_text, compact_items}
use Rattle.laws.proofs.Bodies.{IsRun, run_rises, rises_run}
use Rattle.laws.proofs.CompactBounds.{shared_most}
use Rattle.laws.proofs.CompactFields.{IsWide, follows}
use Rattle.laws.proofs.CompactItems.{AreEntries}

abbrev pub frame_items : List Item → List ℕ
frame_items xs = flat_map short_text xs

-- ==== From entries to the items of a range

inside_of : (X : Range) (x : Item) → comes_before x X.lower ≡ false → is_below x X.upper ≡ true →
    IsTrue (contains X x)
inside_of X x low high = grind arith

later_run : (X : Range) (width room : ℕ) (b : Item) (xs : List Item) → comes_before b X.lower ≡ false →
    AreEntries width X.upper room false b xs → IsRun X (length xs) (Some b) xs
later_run X width room b [] low each = tt
later_run X width room b (x ∷ xs) low each =
    let at_least = not_before-trans x b X.lower (before-asym b x each.2) low in (
      each.0,
      each.2,
      inside_of X x at_least each.3,
      later_run X width (room - length (short_text x)) x xs at_least each.5,
    )

first_run : (X : Range) (width room : ℕ) (xs : List Item) → AreEntries width X.upper room true X.lower xs →
    IsRun X (length xs) None xs
first_run X width room [] each = tt
first_run X width room (x ∷ xs) each =
    let at_least : comes_before x X.lower ≡ false = not-true _ each.2 in (
      each.0,
      refl,
      inside_of X x at_least each.3,
      later_run X width (room - length (short_text x)) x xs at_least each.5,
    )

-- each item has a byte or more in a frame
items_few : (xs : List Item) → length xs ≤ length (frame_items xs)
items_few [] = omega arith
items_few (x ∷ xs) = let more = items_few xs in omega (arith, length-append (short_text x) (frame_items xs))

entries_size : (width : ℕ) (y : Option (List ℕ)) (room : ℕ) (first : Bool) (before : List ℕ) (xs : List Item) →
    AreEntries width y room first before xs → length (frame_items xs) ≤ room
entries_size width y room first before [] each = omega arith
entries_size width y room first before (x ∷ xs) each =
    let more = entries_size width y (room - length (short_text x)) false x xs each.5 in
    let own = each.4 in
    omega (arith, length-append (short_text x) (frame_items xs))

pub of_entries : (X : Range) (width room : ℕ) (xs : List Item) → room < 2 ^ 32 →
    AreEntries width X.upper room true X.lower xs → AreItemsOf X xs × (length (frame_items xs) ≤ room)
of_entries X width room xs small each =
    let r = run_rises X (length xs) None xs (first_run X width room xs each) in
    let few = items_few xs in
    let size = entries_size width X.upper room true X.lower xs each in
    (record { count = omega arith; each = r.each; rises = r.rises; inside = r.within }, size)

-- ==== From the items of a range to entries

is_inside : (X : Range) (x : Item) → IsTrue (contains X x) →
    (comes_before x X.lower ≡ false) × (is_below x X.upper ≡ true)
is_inside X x h = grind arith

later_entries : (X : Range) (width room : ℕ) (b : Item) (xs : List Item) → IsRun X (length xs) (Some b) xs →
    AllByRecursion (IsWide width) xs → length (frame_items xs) ≤ room → AreEntries width X.upper room false b xs
later_entries X width room b [] run wide size = tt
later_entries X width room b (x ∷ xs) run wide size =
    let len = length-append (short_text x) (frame_items xs) in (
      run.0,
      wide.0,
      run.1,
      (is_inside X x run.2).1,
      omega arith,
      later_entries X width (room - length (short_text x)) x xs run.3 wide.1 (omega arith),
    )

first_entries : (X : Range) (width room : ℕ) (xs : List Item) → IsRun X (length xs) None xs →
    AllByRecursion (IsWide width) xs → length (frame_items xs) ≤ room → AreEntries width X.upper room true X.lower xs
first_entries X width room [] run wide size = tt
first_entries X width room (x ∷ xs) run wide size =
    let len = length-append (short_text x) (frame_items xs) in
    let within = is_inside X x run.2 in (
      run.0,
      wide.0,
      ap not within.0,
      within.1,
      omega arith,
      later_entries X width (room - length (short_text x)) x xs run.3 wide.1 (omega arith),
    )

abbrev same_length : Item → Item → Bool
same_length x y = length y == length x

wide_of : (b : Bool) (x : Item) (xs : List Item) → list_all (same_length x) xs ≡ b →
    AllByRecursion (IsWide (if b then length x else 0)) (x ∷ xs)
wide_of true x xs h = (
  inr refl,
  All-map (λ y. same_length x y ≡ true) (IsWide (length x)) (λ y e. inr (eqb-true _ _ e)) xs
      (All-from_list_all (same_length x) xs h),
)
wide_of false x xs h = All-every (IsWide 0) (λ y. inl refl) (x ∷ xs)

all_wide : (xs : List Item) → AllByRecursion (IsWide (common_length xs)) xs
all_wide [] = tt
all_wide (x ∷ xs) = wide_of (list_all (same_length x) xs) x xs refl

pub to_entries : (X : Range) (room : ℕ) (xs : List Item) → AreItemsOf X xs → length (frame_items xs) ≤ room →
    AreEntries (common_length xs) X.upper room true X.lower xs
to_entries X room xs right size =
    first_entries X (common_length xs) room xs (rises_run X None xs right.each right.inside tt right.rises)
    (all_wide xs) size

-- ==== How long the text is

-- one more than the first byte
abbrev lead : List ℕ → ℕ
lead [] = 0
lead (b ∷ bytes) = suc b

lead_small : (bytes : List ℕ) → IsBytes bytes → lead bytes ≤ 256
lead_small [] fits = omega arith
lead_small (b ∷ bytes) fits = let small = fits.0 in omega arith

-- an item that shares nothing begins with a greater byte
lead_rises : (first : Bool) (before x : List ℕ) → 1 ≤ length x → follows first before x ≡ true →
    lead before + 1 ≤ lead x + shared before x
lead_rises first before [] some next = absurd (omega arith)
lead_rises first [] (d ∷ x) some next = omega arith
lead_rises true (c ∷ before) (d ∷ x) some next = grind arith
lead_rises false (c ∷ before) (d ∷ x) some next = grind arith

entry_length : (width : ℕ) (before : List ℕ) (x : Item) →
    length (entry_text width before x) + shared before x ≤ 2 + length x
entry_length width before x =
    let most = shared_most before x in
    let le = most.1 in
    let len = length-drop (shared before x) x in
    cases (width == 0) (shared before x) (drop (shared before x) x) (omega arith) where
      cases : (b : Bool) (s : ℕ) (held : List ℕ) → length held + s ≤ length x →
          length (s ∷ (if b then length held ∷ held else held)) + s ≤ 2 + length x
      cases true s held le = omega arith
      cases false s held le = omega arith

entries_length : (width : ℕ) (y : Option (List ℕ)) (room : ℕ) (first : Bool) (before : List ℕ) (xs : List Item) →
    IsBytes before → AreEntries width y room first before xs →
    length (entries_text width before xs) + lead before ≤ length (frame_items xs) + 256
entries_length width y room first before [] fits each = let small = lead_small before fits in omega arith
entries_length width y room first before (x ∷ xs) fits each =
    let more = entries_length width y (room - length (short_text x)) false x xs each.0.bytes each.5 in
    let rises = lead_rises first before x each.0.not_empty each.2 in
    let own = entry_length width before x in
    let a = length-append (entry_text width before x) (entries_text width x xs) in
    let b = length-append (short_text x) (frame_items xs) in
    omega arith

pub items_length : (X : Range) (room : ℕ) (xs : List Item) → IsLower X.lower →
    AreEntries (common_length xs) X.upper room true X.lower xs →
    length (compact_items X.lower xs) ≤ length (frame_items xs) + 257
items_length X room [] low each = omega arith
items_length X room (x ∷ xs) low each =
    let len = entries_length (common_length (x ∷ xs)) X.upper room true X.lower (x ∷ xs) low.bytes each in omega arith
