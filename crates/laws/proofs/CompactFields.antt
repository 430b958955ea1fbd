-- Numbers and lists of items in the compact spelling.
-- A number's bytes are its digits at base 128; each but the last has 128 added, and the first says something, so one
-- number has one text.
-- An item is written against the one before it, as a bound is against z. So by induction on the list: what is read are
-- items that rise from the lower bound and stay below the upper, each with its greatest share, and such a list is read
-- back. The width is read first; it is the one that the items have.
-- docs/LAWS.md: The compact spelling.
use Rattle.std.proofs.Common.{◌≡◌, ℕ, zero, suc, ◌+◌, ◌*◌, ◌/◌, ◌%◌, ◌-◌, ◌^◌, ◌<◌, ◌≤◌, Bool, true, false, List, []}
use Rattle.std.proofs.Common.{◌∷◌, ◌++◌, length, take, drop, Err, refl, sym, ap, subst, ◌∙◌, arith, inl, inr}
use Rattle.std.specs.Prelude.{◌⊎◌, nat_lt, not, ◌==◌, if◌then◌else◌}
use Rattle.definitions.proofs.Words.{IsBytes, IsItem, IsLower, Item, comes_before, is_item_length}
use Rattle.definitions.proofs.Lemmas.{not-true, not-false, length-append, length-take-le, length-drop, take-append-drop}
use Rattle.definitions.proofs.Lemmas.{before-asym, ltb-true, ltb-false, lt-ltb, le-ltb, eqb-true}
use Rattle.definitions.specs.Compact.{shared, number_text, entry_of, entry_text}
use Rattle.definitions.specs.CompactReading.{◌>>=◌, gives, goes_above, digits_from, number_from, is_next}
use Rattle.definitions.specs.CompactReading.{entry_share_from, entry_length_from, entry_rest_from, entry_from}
use Rattle.definitions.specs.Refusals.{frame_length, item_length, item_order}
use Rattle.laws.proofs.Fields.{IsBytes-back, IsBytes-front, IsBytes-both, rest_fits, front_fits, is_length}
use Rattle.laws.proofs.CompactBounds.{Reads, Then, as_reads, then_reads, given_is, test_reads, tested_reads, reads_if}
use Rattle.laws.proofs.CompactBounds.{byte_reads, bytes_read, shared_is, rest_is, rest_after, shared_most, shared_joins}
use Rattle.laws.proofs.CompactBounds.{shared_above, shared_leaves}

-- ==== A number

-- these bytes go on from n0 and say n
abbrev Digits : ℕ → ℕ → ℕ → List ℕ → Type 0
Digits zero n0 n front = ⊥
Digits (suc places) n0 n [] = ⊥
Digits (suc places) n0 n (b ∷ front) = ((b < 128) × (n ≡ 128 * n0 + b) × (front ≡ []))
    ⊎ ((128 ≤ b) × Digits places (128 * n0 + b % 128) n front)

digits_back : (places n0 n : ℕ) (front rest : List ℕ) → Digits places n0 n front →
    digits_from places n0 (front ++ rest) ≡ gives n rest
digits_back zero n0 n front rest d = absurd d
digits_back (suc places) n0 n [] rest d = absurd d
digits_back (suc places) n0 n (b ∷ front) rest (inl d) = grind (arith, lt-ltb)
digits_back (suc places) n0 n (b ∷ front) rest (inr d) =
    grind (arith, le-ltb, digits_back places (128 * n0 + b % 128) n front rest d.1)

abbrev DigitsFound : ℕ → ℕ → ℕ → List ℕ → List ℕ → Type 0
DigitsFound places n0 n bytes rest = (front : List ℕ) × Digits places n0 n front × (bytes ≡ front ++ rest)

digits_only : (places n0 n : ℕ) (bytes rest : List ℕ) → digits_from places n0 bytes ≡ gives n rest →
    DigitsFound places n0 n bytes rest
digits_only zero n0 n bytes rest e = absurd cc
digits_only (suc places) n0 n [] rest e = absurd cc
digits_only (suc places) n0 n (b ∷ bytes) rest e =
    cases (nat_lt b 128) refl (λ f. digits_only places (128 * n0 + b % 128) n bytes rest f) e where
      cases : (t : Bool) → nat_lt b 128 ≡ t →
          (digits_from places (128 * n0 + b % 128) bytes ≡ gives n rest →
          DigitsFound places (128 * n0 + b % 128) n bytes rest) →
          (if t then gives (128 * n0 + b) bytes else digits_from places (128 * n0 + b % 128) bytes) ≡ gives n rest →
          DigitsFound (suc places) n0 n (b ∷ bytes) rest
      cases true h more e = let p = given_is (128 * n0 + b) n bytes rest e in
          (b ∷ [], inl (ltb-true _ _ h, sym p.0, refl), ap (λ (t : List ℕ). b ∷ t) p.1)
      cases false h more e = let o = more e in
          (b ∷ o.0, inr (ltb-false _ _ h, o.1), ap (λ (t : List ℕ). b ∷ t) o.2)

digits_firm : (places n0 : ℕ) (bytes more : List ℕ) (code : ℕ) → digits_from places n0 bytes ≡ Err code →
    digits_from places n0 (bytes ++ more) ≡ Err code
digits_firm zero n0 bytes more code e = e
digits_firm (suc places) n0 [] more code e = absurd cc
digits_firm (suc places) n0 (b ∷ bytes) more code e =
    cases (nat_lt b 128) refl (λ f. digits_firm places (128 * n0 + b % 128) bytes more code f) e where
      cases : (t : Bool) → nat_lt b 128 ≡ t →
          (digits_from places (128 * n0 + b % 128) bytes ≡ Err code →
          digits_from places (128 * n0 + b % 128) (bytes ++ more) ≡ Err code) →
          (if t then gives (128 * n0 + b) bytes else digits_from places (128 * n0 + b % 128) bytes) ≡ Err code →
          digits_from (suc places) n0 (b ∷ (bytes ++ more)) ≡ Err code
      cases true h on e = absurd cc
      cases false h on e =
          ap (λ (t : Bool). if t then gives (128 * n0 + b) (bytes ++ more)
          else digits_from places (128 * n0 + b % 128) (bytes ++ more)) h ∙ on e

-- one byte, two, three or four
text_1 : (n : ℕ) → n < 2 ^ 7 → number_text n ≡ n ∷ []
text_1 n lt = grind arith

text_2 : (n : ℕ) → 2 ^ 7 ≤ n → n < 2 ^ 14 → number_text n ≡ (128 + n / 2 ^ 7) ∷ (n % 128) ∷ []
text_2 n le lt = grind arith

text_3 : (n : ℕ) → 2 ^ 14 ≤ n → n < 2 ^ 21 →
    number_text n ≡ (128 + n / 2 ^ 14) ∷ (128 + (n / 2 ^ 7) % 128) ∷ (n % 128) ∷ []
text_3 n le lt = grind arith

text_4 : (n : ℕ) → 2 ^ 21 ≤ n →
    number_text n ≡ (128 + n / 2 ^ 21) ∷ (128 + (n / 2 ^ 14) % 128) ∷ (128 + (n / 2 ^ 7) % 128) ∷ (n % 128) ∷ []
text_4 n le = grind arith

abbrev pub NumberGood : ℕ → List ℕ → Type 0
NumberGood n front = (n < 2 ^ 28) × (front ≡ number_text n)

-- the first byte is not 128
abbrev Leads : List ℕ → Type 0
Leads [] = ⊥
Leads (b ∷ front) = (b == 128) ≡ false

to_1 : (n a : ℕ) (front : List ℕ) → a < 128 → n ≡ 128 * 0 + a → front ≡ [] → NumberGood n (a ∷ front)
to_1 n a front lt is none =
    let same : a ≡ n = omega arith in (omega arith, (λ i. same i ∷ none i) ∙ sym (text_1 n (omega arith)))

to_2 : (n a b : ℕ) (front : List ℕ) → 128 ≤ a → a < 256 → (a == 128) ≡ false → b < 128 →
    n ≡ 128 * (128 * 0 + a % 128) + b → front ≡ [] → NumberGood n (a ∷ b ∷ front)
to_2 n a b front le small leads lt is none =
    let more : 1 ≤ a % 128 = grind arith in
    let d : a ≡ 128 + n / 2 ^ 7 = omega arith in
    let m : b ≡ n % 128 = omega arith in
    (omega arith, (λ i. d i ∷ m i ∷ none i) ∙ sym (text_2 n (omega arith) (omega arith)))

to_3 : (n a b c : ℕ) (front : List ℕ) → 128 ≤ a → a < 256 → (a == 128) ≡ false → 128 ≤ b → b < 256 → c < 128 →
    n ≡ 128 * (128 * (128 * 0 + a % 128) + b % 128) + c → front ≡ [] → NumberGood n (a ∷ b ∷ c ∷ front)
to_3 n a b c front le small leads le2 small2 lt is none =
    let more : 1 ≤ a % 128 = grind arith in
    let d : a ≡ 128 + n / 2 ^ 14 = omega arith in
    let e : b ≡ 128 + (n / 2 ^ 7) % 128 = omega arith in
    let m : c ≡ n % 128 = omega arith in
    (omega arith, (λ i. d i ∷ e i ∷ m i ∷ none i) ∙ sym (text_3 n (omega arith) (omega arith)))

to_4 : (n a b c l : ℕ) (front : List ℕ) → 128 ≤ a → a < 256 → (a == 128) ≡ false → 128 ≤ b → b < 256 → 128 ≤ c →
    c < 256 → l < 128 → n ≡ 128 * (128 * (128 * (128 * 0 + a % 128) + b % 128) + c % 128) + l → front ≡ [] →
    NumberGood n (a ∷ b ∷ c ∷ l ∷ front)
to_4 n a b c l front le small leads le2 small2 le3 small3 lt is none =
    let more : 1 ≤ a % 128 = grind arith in
    let d : a ≡ 128 + n / 2 ^ 21 = omega arith in
    let e : b ≡ 128 + (n / 2 ^ 14) % 128 = omega arith in
    let f : c ≡ 128 + (n / 2 ^ 7) % 128 = omega arith in
    let m : l ≡ n % 128 = omega arith in
    (omega arith, (λ i. d i ∷ e i ∷ f i ∷ m i ∷ none i) ∙ sym (text_4 n (omega arith)))

digits_to : (n : ℕ) (front : List ℕ) → IsBytes front → Leads front → Digits 4 0 n front → NumberGood n front
digits_to n [] fits leads d = absurd d
digits_to n (a ∷ front) fits leads (inl d) = to_1 n a front d.0 d.1 d.2
digits_to n (a ∷ []) fits leads (inr d) = absurd d.1
digits_to n (a ∷ b ∷ front) fits leads (inr (le, inl d)) = to_2 n a b front le fits.0 leads d.0 d.1 d.2
digits_to n (a ∷ b ∷ []) fits leads (inr (le, inr d)) = absurd d.1
digits_to n (a ∷ b ∷ c ∷ front) fits leads (inr (le, inr (le2, inl d))) =
    to_3 n a b c front le fits.0 leads le2 fits.1.0 d.0 d.1 d.2
digits_to n (a ∷ b ∷ c ∷ []) fits leads (inr (le, inr (le2, inr d))) = absurd d.1
digits_to n (a ∷ b ∷ c ∷ l ∷ front) fits leads (inr (le, inr (le2, inr (le3, inl d)))) =
    to_4 n a b c l front le fits.0 leads le2 fits.1.0 le3 fits.1.1.0 d.0 d.1 d.2
digits_to n (a ∷ b ∷ c ∷ l ∷ front) fits leads (inr (le, inr (le2, inr (le3, inr d)))) = absurd d.1

pub by_if : {X : Type 0} (M : X → Type 0) (b : Bool) (x y : X) → (b ≡ true → M x) → (b ≡ false → M y) →
    M (if b then x else y)
by_if M true x y h k = h refl
by_if M false x y h k = k refl

-- the digits of a number
abbrev Found : ℕ → List ℕ → Type 0
Found n front = Digits 4 0 n front × Leads front

from_1 : (n : ℕ) → n < 2 ^ 7 → Found n (n ∷ [])
from_1 n lt = (inl (omega arith, omega arith, refl), grind arith)

from_2 : (n : ℕ) → 2 ^ 7 ≤ n → n < 2 ^ 14 → Found n ((128 + n / 2 ^ 7) ∷ (n % 128) ∷ [])
from_2 n le lt = (inr (omega arith, inl (omega arith, omega arith, refl)), grind arith)

from_3 : (n : ℕ) → 2 ^ 14 ≤ n → n < 2 ^ 21 →
    Found n ((128 + n / 2 ^ 14) ∷ (128 + (n / 2 ^ 7) % 128) ∷ (n % 128) ∷ [])
from_3 n le lt = (inr (omega arith, inr (omega arith, inl (omega arith, omega arith, refl))), grind arith)

from_4 : (n : ℕ) → 2 ^ 21 ≤ n → n < 2 ^ 28 →
    Found n ((128 + n / 2 ^ 21) ∷ (128 + (n / 2 ^ 14) % 128) ∷ (128 + (n / 2 ^ 7) % 128) ∷ (n % 128) ∷ [])
from_4 n le lt =
    (inr (omega arith, inr (omega arith, inr (omega arith, inl (omega arith, omega arith, refl)))), grind arith)

found_text : (n : ℕ) → n < 2 ^ 28 → Found n (number_text n)
found_text n lt = by_if (Found n) (nat_lt n (2 ^ 7)) _ _
    (λ h. from_1 n (ltb-true _ _ h))
    (λ h. let a : 2 ^ 7 ≤ n = ltb-false _ _ h in by_if (Found n) (nat_lt n (2 ^ 14)) _ _
    (λ h. from_2 n a (ltb-true _ _ h))
    (λ h. let b : 2 ^ 14 ≤ n = ltb-false _ _ h in by_if (Found n) (nat_lt n (2 ^ 21)) _ _
    (λ h. from_3 n b (ltb-true _ _ h))
    (λ h. from_4 n (ltb-false _ _ h) lt)))

number_back : (n : ℕ) (front rest : List ℕ) → Found n front → number_from (front ++ rest) ≡ gives n rest
number_back n [] rest f = absurd f.1
number_back n (b ∷ front) rest f =
    ap (λ (t : Bool). if t then Err frame_length else digits_from 4 0 (b ∷ (front ++ rest))) f.1
    ∙ digits_back 4 0 n (b ∷ front) rest f.0

number_only : (bytes : List ℕ) (n : ℕ) (rest : List ℕ) → IsBytes bytes → number_from bytes ≡ gives n rest →
    (front : List ℕ) × NumberGood n front × (bytes ≡ front ++ rest)
number_only [] n rest fits e = absurd cc
number_only (b ∷ bytes) n rest fits e = cases (b == 128) refl e where
  leads : (front : List ℕ) → b ∷ bytes ≡ front ++ rest → (b == 128) ≡ false → Digits 4 0 n front → Leads front
  leads [] is h d = absurd d
  leads (c ∷ front) is h d = let same : b ≡ c = cc in ap (λ n. n == 128) (sym same) ∙ h

  cases : (t : Bool) → (b == 128) ≡ t → (if t then Err frame_length else digits_from 4 0 (b ∷ bytes)) ≡ gives n rest →
      (front : List ℕ) × NumberGood n front × (b ∷ bytes ≡ front ++ rest)
  cases true h e = absurd cc
  cases false h e = let o = digits_only 4 0 n (b ∷ bytes) rest e in
      (o.0, digits_to n o.0 (front_fits (b ∷ bytes) o.0 rest o.2 fits) (leads o.0 o.2 h o.1) o.1, o.2)

number_firm : (bytes more : List ℕ) (code : ℕ) → number_from bytes ≡ Err code →
    number_from (bytes ++ more) ≡ Err code
number_firm [] more code e = absurd cc
number_firm (b ∷ bytes) more code e = cases (b == 128) e where
  cases : (t : Bool) → (if t then Err frame_length else digits_from 4 0 (b ∷ bytes)) ≡ Err code →
      (if t then Err frame_length else digits_from 4 0 (b ∷ (bytes ++ more))) ≡ Err code
  cases true e = e
  cases false e = digits_firm 4 0 (b ∷ bytes) more code e

pub number_reads : Reads NumberGood number_from
number_reads = record {
  back = λ n front rest g. ap (λ (t : List ℕ). number_from (t ++ rest)) g.1
      ∙ number_back n (number_text n) rest (found_text n g.0);
  only = number_only;
  firm = λ bytes more code fits e. number_firm bytes more code e;
}

-- ==== An item after the one before it

-- the width is that of the item, or 0
abbrev pub IsWide : ℕ → Item → Type 0
IsWide width x = (width ≡ 0) ⊎ (length x ≡ width)

-- the first may be the lower bound
abbrev pub follows : Bool → List ℕ → Item → Bool
follows first before x = if first then not (comes_before x before) else comes_before before x

pub record EntryGood (width : ℕ) (first : Bool) (before : List ℕ) (x : Item) (front : List ℕ) : Type 0 where
  pub item : IsItem x
  pub wide : IsWide width x
  pub next : follows first before x ≡ true
  pub is : front ≡ entry_text width before x

abbrev EntryShare : List ℕ → ℕ → List ℕ → Type 0
EntryShare before s front = (x : ℕ) × (front ≡ x ∷ []) × (nat_lt (length before) x ≡ false) × (s ≡ x)

entry_share_reads : (before : List ℕ) → Reads (EntryShare before) (entry_share_from before)
entry_share_reads before = tested_reads byte_reads (λ s. nat_lt (length before) s) item_length (λ s. s)

abbrev EntryLength : ℕ → ℕ → ℕ → List ℕ → Type 0
EntryLength width s l front = ((width ≡ 0) × (is_item_length (s + l) ≡ true) × (front ≡ l ∷ []))
    ⊎ ((0 < width) × (s ≤ width) × (l ≡ width - s) × (front ≡ []))

own_to : (width s l : ℕ) (front : List ℕ) → width ≡ 0 →
    ((x : ℕ) × (front ≡ x ∷ []) × (not (is_item_length (s + x)) ≡ false) × (l ≡ x)) → EntryLength width s l front
own_to width s l front none (x, is, right, same) =
    inl (none, ap (λ n. is_item_length (s + n)) same ∙ not-false _ right, is ∙ ap (λ n. n ∷ []) (sym same))

own_from : (width s l : ℕ) (front : List ℕ) → width ≡ 0 → EntryLength width s l front →
    (x : ℕ) × (front ≡ x ∷ []) × (not (is_item_length (s + x)) ≡ false) × (l ≡ x)
own_from width s l front none (inl g) = (l, g.2, ap not g.1, refl)
own_from width s l front none (inr g) = absurd (let some = g.0 in omega arith)

wide_to : (width s l : ℕ) (front : List ℕ) → 0 < width →
    (nat_lt width s ≡ false) × ((l ≡ width - s) × (front ≡ [])) → EntryLength width s l front
wide_to width s l front some g = inr (some, ltb-false _ _ g.0, g.1.0, g.1.1)

wide_from : (width s l : ℕ) (front : List ℕ) → 0 < width → EntryLength width s l front →
    (nat_lt width s ≡ false) × ((l ≡ width - s) × (front ≡ []))
wide_from width s l front some (inl g) = absurd (let none = g.0 in omega arith)
wide_from width s l front some (inr g) = let le = g.1 in (le-ltb _ _ le, (g.2, g.3))

not_zero : (width : ℕ) → (width == 0) ≡ false → 0 < width
not_zero width h = grind arith

entry_length_reads : (width s : ℕ) → Reads (EntryLength width s) (entry_length_from width s)
entry_length_reads width s = reads_if (width == 0)
    (λ h. let none : width ≡ 0 = eqb-true _ _ h in
    as_reads (tested_reads byte_reads (λ l. not (is_item_length (s + l))) item_length (λ l. l))
    (λ l front fits g. own_to width s l front none g) (λ l front g. own_from width s l front none g))
    (λ h. let some = not_zero width h in as_reads (test_reads (nat_lt width s) item_length (width - s))
    (λ l front fits g. wide_to width s l front some g) (λ l front g. wide_from width s l front some g))

abbrev EntryRest : Bool → List ℕ → ℕ → ℕ → Item → List ℕ → Type 0
EntryRest first before s l x front = (held : List ℕ) × ((length held ≡ l) × (front ≡ held))
    × (not (is_next first before s held) ≡ false) × (x ≡ take s before ++ held)

entry_rest_reads : (first : Bool) (before : List ℕ) (s l : ℕ) →
    Reads (EntryRest first before s l) (entry_rest_from first before s l)
entry_rest_reads first before s l =
    tested_reads (bytes_read l) (λ held. not (is_next first before s held)) item_order (λ held. take s before ++ held)

abbrev EntryRead : ℕ → Bool → List ℕ → Item → List ℕ → Type 0
EntryRead width first before =
    Then (EntryShare before) (λ s. Then (EntryLength width s) (EntryRest first before s))

-- what goes on from a beginning of z, above what z has there, is not below z
not_below : (z : List ℕ) (s : ℕ) (rest : List ℕ) → s ≤ length z → goes_above (drop s z) rest ≡ true →
    comes_before (take s z ++ rest) z ≡ false
not_below [] zero [] le above = refl
not_below [] zero (c ∷ rest) le above = refl
not_below [] (suc s) rest le above = absurd (omega arith)
not_below (a ∷ z) zero [] le above = absurd cc
not_below (a ∷ z) zero (c ∷ rest) le above = grind arith
not_below (a ∷ z) (suc s) rest le above = grind (arith, not_below z s rest)

next_parts : (first : Bool) (before : List ℕ) (s : ℕ) (held : List ℕ) → is_next first before s held ≡ true →
    ((first ≡ true) ⊎ (0 < length held)) × (goes_above (drop s before) held ≡ true)
next_parts first before s held h = grind arith

next_from : (first : Bool) (before : List ℕ) (s : ℕ) (held : List ℕ) → (first ≡ true) ⊎ (0 < length held) →
    goes_above (drop s before) held ≡ true → is_next first before s held ≡ true
next_from first before s held h k = grind arith

follows_next : (first : Bool) (before : List ℕ) (s : ℕ) (held : List ℕ) → s ≤ length before →
    (first ≡ true) ⊎ (0 < length held) → goes_above (drop s before) held ≡ true →
    follows first before (take s before ++ held) ≡ true
follows_next true before s held le some above = ap not (not_below before s held le above)
follows_next false before s held le (inl e) above = absurd cc
follows_next false before s held le (inr some) above = rest_after before s held le above some

-- what an item that follows leaves after its share
next_of : (first : Bool) (before x : List ℕ) → follows first before x ≡ true →
    ((first ≡ true) ⊎ (0 < length (drop (shared before x) x)))
    × (goes_above (drop (shared before x) before) (drop (shared before x) x) ≡ true)
next_of true before x h = (inl refl, shared_above before x (not-true _ h))
next_of false before x h = (inr (shared_leaves before x h), shared_above before x (before-asym before x h))

abbrev length_byte : ℕ → List ℕ → List ℕ
length_byte width held = if width == 0 then length held ∷ [] else []

entry_of_is : (width s : ℕ) (held : List ℕ) → (s ∷ []) ++ (length_byte width held ++ held) ≡ entry_of width s held
entry_of_is width s held = grind arith

length_of : (width s l : ℕ) (held front : List ℕ) → length held ≡ l → EntryLength width s l front →
    front ≡ length_byte width held
length_of width s l held front e g = grind arith

item_long : (n : ℕ) → 1 ≤ n → n ≤ 64 → is_item_length n ≡ true
item_long n low high = grind arith

length_fits : (width s l : ℕ) (front : List ℕ) → width ≤ 64 → EntryLength width s l front →
    (is_item_length (s + l) ≡ true) × ((width ≡ 0) ⊎ (s + l ≡ width))
length_fits width s l front narrow (inl g) = (g.1, inl g.0)
length_fits width s l front narrow (inr g) =
    let some = g.0 in let le = g.1 in let e = g.2 in (item_long (s + l) (omega arith) (omega arith), inr (omega arith))

length_from : (width s : ℕ) (held : List ℕ) (x : Item) → length x ≡ s + length held → IsWide width x →
    is_item_length (s + length held) ≡ true → EntryLength width s (length held) (length_byte width held)
length_from width s held x len (inl none) right = inl (none, right, grind arith)
length_from width s held x len (inr wide) right =
    let k = is_length (s + length held) right in let low = k.0 in
    inr (omega arith, omega arith, omega arith, grind arith)

entry_is : (width : ℕ) (first : Bool) (before : List ℕ) (s : ℕ) (held front : List ℕ) → IsLower before →
    IsBytes front → s ≤ length before → IsWide width (take s before ++ held) → is_item_length (s + length held) ≡ true →
    is_next first before s held ≡ true → front ≡ (s ∷ []) ++ (length_byte width held ++ held) →
    EntryGood width first before (take s before ++ held) front
entry_is width first before s held front low fits le wide long next is =
    let x : List ℕ = take s before ++ held in
    let n = next_parts first before s held next in
    let e : shared before x ≡ s = shared_is before s held le n.1 in
    let d : drop (shared before x) x ≡ held = ap (λ n. drop n x) e ∙ rest_is before s held le in
    let right : IsBytes (length_byte width held ++ held) = rest_fits front (s ∷ []) _ is fits in
    let held_fits : IsBytes held = IsBytes-back (length_byte width held) held right in
    let begin_fits : IsBytes (take s before) = IsBytes-front (take s before) (drop s before)
    (subst IsBytes (sym (take-append-drop s before)) low.bytes) in
    let k = is_length (s + length held) long in
    let at_least = k.0 in
    let at_most = k.1 in
    let len : length x ≡ s + length held =
    omega (arith, length-append (take s before) held, length-take-le s before le) in
    record {
      item = record {
        not_empty = omega arith;
        not_long = omega arith;
        bytes = IsBytes-both (take s before) held begin_fits held_fits;
      };
      wide = wide;
      next = follows_next first before s held le n.0 n.1;
      is = is ∙ entry_of_is width s held ∙ (λ i. entry_of width (sym e i) (sym d i));
    }

entry_to : (width : ℕ) (first : Bool) (before : List ℕ) (x : Item) (front : List ℕ) → width ≤ 64 → IsLower before →
    IsBytes front → EntryRead width first before x front → EntryGood width first before x front
entry_to width first before x front narrow low fits
    (s, f, r, (s2, f_is, few, same), (l, g, t, long, (held, held_is, next, x_is), r_is), whole) =
    let share : s2 ≡ s = sym same in
    let le2 : s2 ≤ length before = ltb-false _ _ few in
    let le : s ≤ length before = omega arith in
    let k = length_fits width s l g narrow long in
    let len : length (take s before ++ held) ≡ s + l =
    omega (arith, held_is.0, length-append (take s before) held, length-take-le s before le) in
    let wide : IsWide width (take s before ++ held) = elim k.1 [ inl e ↦ inl e | inr e ↦ inr (len ∙ e) ] in
    let front_is : front ≡ (s ∷ []) ++ (length_byte width held ++ held) =
    whole ∙ (λ i. f_is i ++ r_is i)
    ∙ (λ i. (share i ∷ []) ++ (length_of width s l held g held_is.0 long i ++ held_is.1 i)) in
    subst (λ (x : List ℕ). EntryGood width first before x front) (sym x_is)
    (entry_is width first before s held front low fits le wide (ap (λ n. is_item_length (s + n)) held_is.0 ∙ k.0)
    (not-false _ next) front_is)

entry_from_good : (width : ℕ) (first : Bool) (before : List ℕ) (x : Item) (front : List ℕ) →
    EntryGood width first before x front → EntryRead width first before x front
entry_from_good width first before x front g =
    let s : ℕ = shared before x in
    let held : List ℕ = drop s x in
    let most = shared_most before x in
    let a = most.0 in
    let b = most.1 in
    let n = next_of first before x g.next in
    let len : length x ≡ s + length held = omega (arith, length-drop s x) in
    let low = g.item.not_empty in
    let high = g.item.not_long in
    let right : is_item_length (s + length held) ≡ true = item_long (s + length held) (omega arith) (omega arith) in (
      s,
      s ∷ [],
      length_byte width held ++ held,
      (s, refl, le-ltb _ _ a, refl),
      (
        length held,
        length_byte width held,
        held,
        length_from width s held x len g.wide right,
        (held, (refl, refl), ap not (next_from first before s held n.0 n.1), sym (shared_joins before x)),
        refl,
      ),
      g.is ∙ sym (entry_of_is width s held),
    )

pub entry_reads : (width : ℕ) (first : Bool) (before : List ℕ) → width ≤ 64 → IsLower before →
    Reads (EntryGood width first before) (entry_from width first before)
entry_reads width first before narrow low = as_reads (then_reads (entry_share_reads before)
    (λ s. entry_length_from width s.0 s.1 >>= (λ l. entry_rest_from first before s.0 l.0 l.1))
    (λ s. Then (EntryLength width s) (EntryRest first before s))
    (λ s front g. then_reads (entry_length_reads width s) (λ l. entry_rest_from first before s l.0 l.1)
    (EntryRest first before s) (λ l front2 g2. entry_rest_reads first before s l)))
    (λ x front fits g. entry_to width first before x front narrow low fits g)
    (λ x front g. entry_from_good width first before x front g)
