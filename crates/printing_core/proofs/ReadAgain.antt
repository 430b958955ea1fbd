-- What is printed as text is read again.
-- The text of an item has no line feed and no carriage return: a plain one since they are control characters, and one
-- after `0x` since its bytes are hex digits. So its line is the text, and what this spells is the item. And no text of
-- an item begins with a byte order mark, so that the first one does not make the file's line 1 bad.
use Rattle.std.proofs.Common.{◌≡◌, ◌∙◌, ℕ, zero, suc, ◌<◌, ◌+◌, ◌++◌, ◌==◌, ◌-◌, ◌≤◌, ◌&&◌, ◌||◌, Bool, true, false}
use Rattle.std.proofs.Common.{List, [], ◌∷◌, length}
use Rattle.std.proofs.Common.{get_or, take, Some, Ok, refl, sym, ap, subst}
use Rattle.std.proofs.Common.{arith, rules}
use Rattle.std.specs.Prelude.{flat_map, chars, not, option_map, if◌then◌else◌}
use Rattle.std.specs.Char.{is_control}
use Rattle.std.specs.Io.BufRead.{ends_with_byte}
use Rattle.std.specs.List.{AllByRecursion, list_any}
use Rattle.std.specs.Str.{NoCharPasses, NonePass, is_utf8}
use Rattle.std.proofs.lemmas.List.{append_assoc}
use Rattle.std.proofs.lemmas.List.Elements.{All-from_get_or}
use Rattle.std.proofs.lemmas.List.Splits.{slice_split_at}
use Rattle.std.proofs.lemmas.Str.{NoCharPasses-byte, IsUtf8-from_is_utf8, encodes-chars}
use Rattle.hex.specs.Hex.{encode_lower, is_hex_digit}
use Rattle.hex.proofs.HexLemmas.{decode_of-encode_lower, decode_of-ok}
use Rattle.definitions.specs.Items.{Item, IsItem, IsBytes}
use Rattle.item_files.specs.ItemFiles.{lines, is_marked, text_in, text_item, one_item, decoded, content_items}
use Rattle.item_files.specs.ItemFiles.{line_items, line_before, before, items_from}
use Rattle.item_files.specs.ItemFiles.{has_byte_order_mark, bad_line, line_flaw}
use Rattle.item_files.specs.declared.form.ItemForm.TheVariants as forms
use Rattle.printing_core.specs.ItemTexts.{is_plain, item_text, item_line, marked_text, ReadsWhatIsPrinted}

-- no line feed and no carriage return
record IsOneLine (text : List ℕ) : Type 0 where
  no_feed : (i : ℕ) → i < length text → get_or text i 0 ≡ 10 → ⊥
  no_return : (i : ℕ) → i < length text → get_or text i 0 ≡ 13 → ⊥

is_no : (b : Bool) → (b ≡ true → ⊥) → b ≡ false
is_no true not_true = absurd (not_true refl)
is_no false not_true = refl

-- ---- plain texts

parts_of : (a b c d : Bool) → (a && not b && not c && not d) ≡ true
    → (a ≡ true) × (b ≡ false) × (c ≡ false) × (d ≡ false)
parts_of true false false false is = (refl, refl, refl, refl)
parts_of true false false true is = absurd (cc is)
parts_of true false true d is = absurd (cc is)
parts_of true true c d is = absurd (cc is)
parts_of false b c d is = absurd (cc is)

neither : (a b : Bool) → (a || b) ≡ false → (a ≡ false) × (b ≡ false)
neither false b none = (refl, none)
neither true b none = absurd (cc none)

none_pass : (p : ℕ → Bool) (cs : List ℕ) → list_any p cs ≡ false → NonePass p cs
none_pass p [] none = tt
none_pass p (c ∷ cs) none =
    let both = neither (p c) (list_any p cs) none in
    (both.0, none_pass p cs both.1)

no_control : (x : List ℕ) → is_utf8 x ≡ true → list_any is_control (chars x) ≡ false → NoCharPasses is_control x
no_control x text none = (chars x, encodes-chars x (IsUtf8-from_is_utf8 x text), none_pass is_control (chars x) none)

plain_line : (x : List ℕ) → NoCharPasses is_control x → IsOneLine x
plain_line x none = record {
  no_feed = λ i inside is. absurd (cc (subst (λ b. is_control b ≡ false) is
      (NoCharPasses-byte is_control x i none inside (subst (λ b. b < 128) (sym is) (omega arith)))));
  no_return = λ i inside is. absurd (cc (subst (λ b. is_control b ≡ false) is
      (NoCharPasses-byte is_control x i none inside (subst (λ b. b < 128) (sym is) (omega arith)))));
}

-- ---- hex after the mark

byte_at : (xs : List ℕ) → IsBytes xs → (i : ℕ) → get_or xs i 0 < 256
byte_at [] fit i = omega arith
byte_at (x ∷ xs) fit zero = fit.0
byte_at (x ∷ xs) fit (suc i) = byte_at xs fit.1 i

digit_line : (x : List ℕ) → IsBytes x → IsOneLine (encode_lower x)
digit_line x fit =
    let digits = (decode_of-ok (encode_lower x) x (decode_of-encode_lower x (byte_at x fit))).1 in
    record {
      no_feed = λ i inside is. absurd (cc (subst (λ b. is_hex_digit b ≡ true) is (digits i 0 inside)));
      no_return = λ i inside is. absurd (cc (subst (λ b. is_hex_digit b ≡ true) is (digits i 0 inside)));
    }

-- a line with one more byte in front
one_more : (b : ℕ) (text : List ℕ) → (b ≡ 10 → ⊥) → (b ≡ 13 → ⊥) → IsOneLine text → IsOneLine (b ∷ text)
one_more b text feed return line = record { no_feed = feeds; no_return = returns }
  where
    feeds : (i : ℕ) → i < length (b ∷ text) → get_or (b ∷ text) i 0 ≡ 10 → ⊥
    feeds zero inside is = feed is
    feeds (suc i) inside is = line.no_feed i (omega arith) is

    returns : (i : ℕ) → i < length (b ∷ text) → get_or (b ∷ text) i 0 ≡ 13 → ⊥
    returns zero inside is = return is
    returns (suc i) inside is = line.no_return i (omega arith) is

marked_line : (x : List ℕ) → IsBytes x → IsOneLine (marked_text x)
marked_line x fit = one_more 48 (120 ∷ encode_lower x) (λ is. absurd (omega arith)) (λ is. absurd (omega arith))
    (one_more 120 (encode_lower x) (λ is. absurd (omega arith)) (λ is. absurd (omega arith)) (digit_line x fit))

-- ---- what a text spells

is_item : (x : Item) → IsItem x → one_item x ≡ Some x
is_item x fit = let low = fit.not_empty in let high = fit.not_long in grind (arith)

plain_spells : (x : Item) → IsItem x → is_marked x ≡ false → text_item x ≡ Some x
plain_spells x fit unmarked = rw unmarked (is_item x fit)

marked_spells : (x : Item) → IsItem x → text_item (marked_text x) ≡ Some x
marked_spells x fit = ap decoded (decode_of-encode_lower x (byte_at x fit.bytes)) ∙ is_item x fit

-- a text of one line that spells an item, and is not empty
record Spells (text : List ℕ) (x : Item) : Type 0 where
  line : IsOneLine text
  some : 1 ≤ length text
  is : text_item text ≡ Some x
  orderless : has_byte_order_mark text ≡ false

spells : (x : Item) → IsItem x → Spells (item_text forms.Text x) x
spells x fit = by (is_plain x) refl
  where
    by : (b : Bool) → is_plain x ≡ b → Spells (if b then x else marked_text x) x
    by true is =
        let parts = parts_of (is_utf8 x) (list_any is_control (chars x)) (is_marked x)
        (has_byte_order_mark x) is in
        record {
          line = plain_line x (no_control x parts.0 parts.1);
          some = fit.not_empty;
          is = plain_spells x fit parts.2;
          orderless = parts.3;
        }
    by false is = record {
      line = marked_line x fit.bytes;
      some = omega arith;
      is = marked_spells x fit;
      orderless = refl;
    }

-- ---- lines

whole_line : (text : List ℕ) → IsOneLine text → text_in text ≡ text
whole_line text line = by (ends_with_byte 13 text) refl
  where
    by : (b : Bool) → ends_with_byte 13 text ≡ b → (if b then take (length text - 1) text else text) ≡ text
    by false is = refl
    by true is =
        let last : get_or text (length text - 1) 0 ≡ 13 = search (rules, is) in
        let some : length text - 1 < length text = search (rules, is, arith) in
        absurd (line.no_return (length text - 1) some last)

line_spells : (text : List ℕ) (x : Item) → Spells text x → line_items forms.Text text ≡ Some (x ∷ [])
line_spells text x spells = ap (content_items forms.Text) (whole_line text spells.line) ∙ by text spells.some spells.is
  where
    by : (text : List ℕ) → 1 ≤ length text → text_item text ≡ Some x → content_items forms.Text text ≡ Some (x ∷ [])
    by [] some is = absurd (omega arith)
    by (b ∷ bs) some is = ap (option_map (λ x. x ∷ [])) is

first_line : (text rest : List ℕ) → IsOneLine text → lines (text ++ 10 ∷ rest) ≡ text ∷ lines rest
first_line text rest line = slice_split_at (λ b. b == 10) text 10 rest
    (All-from_get_or (λ b. (b == 10) ≡ false) text 0
    (λ i inside. is_no (get_or text i 0 == 10) (λ is. line.no_feed i inside (search (rules, is))))) refl

items_read : (n : ℕ) (xs : List Item) → AllByRecursion IsItem xs
    → items_from forms.Text n (lines (flat_map (item_line forms.Text) xs)) ≡ Ok xs
items_read n [] fit = refl
items_read n (x ∷ xs) fit =
    let is = spells x fit.0 in
    let text = item_text forms.Text x in
    let rest = flat_map (item_line forms.Text) xs in
    ap (λ t. items_from forms.Text n (lines t)) (append_assoc text (10 ∷ []) rest)
    ∙ (ap (items_from forms.Text n) (first_line text rest is.line)
    ∙ (ap (λ o. line_before (bad_line (line_flaw forms.Text text) n text) o
    (items_from forms.Text (n + 1) (lines rest))) (line_spells text x is)
    ∙ ap (before (x ∷ [])) (items_read (n + 1) xs fit.1)))

-- ---- the first line

-- a text without the mark in front has none with its line feed, since this is no byte of the mark
first_is_orderless : (text rest : List ℕ) → has_byte_order_mark text ≡ false
    → has_byte_order_mark (text ++ 10 ∷ rest) ≡ false
first_is_orderless [] rest is = refl
first_is_orderless (a ∷ []) rest is = grind (arith)
first_is_orderless (a ∷ b ∷ []) rest is = grind (arith)
first_is_orderless (a ∷ b ∷ c ∷ text) rest is = is

lines_are_orderless : (xs : List Item) → AllByRecursion IsItem xs
    → has_byte_order_mark (flat_map (item_line forms.Text) xs) ≡ false
lines_are_orderless [] fit = refl
lines_are_orderless (x ∷ xs) fit =
    let text = item_text forms.Text x in
    let rest = flat_map (item_line forms.Text) xs in
    ap has_byte_order_mark (append_assoc text (10 ∷ []) rest)
    ∙ first_is_orderless text rest (spells x fit.0).orderless

pub text_read_again : ReadsWhatIsPrinted forms.Text
text_read_again xs fit = rw (lines_are_orderless xs fit) (items_read 1 xs fit)
