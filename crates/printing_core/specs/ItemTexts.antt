-- An item as it is printed.
--     is_plain x           whether the bytes are a text that stands for itself: UTF-8 without control characters, and
--                          neither `0x` nor a byte order mark in front
--     item_text form x     the item in hex; or as it stands where it is plain, else, and as a digest, in hex after `0x`
--     item_line form x     this and a newline
--     ReadsWhatIsPrinted   a file of such lines of text has the items that were printed, in their order
use Rattle.std.specs.Prelude.{◌≡◌, ℕ, Bool, not, ◌&&◌, List, [], ◌∷◌, ◌++◌, flat_map, chars, if◌then◌else◌, Ok}
use Rattle.std.specs.Prelude.{Option, Some, None}
use Rattle.std.specs.Char.{is_control}
use Rattle.std.specs.List.{AllByRecursion, list_any}
use Rattle.std.specs.Str.{is_utf8}
use Rattle.hex.specs.Hex.{encode_lower}
use Rattle.definitions.specs.Items.{Item, IsItem}
use Rattle.item_files.specs.ItemFiles.{mark, is_marked, has_byte_order_mark, file_items}
use Rattle.item_files.specs.declared.form.ItemForm.{ItemForm}
use Rattle.item_files.specs.declared.form.ItemForm.TheVariants as forms

abbrev pub is_plain : List ℕ → Bool
is_plain x = is_utf8 x && not (list_any is_control (chars x)) && not (is_marked x) && not (has_byte_order_mark x)

-- the text, if it is plain
abbrev pub plain_text : List ℕ → Option (List ℕ)
plain_text x = if is_plain x then Some x else None

abbrev pub marked_text : Item → List ℕ
marked_text x = mark ++ encode_lower x

abbrev pub item_text : ItemForm → Item → List ℕ
item_text forms.Hex x = encode_lower x
item_text forms.Text x = if is_plain x then x else marked_text x
item_text forms.Hash x = marked_text x

abbrev pub item_line : ItemForm → Item → List ℕ
item_line form x = item_text form x ++ 10 ∷ []

abbrev pub ReadsWhatIsPrinted : ItemForm → Type 0
ReadsWhatIsPrinted form = (xs : List Item) → AllByRecursion IsItem xs
    → file_items form (flat_map (item_line form) xs) ≡ Ok xs
