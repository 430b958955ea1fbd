-- A line of a file, as it is shown.
--     shown_char c         the character, or `?`
--     shown_front cs       the first 40 of these characters
--     shown_line line      the first 40 characters of the line, and `..` where there are more
use Rattle.std.specs.Prelude.{ℕ, List, [], ◌++◌, ◌==◌, ◌||◌, codes, if◌then◌else◌}
use Rattle.std.specs.Prelude.{chars, encode_utf8_all, length, map, take, nat_lt}
use Rattle.std.specs.Char.{is_control}
use Rattle.std.specs.Str.Lossy.{utf8_lossy}

-- `?` in place of a control character, and of U+FFFD, which stands for bytes that are no UTF-8
abbrev pub shown_char : ℕ → ℕ
shown_char c = if is_control c || c == 65533 then 63 else c

-- the first 40 characters
abbrev pub shown_front : List ℕ → List ℕ
shown_front cs = encode_utf8_all (map shown_char (take 40 cs))

abbrev pub dots_after : List ℕ → List ℕ
dots_after cs = if nat_lt 40 (length cs) then codes ".." else []

abbrev pub shown_text : List ℕ → List ℕ
shown_text cs = shown_front cs ++ dots_after cs

abbrev pub shown_line : List ℕ → List ℕ
shown_line line = shown_text (chars (utf8_lossy line))
