-- Steps of the compact spelling.
--     rest_text width rest     the bytes of an item that are not shared; before them their number, where width is 0
use Rattle.std.specs.Prelude.{ℕ, ◌==◌, List, ◌∷◌, length, if◌then◌else◌}

abbrev pub rest_text : ℕ → List ℕ → List ℕ
rest_text width rest = if width == 0 then length rest ∷ rest else rest
