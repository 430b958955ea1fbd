-- A message as hex, one frame a line, and what is no blank of hex text.
use Rattle.std.specs.Prelude.{ℕ, List, [], ◌∷◌, ◌++◌, flat_map, Bool, not, ◌&&◌, ◌==◌}
use Rattle.hex.specs.Hex.{encode_lower}
use Rattle.definitions.specs.Fingerprints.{Lanes}
use Rattle.definitions.specs.Messages.{Message, Part}
use Rattle.definitions.specs.Wire.{two_lane_profile, part_text, end_text}

-- the hex of a frame and a newline
abbrev pub line_of : List ℕ → List ℕ
line_of frame = encode_lower frame ++ (10 ∷ [])

abbrev pub part_line : Part Lanes → List ℕ
part_line p = line_of (part_text two_lane_profile p)

-- the frames of the parts, and the frame of the end
abbrev pub hex_lines : Message Lanes → List ℕ
hex_lines M = flat_map part_line M ++ line_of end_text

-- the byte is no space, tab, carriage return or line feed
abbrev pub is_solid : ℕ → Bool
is_solid b = not (b == 32) && not (b == 9) && not (b == 13) && not (b == 10)
