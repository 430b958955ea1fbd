-- Frames of a WebSocket that a server sends (RFC 6455, section 5.2).
--     data_head n                the head of a frame with n bytes of the stream
--     control_text opcode payload   a frame whose payload is none of the stream
--     FramingState               what is still to be written of the last frame: of its head, and how much payload
--     begun n s                  the same, once n bytes of the stream are to be written
use Rattle.std.specs.Prelude.{ℕ, ◌+◌, ◌/◌, ◌%◌, ◌==◌, ◌||◌, nat_lt, min, Bool, List, [], ◌∷◌, length}
use Rattle.std.specs.Prelude.{if◌then◌else◌}

abbrev pub data_head : ℕ → List ℕ
data_head n = if nat_lt n 126 then 130 ∷ n ∷ [] else 130 ∷ 126 ∷ n / 256 ∷ n % 256 ∷ []

abbrev pub control_text : ℕ → List ℕ → List ℕ
control_text opcode payload = (128 + opcode) ∷ length payload ∷ payload

pub record FramingState : Type 0 where
  pub owed : List ℕ
  pub left : ℕ

abbrev pub is_inside : FramingState → Bool
is_inside s = nat_lt 0 (length s.owed) || nat_lt 0 s.left

-- at most 65,535 bytes go into one frame
abbrev pub begun : ℕ → FramingState → FramingState
begun n s = if is_inside s then s
    else if n == 0 then s else record { owed = data_head (min n 65535); left = min n 65535 }
