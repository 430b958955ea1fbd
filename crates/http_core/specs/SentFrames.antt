-- What a client sends over a WebSocket: whole frames, and the bytes of the stream that are in them.
--     SentFrame                  a frame: what its payload is, whether its message ends with it, its key, its payload
--     header_of inside f         the head of a frame, where `inside` says whether a message goes on
--     encoded inside frames      the bytes of these frames, one after the other
--     stream_of frames           the bytes of the stream in them: the payloads of the data frames, in order
--     last_ping before frames    the payload of the last ping in them, or the one before them
--     MaySend most f             a client may send this frame where a payload may have `most` bytes
use Rattle.std.specs.Prelude.{◌≡◌, ℕ, ◌^◌, ◌<◌, ◌≤◌, Bool, true, false, not, List, [], ◌++◌, ◌∷◌, flat_map, length}
use Rattle.std.specs.Prelude.{Option, Some, if◌then◌else◌}
use Rattle.websocket.specs.declared.protocol.frame.header.FrameHeader.{FrameHeader}
use Rattle.websocket.specs.declared.protocol.frame.coding.OpCode.{OpCode}
use Rattle.websocket.specs.declared.protocol.frame.coding.OpCode.TheVariants as opcodes
use Rattle.websocket.specs.declared.protocol.frame.coding.Data.TheVariants as datas
use Rattle.websocket.specs.declared.protocol.frame.coding.Control.TheVariants as controls
use Rattle.websocket.specs.FrameHeader.{IsMask}
use Rattle.websocket.specs.Frame.{encode_frame}
use Rattle.http_core.specs.declared.frames.Kind.{Kind}
use Rattle.http_core.specs.declared.frames.Kind.TheVariants as kinds

pub record SentFrame : Type 0 where
  pub kind : Kind
  pub is_final : Bool
  pub key : List ℕ
  pub payload : List ℕ

-- the first frame of a message is binary, and each later one continues it
abbrev pub opcode_of : Kind → Bool → OpCode
opcode_of kinds.Data inside = opcodes.Data (if inside then datas.Continue else datas.Binary)
opcode_of kinds.Ping inside = opcodes.Control controls.Ping
opcode_of kinds.Pong inside = opcodes.Control controls.Pong
opcode_of kinds.Close inside = opcodes.Control controls.Close

abbrev pub header_of : Bool → SentFrame → FrameHeader
header_of inside f = record {
  is_final = f.is_final;
  rsv1 = false;
  rsv2 = false;
  rsv3 = false;
  opcode = opcode_of f.kind inside;
  mask = Some f.key;
}

-- a message goes on until its last frame, and frames of control stand between
abbrev pub inside_after : Kind → SentFrame → Bool → Bool
inside_after kinds.Data f inside = not f.is_final
inside_after _ f inside = inside

abbrev pub encoded : Bool → List SentFrame → List ℕ
encoded inside [] = []
encoded inside (f ∷ frames) =
    encode_frame (header_of inside f) f.payload ++ encoded (inside_after f.kind f inside) frames

-- the payload of a data frame is of the stream
abbrev pub said_by : Kind → List ℕ → List ℕ
said_by kinds.Data payload = payload
said_by _ payload = []

abbrev pub said_in : SentFrame → List ℕ
said_in f = said_by f.kind f.payload

abbrev pub stream_of : List SentFrame → List ℕ
stream_of frames = flat_map said_in frames

abbrev pub ping_after : Kind → List ℕ → Option (List ℕ) → Option (List ℕ)
ping_after kinds.Ping payload before = Some payload
ping_after _ payload before = before

abbrev pub last_ping : Option (List ℕ) → List SentFrame → Option (List ℕ)
last_ping before [] = before
last_ping before (f ∷ frames) = last_ping (ping_after f.kind f.payload before) frames

-- a ping and a pong are whole and short, and a close is no frame of these
abbrev pub Fits : ℕ → Kind → SentFrame → Type 0
Fits most kinds.Data f = length f.payload ≤ most
Fits most kinds.Ping f = (f.is_final ≡ true) × (length f.payload ≤ 125)
Fits most kinds.Pong f = (f.is_final ≡ true) × (length f.payload ≤ 125)
Fits most kinds.Close f = ⊥

pub record MaySend (most : ℕ) (f : SentFrame) : Type 0 where
  pub fits : Fits most f.kind f
  pub key : IsMask (Some f.key)
  pub short : length f.payload < 2 ^ 63
