-- Frames of a WebSocket that a client sends (RFC 6455, section 5.2), read byte by byte.
--     code_of stop               the code with which the stream is closed
--     FrameState                 how far a stream was read: how long a payload may be, what came of a head, the frame
--                                whose payload is read, whether more frames of a message are to come, the last ping and
--                                whether it is to be answered, and why no more is read
--     fresh most                 nothing was read
--     flaw_of most inside h n      why a frame with this head and n bytes of payload is not taken, if it is not
--     step s b                   the state after one more byte, and the byte of the stream that it gives, if any
--     run s bytes                the state after more bytes, and the bytes of the stream that they give
use Rattle.std.specs.Prelude.{ℕ, ◌+◌, ◌-◌, ◌%◌, ◌==◌, ◌&&◌, ◌||◌, not, nat_lt, nat_le, Bool, true, false}
use Rattle.std.specs.Prelude.{List, [], ◌∷◌, ◌++◌, length, slice_index, bit_xor, Option, None, Some, is_some, unwrap_or}
use Rattle.std.specs.Prelude.{Ok, Err, if◌then◌else◌, option_to_list}
use Rattle.websocket.specs.declared.protocol.frame.header.FrameHeader.{FrameHeader}
use Rattle.websocket.specs.declared.protocol.frame.coding.OpCode.{OpCode}
use Rattle.websocket.specs.declared.protocol.frame.coding.OpCode.TheVariants as opcodes
use Rattle.websocket.specs.declared.protocol.frame.coding.Data.TheVariants as datas
use Rattle.websocket.specs.declared.protocol.frame.coding.Control.TheVariants as controls
use Rattle.websocket.specs.FrameHeader.{Decoded, decode_header}
use Rattle.http_core.specs.declared.frames.Stop.{Stop}
use Rattle.http_core.specs.declared.frames.Stop.TheVariants as stops
use Rattle.http_core.specs.declared.frames.Kind.{Kind}
use Rattle.http_core.specs.declared.frames.Kind.TheVariants as kinds
use Rattle.http_core.specs.declared.frames.Body.{Body}

abbrev pub code_of : Stop → ℕ
code_of stops.Closed = 1000
code_of stops.Protocol = 1002
code_of stops.Text = 1003
code_of stops.TooLong = 1009

pub record FrameState : Type 0 where
  pub most : ℕ
  pub head : List ℕ
  pub body : Option Body
  pub goes_on : Bool
  pub ping : List ℕ
  pub asks : Bool
  pub stop : Option Stop

abbrev pub fresh : ℕ → FrameState
fresh most =
    record { most = most; head = []; body = None; goes_on = false; ping = []; asks = false; stop = None }

abbrev pub stopped : Stop → FrameState → FrameState
stopped why s = record s { stop = Some why }

-- the ping that is to be answered
abbrev pub asked_in : FrameState → Option (List ℕ)
asked_in s = if s.asks then Some s.ping else None

-- ---- heads

abbrev pub kind_of : OpCode → Kind
kind_of (opcodes.Data _) = kinds.Data
kind_of (opcodes.Control controls.Ping) = kinds.Ping
kind_of (opcodes.Control controls.Pong) = kinds.Pong
kind_of (opcodes.Control controls.Close) = kinds.Close

-- it has a mask, and no bit that nobody agreed on
abbrev pub is_sent_by_client : FrameHeader → Bool
is_sent_by_client h = is_some h.mask && (not h.rsv1 && (not h.rsv2 && not h.rsv3))

-- ping, pong and close are whole and short, text is not taken, and a message is not begun in another one
abbrev pub flaw_of_kind : ℕ → Bool → FrameHeader → ℕ → OpCode → Option Stop
flaw_of_kind most inside h n (opcodes.Control _) =
    if not h.is_final || nat_lt 125 n then Some stops.Protocol else None
flaw_of_kind most inside h n (opcodes.Data datas.Text) = Some stops.Text
flaw_of_kind most inside h n (opcodes.Data datas.Binary) =
    if inside then Some stops.Protocol else if nat_lt most n then Some stops.TooLong else None
flaw_of_kind most inside h n (opcodes.Data datas.Continue) =
    if not inside then Some stops.Protocol else if nat_lt most n then Some stops.TooLong else None

abbrev pub flaw_of : ℕ → Bool → FrameHeader → ℕ → Option Stop
flaw_of most inside h n =
    if not (is_sent_by_client h) then Some stops.Protocol else flaw_of_kind most inside h n h.opcode

-- a message goes on until its last frame
abbrev pub open_after : FrameHeader → OpCode → Bool → Bool
open_after h (opcodes.Data _) inside = not h.is_final
open_after h (opcodes.Control _) inside = inside

-- a ping takes the place of the one before
abbrev pub with_ping : Kind → FrameState → FrameState
with_ping kinds.Ping s = record s { ping = []; asks = false }
with_ping _ s = s

abbrev pub body_of : FrameHeader → ℕ → Body
body_of h n = record { kind = kind_of h.opcode; key = unwrap_or h.mask (0 ∷ 0 ∷ 0 ∷ 0 ∷ []); turn = 0; left = n }

-- the payload of a frame with this head is read now
abbrev pub entered : FrameHeader → ℕ → FrameState → FrameState
entered h n s = with_ping (kind_of h.opcode)
    (record s { head = []; body = Some (body_of h n); goes_on = open_after h h.opcode s.goes_on })

-- ---- the end of a frame

abbrev pub ended : Kind → FrameState → FrameState
ended kinds.Data s = s
ended kinds.Ping s = record s { asks = true }
ended kinds.Pong s = s
ended kinds.Close s = stopped stops.Closed s

-- a frame without more payload has ended
abbrev pub settled : Option Body → FrameState → FrameState
settled None s = s
settled (Some body) s = if body.left == 0 then ended body.kind (record s { body = None }) else s

-- ---- one byte

abbrev pub begun : Option Stop → FrameHeader → ℕ → FrameState → FrameState
begun (Some why) h n s = stopped why s
begun None h n s = let t = entered h n s in settled t.body t

abbrev pub by_head : Decoded (FrameHeader × ℕ) → FrameState → FrameState
by_head (Err _) s = stopped stops.Protocol s
by_head (Ok None) s = s
by_head (Ok (Some p)) s = begun (flaw_of s.most s.goes_on p.0 p.1) p.0 p.1 s

-- one more byte of a head, which has at most 14
abbrev pub headed : FrameState → ℕ → FrameState
headed s b = if nat_le 14 (length s.head) then stopped stops.Protocol s
    else by_head (decode_header (s.head ++ b ∷ [])) (record s { head = s.head ++ b ∷ [] })

abbrev pub unmasked : Body → ℕ → ℕ
unmasked body b = bit_xor b (slice_index body.key (body.turn % 4))

-- the payload of a ping is kept
abbrev pub kept_ping : Kind → List ℕ → ℕ → List ℕ
kept_ping kinds.Ping ping b = if nat_lt (length ping) 125 then ping ++ b ∷ [] else ping
kept_ping _ ping b = ping

-- the payload of a data frame is of the stream
abbrev pub said_of : Kind → ℕ → Option ℕ
said_of kinds.Data b = Some b
said_of _ b = None

abbrev pub next_body : Body → Body
next_body body = record body { turn = (body.turn % 4 + 1) % 4; left = body.left - 1 }

-- one more byte of a payload
abbrev pub in_body : Body → FrameState → ℕ → FrameState
in_body body s b = settled (Some (next_body body))
    (record s { body = Some (next_body body); ping = kept_ping body.kind s.ping (unmasked body b) })

abbrev pub step_at : Option Stop → Option Body → FrameState → ℕ → FrameState × Option ℕ
step_at (Some _) body s b = (s, None)
step_at None (Some body) s b = (in_body body s b, said_of body.kind (unmasked body b))
step_at None None s b = (headed s b, None)

abbrev pub step : FrameState → ℕ → FrameState × Option ℕ
step s b = step_at s.stop s.body s b

-- ---- many bytes

abbrev pub run : FrameState → List ℕ → FrameState × List ℕ
run s [] = (s, [])
run s (b ∷ bs) =
    let next = step s b in let rest = run next.0 bs in (rest.0, option_to_list next.1 ++ rest.1)
