-- The bytes of the stream do not hang on the last ping, nor on whether it is answered: states that differ in these
-- alone give the same bytes, and differ in these alone after each one.
use Rattle.std.proofs.Common.{◌≡◌, ℕ, Bool, true, false, List, [], ◌∷◌, ◌++◌, length, refl, ap, ◌∙◌}
use Rattle.std.proofs.Common.{Option, None, Some, Ok, Err}
use Rattle.std.specs.Prelude.{◌==◌, option_to_list, nat_le, if◌then◌else◌}
use Rattle.websocket.specs.declared.protocol.frame.header.FrameHeader.{FrameHeader}
use Rattle.websocket.specs.FrameHeader.{Decoded, decode_header}
use Rattle.http_core.specs.declared.frames.Stop.{Stop}
use Rattle.http_core.specs.declared.frames.Kind.{Kind}
use Rattle.http_core.specs.declared.frames.Kind.TheVariants as kinds
use Rattle.http_core.specs.declared.frames.Body.{Body}
use Rattle.http_core.specs.Frames.{FrameState, run, step, step_at, settled, ended, begun, by_head, with_ping, flaw_of}
use Rattle.http_core.specs.Frames.{next_body, kept_ping, unmasked, kind_of, body_of, open_after}

abbrev other : List ℕ → Bool → FrameState → FrameState
other ping asks s = record s { ping = ping; asks = asks }

abbrev But : FrameState → FrameState → Type 0
But t s = (ping : List ℕ) × (asks : Bool) × (t ≡ other ping asks s)

either : (test : Bool) (t s t' s' : FrameState) → But t s → But t' s' →
    But (if test then t else t') (if test then s else s')
either true t s t' s' one two = one
either false t s t' s' one two = two

ended_but : (kind : Kind) (ping : List ℕ) (asks : Bool) (s : FrameState) →
    But (ended kind (other ping asks s)) (ended kind s)
ended_but kinds.Data ping asks s = (ping, asks, refl)
ended_but kinds.Ping ping asks s = (ping, true, refl)
ended_but kinds.Pong ping asks s = (ping, asks, refl)
ended_but kinds.Close ping asks s = (ping, asks, refl)

settled_but : (body : Body) (ping : List ℕ) (asks : Bool) (s : FrameState) →
    But (settled (Some body) (other ping asks s)) (settled (Some body) s)
settled_but body ping asks s =
    either (body.left == 0) _ _ _ _ (ended_but body.kind ping asks (record s { body = None })) (ping, asks, refl)

abbrev with_body : Body → FrameState → FrameState
with_body body s = record s { body = Some body }

abbrev all_settled : FrameState → FrameState
all_settled s = settled s.body s

entered_but : (kind : Kind) (body : Body) (ping : List ℕ) (asks : Bool) (s : FrameState) →
    But (all_settled (with_ping kind (other ping asks (with_body body s))))
    (all_settled (with_ping kind (with_body body s)))
entered_but kinds.Data body ping asks s = settled_but body ping asks (with_body body s)
entered_but kinds.Ping body ping asks s = settled_but body [] false (other [] false (with_body body s))
entered_but kinds.Pong body ping asks s = settled_but body ping asks (with_body body s)
entered_but kinds.Close body ping asks s = settled_but body ping asks (with_body body s)

begun_but : (why : Option Stop) (h : FrameHeader) (n : ℕ) (ping : List ℕ) (asks : Bool) (s : FrameState) →
    But (begun why h n (other ping asks s)) (begun why h n s)
begun_but (Some why) h n ping asks s = (ping, asks, refl)
begun_but None h n ping asks s = entered_but (kind_of h.opcode) (body_of h n) ping asks
    (record s { head = []; goes_on = open_after h h.opcode s.goes_on })

by_head_but : (head : Decoded (FrameHeader × ℕ)) (ping : List ℕ) (asks : Bool) (s : FrameState) →
    But (by_head head (other ping asks s)) (by_head head s)
by_head_but (Err _) ping asks s = (ping, asks, refl)
by_head_but (Ok None) ping asks s = (ping, asks, refl)
by_head_but (Ok (Some p)) ping asks s = begun_but (flaw_of s.most s.goes_on p.0 p.1) p.0 p.1 ping asks s

state_but : (stop : Option Stop) (body : Option Body) (ping : List ℕ) (asks : Bool) (s : FrameState) (b : ℕ) →
    But (step_at stop body (other ping asks s) b).0 (step_at stop body s b).0
state_but (Some _) body ping asks s b = (ping, asks, refl)
state_but None (Some body) ping asks s b =
    settled_but (next_body body) (kept_ping body.kind ping (unmasked body b)) asks
    (record s { body = Some (next_body body); ping = kept_ping body.kind s.ping (unmasked body b) })
state_but None None ping asks s b =
    either (nat_le 14 (length s.head)) _ _ _ _ (ping, asks, refl)
    (by_head_but (decode_header (s.head ++ b ∷ [])) ping asks (record s { head = s.head ++ b ∷ [] }))

same_byte : (stop : Option Stop) (body : Option Body) (ping : List ℕ) (asks : Bool) (s : FrameState) (b : ℕ) →
    (step_at stop body (other ping asks s) b).1 ≡ (step_at stop body s b).1
same_byte (Some _) body ping asks s b = refl
same_byte None (Some body) ping asks s b = refl
same_byte None None ping asks s b = refl

same_run : (t s : FrameState) → But t s → (bytes : List ℕ) → (run t bytes).1 ≡ (run s bytes).1
same_run t s but [] = refl
same_run t s (ping, asks, is) (b ∷ bytes) = rw (is)
    (ap (λ said. option_to_list said ++ (run (step (other ping asks s) b).0 bytes).1)
    (same_byte s.stop s.body ping asks s b)
    ∙ ap (λ rest. option_to_list (step s b).1 ++ rest)
    (same_run (step (other ping asks s) b).0 (step s b).0 (state_but s.stop s.body ping asks s b) bytes))

pub same_stream : (s : FrameState) (bytes : List ℕ) → (run (record s { asks = false }) bytes).1 ≡ (run s bytes).1
same_stream s bytes = same_run _ s (s.ping, false, refl) bytes
