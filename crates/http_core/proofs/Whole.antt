-- Whole frames give their payloads, in order.
use Rattle.std.proofs.Common.{◌≡◌, ℕ, suc, ◌+◌, ◌-◌, ◌%◌, ◌<◌, ◌≤◌, ◌^◌, Bool, true, false, List, [], ◌∷◌, ◌++◌}
use Rattle.std.proofs.Common.{length, get_or, refl, ap, sym, ◌∙◌, arith, inl, inr, append_assoc, append-nil}
use Rattle.std.proofs.Common.{length-append, bit_xor, subst}
use Rattle.std.proofs.Common.{Option, None, Some, Ok}
use Rattle.std.specs.Prelude.{option_to_list, not, All, nat_le, if◌then◌else◌}
use Rattle.std.specs.List.{AllByRecursion}
use Rattle.std.specs.Int.{w16, w64, to_be_bytes}
use Rattle.std.proofs.lemmas.Bool.Decides.{nat_tests, leb_tells}
use Rattle.std.proofs.lemmas.List.{get_or_past, get_or_append_left}
use Rattle.std.proofs.lemmas.List.Elements.{All-append, All-cons, All-from_recursion}
use Rattle.websocket.specs.declared.protocol.frame.header.FrameHeader.{FrameHeader}
use Rattle.websocket.specs.declared.protocol.frame.coding.OpCode.{OpCode}
use Rattle.websocket.specs.declared.protocol.frame.coding.OpCode.TheVariants as opcodes
use Rattle.websocket.specs.declared.protocol.frame.coding.Data.TheVariants as datas
use Rattle.websocket.specs.declared.protocol.frame.coding.Control.TheVariants as controls
use Rattle.websocket.specs.OpCode.{opcode_bits}
use Rattle.websocket.specs.Mask.{mask_from}
use Rattle.websocket.specs.FrameHeader.{encode_header, decode_header, extended_length}
use Rattle.websocket.specs.FrameHeader.{first_byte_of, flag_bits, length_bits, IsHeader, IsMask}
use Rattle.websocket.specs.Frame.{encode_frame}
use Rattle.websocket.proofs.DecodeLemmas.{eqb_false, ltb_false, ltb_true}
use Rattle.websocket.proofs.LengthLemmas.{ByteAtEach}
use Rattle.websocket.proofs.FrameHeaderLemmas.{length-encode_header, decode_header-encode_header}
use Rattle.websocket.proofs.CutHeaderLemmas.{decode_header_cut}
use Rattle.websocket.proofs.MaskLemmas.{mask_from-mask_from}
use Rattle.http_core.specs.declared.frames.Kind.{Kind}
use Rattle.http_core.specs.declared.frames.Kind.TheVariants as kinds
use Rattle.http_core.specs.declared.frames.Body.{Body}
use Rattle.http_core.specs.Frames.{FrameState, run, step, fresh, begun, ended, settled, said_of, kept_ping}
use Rattle.http_core.specs.Frames.{asked_in, flaw_of}
use Rattle.http_core.specs.SentFrames.{SentFrame, opcode_of, header_of, inside_after, encoded, said_by, said_in}
use Rattle.http_core.specs.SentFrames.{stream_of, ping_after, last_ping, Fits, MaySend}
use Rattle.http_core.proofs.Pieces.{state_after_both, said_of_both}

-- ---- states

abbrev at : ℕ → Bool → List ℕ → Bool → List ℕ → FrameState
at most inside ping asks head =
    record { most = most; head = head; body = None; goes_on = inside; ping = ping; asks = asks; stop = None }

abbrev filled : Body → FrameState → FrameState
filled body s = settled (Some body) (record s { body = Some body })

same_pair : {A B : Type 0} (p : A × B) (a : A) (b : B) → p.0 ≡ a → p.1 ≡ b → p ≡ (a, b)
same_pair p a b one two = rw (← one, ← two) refl

run_both : (s t : FrameState) (front back said : List ℕ) → run s front ≡ (t, said) →
    run s (front ++ back) ≡ ((run t back).0, said ++ (run t back).1)
run_both s t front back said is =
    same_pair _ _ _
    (state_after_both s front back ∙ ap (λ (p : FrameState × List ℕ). (run p.0 back).0) is)
    (said_of_both s front back ∙ ap (λ (p : FrameState × List ℕ). p.1 ++ (run p.0 back).1) is)

-- ---- payloads

abbrev kept_all : Kind → List ℕ → List ℕ → List ℕ
kept_all kind ping [] = ping
kept_all kind ping (p ∷ ps) = kept_all kind (kept_ping kind ping p) ps

said_none : (kind : Kind) → [] ≡ said_by kind []
said_none kinds.Data = refl
said_none kinds.Ping = refl
said_none kinds.Pong = refl
said_none kinds.Close = refl

said_more : (kind : Kind) (p : ℕ) (ps : List ℕ) →
    option_to_list (said_of kind p) ++ said_by kind ps ≡ said_by kind (p ∷ ps)
said_more kinds.Data p ps = refl
said_more kinds.Ping p ps = refl
said_more kinds.Pong p ps = refl
said_more kinds.Close p ps = refl

twice : (key : List ℕ) (i p : ℕ) → bit_xor (bit_xor p (get_or key (i % 4) 0)) (get_or key (i % 4) 0) ≡ p
unfolding mask_from
twice key i p = ap (λ ps. get_or ps 0 0) (mask_from-mask_from key i (p ∷ []))

-- of this payload some is still to come
abbrev reading : ℕ → Bool → List ℕ → Bool → Body → FrameState
reading most inside ping asks body =
    record { most = most; head = []; body = Some body; goes_on = inside; ping = ping; asks = asks; stop = None }

is_reading : (most : ℕ) (inside asks : Bool) (ping key : List ℕ) (kind : Kind) (turn left : ℕ) →
    filled (record { kind = kind; key = key; turn = turn; left = suc left }) (at most inside ping asks [])
    ≡ reading most inside ping asks (record { kind = kind; key = key; turn = turn; left = suc left })
is_reading most inside asks ping key kind turn left = rw (eqb_false (suc left) 0 (omega arith))

one_byte : (kind : Kind) (key : List ℕ) (turn left most : ℕ) (inside asks : Bool) (ping : List ℕ) (c q : ℕ)
    (cs said : List ℕ) (t : FrameState) → bit_xor c (get_or key (turn % 4) 0) ≡ q →
    run (filled (record { kind = kind; key = key; turn = (turn % 4 + 1) % 4; left = left })
    (at most inside (kept_ping kind ping q) asks [])) cs ≡ (t, said) →
    run (filled (record { kind = kind; key = key; turn = turn; left = suc left }) (at most inside ping asks []))
    (c ∷ cs)
    ≡ (t, option_to_list (said_of kind q) ++ said)
one_byte kind key turn left most inside asks ping c q cs said t plain rest =
    let body : Body = record { kind = kind; key = key; turn = turn; left = suc left } in
    let less : suc left - 1 ≡ left = omega arith in
    let next = λ (l r : ℕ). run (filled (record { kind = kind; key = key; turn = (turn % 4 + 1) % 4; left = l })
    (at most inside (kept_ping kind ping r) asks [])) cs in
    ap (λ s. run s (c ∷ cs)) (is_reading most inside asks ping key kind turn left)
    ∙ subst (λ r. run (reading most inside ping asks body) (c ∷ cs)
    ≡ ((next left r).0, option_to_list (said_of kind r) ++ (next left r).1)) plain
    (subst (λ l. run (reading most inside ping asks body) (c ∷ cs)
    ≡ (
      (next l (bit_xor c (get_or key (turn % 4) 0))).0,
      option_to_list (said_of kind (bit_xor c (get_or key (turn % 4) 0)))
          ++ (next l (bit_xor c (get_or key (turn % 4) 0))).1,
    )) less refl)
    ∙ ap (λ (p : FrameState × List ℕ). (p.0, option_to_list (said_of kind q) ++ p.1)) rest

body_run : (kind : Kind) (key : List ℕ) (turn i most : ℕ) (inside asks : Bool) (ping ps : List ℕ) →
    turn % 4 ≡ i % 4 →
    run (filled (record { kind = kind; key = key; turn = turn; left = length ps }) (at most inside ping asks []))
    (mask_from key i ps)
    ≡ (ended kind (at most inside (kept_all kind ping ps) asks []), said_by kind ps)
unfolding mask_from
body_run kind key turn i most inside asks ping [] same =
    ap (λ said. (ended kind (at most inside ping asks []), said)) (said_none kind)
body_run kind key turn i most inside asks ping (p ∷ ps) same =
    one_byte kind key turn (length ps) most inside asks ping _ p _ _ _
    (subst (λ j. bit_xor (bit_xor p (get_or key (i % 4) 0)) (get_or key j 0) ≡ p) (sym same) (twice key i p))
    (body_run kind key ((turn % 4 + 1) % 4) (i + 1) most inside asks (kept_ping kind ping p) ps (omega arith))
    ∙ ap (λ said. (ended kind (at most inside (kept_all kind ping (p ∷ ps)) asks []), said)) (said_more kind p ps)

-- ---- heads

abbrev Small : List ℕ → Type 0
Small = All (λ b. b < 256)

at_each : (bs : List ℕ) → Small bs → ByteAtEach bs
at_each bs small i =
    elim (leb_tells (length bs) i) [
      | inl p ↦ rw (get_or_past bs i 0 p.1) (omega arith)
      | inr p ↦ small i 0 p.1
    ]

front_small : (xs ys : List ℕ) → Small (xs ++ ys) → ByteAtEach xs
front_small xs ys small i =
    elim (leb_tells (length xs) i) [
      | inl p ↦ rw (get_or_past xs i 0 p.1) (omega arith)
      | inr p ↦ rw (← get_or_append_left xs ys 0 i p.1) (at_each (xs ++ ys) small i)
    ]

extended_small : (n : ℕ) → n < 2 ^ 63 → Small (extended_length n)
extended_small n low =
    elim (leb_tells 126 n) [
      | inr p ↦ rw (ltb_true n 126 p.1) (All-from_recursion _ [] tt)
      | inl p ↦ elim (leb_tells 65536 n) [
        | inr q ↦ rw (ltb_false n 126 p.1, ltb_true n 65536 q.1)
            (All-from_recursion (λ b. b < 256) (to_be_bytes w16 n) (omega arith, (omega arith, tt)))
        | inl q ↦ rw (ltb_false n 126 p.1, ltb_false n 65536 q.1)
            (All-from_recursion (λ b. b < 256) (to_be_bytes w64 n) (grind arith))
      ]
    ]

length_bits_small : (n : ℕ) → length_bits n < 128
length_bits_small n = grind (arith, nat_tests)

flag_small : (b : Bool) → flag_bits b 128 ≤ 128
flag_small true = omega arith
flag_small false = omega arith

opcode_small : (op : OpCode) → opcode_bits op < 16
opcode_small (opcodes.Data datas.Continue) = omega arith
opcode_small (opcodes.Data datas.Text) = omega arith
opcode_small (opcodes.Data datas.Binary) = omega arith
opcode_small (opcodes.Control controls.Close) = omega arith
opcode_small (opcodes.Control controls.Ping) = omega arith
opcode_small (opcodes.Control controls.Pong) = omega arith

header_small : (inside : Bool) (f : SentFrame) → IsHeader (header_of inside f) (length f.payload) →
    Small (encode_header (header_of inside f) (length f.payload))
unfolding encode_header
header_small inside f valid =
    let n = length f.payload in
    All-cons (λ b. b < 256) (first_byte_of (header_of inside f))
    ((128 + length_bits n) ∷ (extended_length n ++ f.key))
    (omega (arith, flag_small f.is_final, opcode_small (opcode_of f.kind inside)))
    (All-cons (λ b. b < 256) (128 + length_bits n) (extended_length n ++ f.key) (omega (arith, length_bits_small n))
    (All-append (λ b. b < 256) (extended_length n) f.key (extended_small n valid.top_bit_clear) valid.mask.1))

header_short : (h : FrameHeader) (n : ℕ) → IsMask h.mask → length (encode_header h n) ≤ 14
header_short h n valid = rw (length-encode_header h n valid) (grind (arith, nat_tests))

nat_le_false : (a b : ℕ) → b < a → nat_le a b ≡ false
nat_le_false a b h = grind (arith, nat_tests)

-- one more byte of a head that is not whole
one_more : (h : FrameHeader) (n most : ℕ) (inside asks : Bool) (ping xs ys : List ℕ) (x y : ℕ) → IsHeader h n →
    Small (encode_header h n) → xs ++ x ∷ y ∷ ys ≡ encode_header h n →
    step (at most inside ping asks xs) x ≡ (at most inside ping asks (xs ++ x ∷ []), None)
one_more h n most inside asks ping xs ys x y valid small is =
    let whole : (xs ++ x ∷ []) ++ y ∷ ys ≡ encode_header h n = append_assoc xs (x ∷ []) (y ∷ ys) ∙ is in
    let cut = decode_header_cut (xs ++ x ∷ []) (front_small (xs ++ x ∷ []) (y ∷ ys) (subst Small (sym whole) small))
    (h, n, y, ys, valid, whole) in
    rw (
      nat_le_false 14 (length xs) (omega (
        arith,
        header_short h n valid.mask,
        ap length is,
        length-append xs (x ∷ y ∷ ys),
      )),
      cut,
    )

last_of_head : (h : FrameHeader) (n most : ℕ) (inside asks : Bool) (ping xs : List ℕ) (x : ℕ) → IsHeader h n →
    xs ++ x ∷ [] ≡ encode_header h n →
    step (at most inside ping asks xs) x
    ≡ (begun (flaw_of most inside h n) h n (at most inside ping asks (xs ++ x ∷ [])), None)
last_of_head h n most inside asks ping xs x valid is =
    let read : decode_header (xs ++ x ∷ []) ≡ Ok (Some (h, n))
    = ap decode_header (is ∙ sym (append-nil (encode_header h n)))
    ∙ decode_header-encode_header h n [] valid in
    rw (
      nat_le_false 14 (length xs) (omega (
        arith,
        header_short h n valid.mask,
        ap length is,
        length-append xs (x ∷ []),
      )),
      read,
    )

run_one : (s t : FrameState) (b : ℕ) (bs : List ℕ) → step s b ≡ (t, None) → run s (b ∷ bs) ≡ run t bs
run_one s t b bs is = ap (λ (p : FrameState × Option ℕ).
    ((run p.0 bs).0, option_to_list p.1 ++ (run p.0 bs).1)) is

head_run : (h : FrameHeader) (n most : ℕ) (inside asks : Bool) (ping xs : List ℕ) (y : ℕ) (ys : List ℕ) →
    IsHeader h n → Small (encode_header h n) → xs ++ y ∷ ys ≡ encode_header h n →
    run (at most inside ping asks xs) (y ∷ ys)
    ≡ (begun (flaw_of most inside h n) h n (at most inside ping asks (encode_header h n)), [])
head_run h n most inside asks ping xs y [] valid small is =
    run_one (at most inside ping asks xs) _ y [] (last_of_head h n most inside asks ping xs y valid is)
    ∙ ap (λ head. (begun (flaw_of most inside h n) h n (at most inside ping asks head), [])) is
head_run h n most inside asks ping xs y (z ∷ ys) valid small is =
    run_one (at most inside ping asks xs) _ y (z ∷ ys) (one_more h n most inside asks ping xs ys y z valid small is)
    ∙ head_run h n most inside asks ping (xs ++ y ∷ []) z ys valid small
    (append_assoc xs (y ∷ []) (z ∷ ys) ∙ is)

whole_head : (h : FrameHeader) (n most : ℕ) (inside asks : Bool) (ping : List ℕ) → IsHeader h n →
    Small (encode_header h n) →
    run (at most inside ping asks []) (encode_header h n)
    ≡ (begun (flaw_of most inside h n) h n (at most inside ping asks (encode_header h n)), [])
unfolding encode_header
whole_head h n most inside asks ping valid small =
    head_run h n most inside asks ping [] _ _ valid small refl

-- ---- frames

flaw_free : (most : ℕ) (inside : Bool) (f : SentFrame) (kind : Kind) → f.kind ≡ kind → Fits most kind f →
    flaw_of most inside (header_of inside f) (length f.payload) ≡ None
flaw_free most true f kinds.Data is fits = rw (is, ltb_false most (length f.payload) fits)
flaw_free most false f kinds.Data is fits = rw (is, ltb_false most (length f.payload) fits)
flaw_free most inside f kinds.Ping is fits = rw (is, fits.0, ltb_false 125 (length f.payload) fits.1)
flaw_free most inside f kinds.Pong is fits = rw (is, fits.0, ltb_false 125 (length f.payload) fits.1)
flaw_free most inside f kinds.Close is fits = absurd fits

-- a short payload of a ping is kept whole
kept_whole : (ping ps : List ℕ) → length ping + length ps ≤ 125 → kept_all kinds.Ping ping ps ≡ ping ++ ps
kept_whole ping [] few = sym (append-nil ping)
kept_whole ping (p ∷ ps) few =
    rw (ltb_true (length ping) 125 (omega arith))
    (kept_whole (ping ++ p ∷ []) ps (omega (arith, length-append ping (p ∷ []))) ∙ append_assoc ping (p ∷ []) ps)

-- a payload of another frame is not kept
abbrev keeps_none : Kind → Bool
keeps_none kinds.Ping = false
keeps_none _ = true

kept_same : (kind : Kind) (ping ps : List ℕ) → keeps_none kind ≡ true → kept_all kind ping ps ≡ ping
kept_same kind ping [] other = refl
kept_same kinds.Data ping (p ∷ ps) other = kept_same kinds.Data ping ps refl
kept_same kinds.Pong ping (p ∷ ps) other = kept_same kinds.Pong ping ps refl
kept_same kinds.Close ping (p ∷ ps) other = kept_same kinds.Close ping ps refl
kept_same kinds.Ping ping (p ∷ ps) other = absurd (cc other)

-- the last ping, and whether it is to be answered, after a frame
abbrev text_after : Kind → List ℕ → List ℕ → List ℕ
text_after kinds.Ping payload ping = payload
text_after _ payload ping = ping

abbrev asks_after : Kind → Bool → Bool
asks_after kinds.Ping asks = true
asks_after _ asks = asks

entered_at : (most : ℕ) (inside asks : Bool) (ping head : List ℕ) (f : SentFrame) (kind : Kind) → f.kind ≡ kind →
    Fits most kind f →
    run (begun None (header_of inside f) (length f.payload) (at most inside ping asks head))
    (mask_from f.key 0 f.payload)
    ≡ (
      at most (inside_after kind f inside) (text_after kind f.payload ping) (asks_after kind asks) [],
      said_by kind f.payload,
    )
entered_at most inside asks ping head f kinds.Data is fits =
    rw is (body_run kinds.Data f.key 0 0 most (not f.is_final) asks ping f.payload refl
    ∙ ap (λ text. (at most (not f.is_final) text asks [], f.payload)) (kept_same kinds.Data ping f.payload refl))
entered_at most inside asks ping head f kinds.Ping is fits =
    rw is (body_run kinds.Ping f.key 0 0 most inside false [] f.payload refl
    ∙ ap (λ text. (at most inside text true [], [])) (kept_whole [] f.payload (omega (arith, fits.1))))
entered_at most inside asks ping head f kinds.Pong is fits =
    rw is (body_run kinds.Pong f.key 0 0 most inside asks ping f.payload refl
    ∙ ap (λ text. (at most inside text asks [], [])) (kept_same kinds.Pong ping f.payload refl))
entered_at most inside asks ping head f kinds.Close is fits = absurd fits

frame_run : (most : ℕ) (inside asks : Bool) (ping : List ℕ) (f : SentFrame) → MaySend most f →
    run (at most inside ping asks []) (encode_frame (header_of inside f) f.payload)
    ≡ (
      at most (inside_after f.kind f inside) (text_after f.kind f.payload ping) (asks_after f.kind asks) [],
      said_by f.kind f.payload,
    )
frame_run most inside asks ping f valid =
    let h = header_of inside f in
    let n = length f.payload in
    let sent : IsHeader h n = record { mask = valid.key; top_bit_clear = valid.short } in
    let head = encode_header h n in
    run_both (at most inside ping asks []) (begun None h n (at most inside ping asks head)) head
    (mask_from f.key 0 f.payload) []
    (whole_head h n most inside asks ping sent (header_small inside f sent)
    ∙ ap (λ flaw. (begun flaw h n (at most inside ping asks head), []))
    (flaw_free most inside f f.kind refl valid.fits))
    ∙ entered_at most inside asks ping head f f.kind refl valid.fits

abbrev all_after : ℕ → Bool → List ℕ → Bool → List SentFrame → FrameState
all_after most inside ping asks [] = at most inside ping asks []
all_after most inside ping asks (f ∷ fs) =
    all_after most (inside_after f.kind f inside) (text_after f.kind f.payload ping) (asks_after f.kind asks) fs

frames_run : (most : ℕ) (inside asks : Bool) (ping : List ℕ) (fs : List SentFrame) → AllByRecursion (MaySend most) fs →
    run (at most inside ping asks []) (encoded inside fs)
    ≡ (all_after most inside ping asks fs, stream_of fs)
frames_run most inside asks ping [] valid = refl
frames_run most inside asks ping (f ∷ fs) valid =
    run_both _ _ (encode_frame (header_of inside f) f.payload) (encoded (inside_after f.kind f inside) fs) _
    (frame_run most inside asks ping f valid.0)
    ∙ ap (λ (p : FrameState × List ℕ). (p.0, said_in f ++ p.1))
    (frames_run most (inside_after f.kind f inside) (asks_after f.kind asks) (text_after f.kind f.payload ping) fs
    valid.1)

never_stops : (most : ℕ) (inside asks : Bool) (ping : List ℕ) (fs : List SentFrame) →
    (all_after most inside ping asks fs).stop ≡ None
never_stops most inside asks ping [] = refl
never_stops most inside asks ping (f ∷ fs) =
    never_stops most (inside_after f.kind f inside) (asks_after f.kind asks) (text_after f.kind f.payload ping) fs

one_ping : (kind : Kind) (payload ping : List ℕ) (asks : Bool) →
    (if asks_after kind asks then Some (text_after kind payload ping) else None)
    ≡ ping_after kind payload (if asks then Some ping else None)
one_ping kinds.Data payload ping asks = refl
one_ping kinds.Ping payload ping asks = refl
one_ping kinds.Pong payload ping asks = refl
one_ping kinds.Close payload ping asks = refl

asks_last : (most : ℕ) (inside asks : Bool) (ping : List ℕ) (fs : List SentFrame) →
    asked_in (all_after most inside ping asks fs) ≡ last_ping (if asks then Some ping else None) fs
asks_last most inside asks ping [] = refl
asks_last most inside asks ping (f ∷ fs) =
    asks_last most (inside_after f.kind f inside) (asks_after f.kind asks) (text_after f.kind f.payload ping) fs
    ∙ ap (λ before. last_ping before fs) (one_ping f.kind f.payload ping asks)

-- ---- the law

pub in_order : (most : ℕ) (frames : List SentFrame) → AllByRecursion (MaySend most) frames →
    (run (fresh most) (encoded false frames)).1 ≡ stream_of frames
in_order most frames valid =
    ap (λ (p : FrameState × List ℕ). p.1) (frames_run most false false [] frames valid)

pub no_stop : (most : ℕ) (frames : List SentFrame) → AllByRecursion (MaySend most) frames →
    (run (fresh most) (encoded false frames)).0.stop ≡ None
no_stop most frames valid =
    ap (λ (p : FrameState × List ℕ). p.0.stop) (frames_run most false false [] frames valid)
    ∙ never_stops most false false [] frames

pub last_asked : (most : ℕ) (frames : List SentFrame) → AllByRecursion (MaySend most) frames →
    asked_in (run (fresh most) (encoded false frames)).0 ≡ last_ping None frames
last_asked most frames valid =
    ap (λ (p : FrameState × List ℕ). asked_in p.0) (frames_run most false false [] frames valid)
    ∙ asks_last most false false [] frames
