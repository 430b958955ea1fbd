use Rattle.std.proofs.Common.{arith, refl, sym, ◌∙◌, ap, ◌≡◌, ◌==◌, ℕ, List, Bool, true, false, length, take, get_or}
use Rattle.std.specs.List.{position_or_len}
use Rattle.std.proofs.lemmas.List.{take_all}
use Rattle.std.proofs.lemmas.List.Sums.{position_or_len_is}
use Rattle.memchr.specs.Find.{Passes, is_byte, Nowhere, NoneBefore}
use Rattle.http_core.specs.Requests.{before_byte}
use Rattle.http_core.proofs.requests.before_byte.Goals as goal

is_no : (b : Bool) → (b ≡ true → ⊥) → b ≡ false
is_no true not_true = absurd (not_true refl)
is_no false not_true = refl

nowhere : (byte : ℕ) (text : List ℕ) →
    Nowhere (Passes (is_byte byte) text) 0 (length text) → text ≡ before_byte byte text
nowhere byte text none =
    let place : position_or_len (λ b. b == byte) text ≡ length text
    = position_or_len_is (λ b. b == byte) text (length text) 0 (omega arith)
    (λ k below. is_no (get_or text k 0 == byte) (none k (omega arith) below)) (λ less. absurd (omega (arith, less))) in
    sym (ap (λ n. take n text) place ∙ take_all (length text) text (omega arith))

first : (byte : ℕ) (text : List ℕ) (end : ℕ) → NoneBefore (Passes (is_byte byte) text) 0 (length text) end →
    Passes (is_byte byte) text end → take end text ≡ before_byte byte text
first byte text end before is =
    let place : position_or_len (λ b. b == byte) text ≡ end
    = position_or_len_is (λ b. b == byte) text end 0 (let high = before.high in omega arith)
    (λ k below. is_no (get_or text k 0 == byte) (before.before k (omega arith) below)) (λ _. is) in
    ap (λ n. take n text) (sym place)

pub returns-in-None : goal.returns-in-None
returns-in-None c = nowhere c.args.byte c.args.bytes.now (rw c.in-None.is at c.memchr.ensures)

pub returns-in-Some : goal.returns-in-Some
returns-in-Some c =
    let found = rw c.in-Some.is at c.memchr.ensures in
    first c.args.byte c.args.bytes.now c.in-Some.end found.0 found.1
