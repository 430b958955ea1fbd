-- The windows of a turn: each of them leaves fewer bytes, so as many as there are bytes are enough.
use Rattle.std.proofs.Common.{◌≡◌, ℕ, zero, suc, ◌-◌, ◌<◌, ◌≤◌, true, false, sym, ◌∙◌, arith}
use Rattle.std.proofs.lemmas.Bool.{cond-true, cond-false}
use Rattle.session_core.specs.Sizes.{plus, times}
use Rattle.sim_core.specs.declared.line.Line.{Line}
use Rattle.sim_core.specs.Lines.{round_trip, waits, ends_turn, turn_from}

pub turn-goes : (line : Line) (n window left micros : ℕ) (all : ℕ × ℕ) → waits line window left ≡ true →
    window < left → 0 < window → left ≤ n → turn_from line n window left micros ≡ all →
    (m : ℕ) × (left - window ≤ m)
    × (turn_from line m (times window 2) (left - window) (plus micros (round_trip line)) ≡ all)
turn-goes line zero window left micros all goes more some few is = absurd (omega arith)
turn-goes line (suc n) window left micros all goes more some few is = (
  n,
  omega arith,
  sym (cond-true (waits line window left) (turn_from line n (times window 2) (left - window)
      (plus micros (round_trip line))) (ends_turn line window left micros) goes) ∙ is,
)

pub turn-ends : (line : Line) (n window left micros : ℕ) (all : ℕ × ℕ) → waits line window left ≡ false →
    turn_from line n window left micros ≡ all → ends_turn line window left micros ≡ all
turn-ends line zero window left micros all stops is = is
turn-ends line (suc n) window left micros all stops is =
    sym (cond-false (waits line window left) (turn_from line n (times window 2) (left - window)
    (plus micros (round_trip line))) (ends_turn line window left micros) stops) ∙ is
