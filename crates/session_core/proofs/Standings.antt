-- What follows from whether a session goes on: while it does, it hears all so far and no fault frame is due; where it
-- does not, it has stopped.
use Rattle.std.proofs.Common.{◌≡◌, ℕ, Bool, true, false, List, [], ◌++◌, Option, Some, refl, sym, ap, ◌∙◌, append_assoc}
use Rattle.definitions.specs.Streams.{Standing, Before_hello, In_message, Meaning_over, Faulted}
use Rattle.definitions.specs.Hearing.{Hearing, Goes_on}
use Rattle.laws.specs.Hearing.{has_stopped}
use Rattle.wire_core.specs.Feeds.{fault_at}
use Rattle.ends_core.specs.EndStates.{EndState}
use Rattle.session_core.specs.declared.state.State.{State}
use Rattle.session_core.specs.declared.state.State.TheVariants as states
use Rattle.session_core.specs.Sessions.{is_open, frame_of, frame_due, hearing_at}

pub closed-stops : {F : Type 0} (x : State) (h : EndState F) → is_open x ≡ false → has_stopped (hearing_at x h) ≡ true
closed-stops states.Open h closed = absurd cc
closed-stops states.Ended h closed = refl
closed-stops (states.Refused code) h closed = refl
closed-stops (states.PeerRefused code) h closed = refl

-- while it goes on no fault frame is due
pub no-frame : (x : State) (told : Bool) → is_open x ≡ true → frame_due x told ≡ []
no-frame states.Open true goes = refl
no-frame states.Open false goes = refl
no-frame states.Ended told goes = absurd cc
no-frame (states.Refused code) told goes = absurd cc
no-frame (states.PeerRefused code) told goes = absurd cc

pub no-frame-yet : (x : State) → is_open x ≡ true → frame_of x ≡ []
no-frame-yet states.Open goes = refl
no-frame-yet states.Ended goes = absurd cc
no-frame-yet (states.Refused code) goes = absurd cc
no-frame-yet (states.PeerRefused code) goes = absurd cc

pub open-hears : {F : Type 0} (x : State) (h : EndState F) → is_open x ≡ true → hearing_at x h ≡ Goes_on h.end h.taken
open-hears states.Open h goes = refl
open-hears states.Ended h goes = absurd cc
open-hears (states.Refused code) h goes = absurd cc
open-hears (states.PeerRefused code) h goes = absurd cc

pub fault-is : (s : Standing) (code : ℕ) → Some code ≡ fault_at s → s ≡ Faulted code
fault-is Before_hello code is = absurd cc
fault-is (In_message parts) code is = absurd cc
fault-is Meaning_over code is = absurd cc
fault-is (Faulted fault) code is = let same : code ≡ fault = cc in ap Faulted (sym same)

-- three texts after one another
pub regroup : (a b c d : List ℕ) → (a ++ b) ++ (c ++ d) ≡ (a ++ (b ++ c)) ++ d
regroup a b c d =
    append_assoc a b (c ++ d) ∙ ap (λ (l : List ℕ). a ++ l) (sym (append_assoc b c d))
    ∙ sym (append_assoc a (b ++ c) d)
