-- Why a call left off: of a greeting by its last read or write, of a session by what `session_core` says of it.
--
-- How a read or a write leaves off is read from what it did: where it waits it moved no byte, so what was due of our
-- hello before is due after; where more is to be done bytes were moved, or it was interrupted, or the input has ended.
-- Of two calls it is the second's, and a sum is no less than its second part.
use Rattle.std.proofs.Common.{◌≡◌, ℕ, Bool, ◌+◌, ◌<◌, ◌≤◌, true, false, List, ◌++◌, length, take}
use Rattle.std.proofs.Common.{OnOk}
use Rattle.std.proofs.Common.{Result, Ok, Err, Box, Global, append-nil, inl, inr, refl, sym, ap, ◌∙◌, subst, arith}
use Rattle.std.specs.Prelude.{◌||◌}
use Rattle.std.specs.Box.{with_value}
use Rattle.definitions.specs.Fingerprints.{Lanes}
use Rattle.definitions.specs.Fingerprints as prints
use Rattle.definitions.specs.Wire.{Profile, two_lane_profile, counted_profile, compact_profile}
use Rattle.session_core.specs.Sessions.{SessionState}
use Rattle.session_core.specs.Links.{Stands, Fails, pause_at, both_of}
use Rattle.session_core.specs.Overs.{EndsBy}
use Rattle.session_core.specs.Polls.{ReadsSo, WritesSo}
use Rattle.session_core.specs.declared.fault.LinkFault.{LinkFault}
use Rattle.session_core.specs.declared.fault.LinkFault.TheVariants as faults
use Rattle.session_core.specs.declared.polled.Last.{Last}
use Rattle.session_core.specs.declared.polled.Last.TheVariants as lasts
use Rattle.session_core.specs.declared.pumped.Pause.{Pause}
use Rattle.session_core.specs.declared.pumped.Pause.TheVariants as pauses
use Rattle.session_core.specs.declared.pumped.Pumped.{Pumped}
use Rattle.hub_core.specs.Greetings.{GreetingState, IsGreeting}
use Rattle.hub_core.specs.Firsts.{is_due}
use Rattle.hub_core.specs.Steps.{EndsGreeting, LeavesAt, LeavesGreeting, RestsGreeting, is_ready}
use Rattle.hub_core.specs.Peers.{EndsPhase, LeavesOff, over_in}
use Rattle.hub_core.specs.declared.phase.Phase.{Phase}
use Rattle.hub_core.specs.declared.phase.Phase.TheVariants as phases

-- ---- one read or write of a greeting

or-right : (a b : Bool) → (a || b) ≡ false → b ≡ false
or-right true b is = absurd (cc)
or-right false b is = is

-- where a read gave no byte, and the input has not ended, the session is no more to be opened than before
pub still-waits : (n : ℕ) (room : List ℕ) (g h : GreetingState) → n ≡ 0 → is_ready g ≡ false →
    h.came ≡ g.came ++ take n room → h.over ≡ false → is_ready h ≡ false
still-waits n room g h none waits came over =
    let same : h.came ≡ g.came = came ∙ ap (λ (m : ℕ). g.came ++ take m room) none ∙ append-nil g.came in
    ap (λ (b : Bool). b || is_due h.came) over ∙ ap is_due same ∙ or-right g.over (is_due g.came) waits

-- so many bytes had come before, and no byte of our hello was due
pub heard-leaves : (n before : ℕ) (r w : Last) (g : GreetingState) (pause : Pause) → ReadsSo n r →
    length g.came ≡ before + n → (4 ≤ before → g.said ≡ 4) → (r ≡ lasts.Ended → g.over ≡ true) →
    (r ≡ lasts.Waits → is_ready g ≡ false) → pause_at r faults.Read ≡ Ok pause → LeavesAt pause g r w n 0
heard-leaves n before lasts.Unknown w g pause reads long written over idle is = absurd reads
heard-leaves n before lasts.Moved w g pause reads long written over idle is =
    let more : pauses.More ≡ pause = cc in
    subst (λ (p : Pause). LeavesAt p g lasts.Moved w n 0) more (inl (omega (arith, reads)))
heard-leaves n before lasts.Waits w g pause reads long written over idle is =
    let waits : pauses.Waits ≡ pause = cc in
    let none : 4 ≤ length g.came → g.said ≡ 4 = λ four. written (omega (arith, long, reads, four)) in
    subst (λ (p : Pause). LeavesAt p g lasts.Waits w n 0) waits (inr (none, idle refl, refl))
heard-leaves n before lasts.Interrupted w g pause reads long written over idle is =
    let more : pauses.More ≡ pause = cc in
    subst (λ (p : Pause). LeavesAt p g lasts.Interrupted w n 0) more (inr (inl refl))
heard-leaves n before lasts.Ended w g pause reads long written over idle is =
    let more : pauses.More ≡ pause = cc in
    subst (λ (p : Pause). LeavesAt p g lasts.Ended w n 0) more (inr (inr (inr (refl, over refl))))
heard-leaves n before lasts.Failed w g pause reads long written over idle is = absurd (cc)

pub said-leaves : (n before : ℕ) (r w : Last) (g : GreetingState) (pause : Pause) → WritesSo n w →
    4 ≤ length g.came → before < 4 → g.said ≡ before + n → pause_at w faults.Write ≡ Ok pause → LeavesAt pause g r w 0 n
said-leaves n before r lasts.Unknown g pause writes four some said is = absurd writes
said-leaves n before r lasts.Moved g pause writes four some said is =
    let more : pauses.More ≡ pause = cc in
    subst (λ (p : Pause). LeavesAt p g r lasts.Moved 0 n) more (inl (omega (arith, writes)))
said-leaves n before r lasts.Waits g pause writes four some said is =
    let waits : pauses.Waits ≡ pause = cc in
    let few : g.said < 4 = omega (arith, some, said, writes) in
    subst (λ (p : Pause). LeavesAt p g r lasts.Waits 0 n) waits (inl (four, few, refl))
said-leaves n before r lasts.Interrupted g pause writes four some said is =
    let more : pauses.More ≡ pause = cc in
    subst (λ (p : Pause). LeavesAt p g r lasts.Interrupted 0 n) more (inr (inr (inl refl)))
said-leaves n before r lasts.Ended g pause writes four some said is = absurd writes
said-leaves n before r lasts.Failed g pause writes four some said is = absurd (cc)

pub heard-fails : (r w : Last) (f : LinkFault) → pause_at r faults.Read ≡ Err f → Fails {X = Pumped} (Err f) r w
heard-fails lasts.Unknown w f is = absurd (cc)
heard-fails lasts.Moved w f is = absurd (cc)
heard-fails lasts.Waits w f is = absurd (cc)
heard-fails lasts.Interrupted w f is = absurd (cc)
heard-fails lasts.Ended w f is = absurd (cc)
heard-fails lasts.Failed w f is =
    let read : faults.Read ≡ f = cc in
    subst (λ (x : LinkFault). Fails {X = Pumped} (Err x) lasts.Failed w) read refl

pub said-fails : (r w : Last) (f : LinkFault) → pause_at w faults.Write ≡ Err f → Fails {X = Pumped} (Err f) r w
said-fails r lasts.Unknown f is = absurd (cc)
said-fails r lasts.Moved f is = absurd (cc)
said-fails r lasts.Waits f is = absurd (cc)
said-fails r lasts.Interrupted f is = absurd (cc)
said-fails r lasts.Ended f is = absurd (cc)
said-fails r lasts.Failed f is =
    let write : faults.Write ≡ f = cc in
    subst (λ (x : LinkFault). Fails {X = Pumped} (Err x) r lasts.Failed) write refl

-- the session is asked for
pub opens-leaves : (g : GreetingState) (r w : Last) → IsGreeting g → (4 ≤ length g.came → 4 ≤ g.said) →
    is_ready g ≡ true → LeavesAt pauses.Opens g r w 0 0
opens-leaves g r w is written ready = (ready, λ four. omega (arith, written four, is.few))

pub ready-over : (g : GreetingState) → g.over ≡ true → is_ready g ≡ true
ready-over g over = ap (λ (b : Bool). b || is_due g.came) over

pub ready-due : (g : GreetingState) → is_due g.came ≡ true → is_ready g ≡ true
ready-due g due = by g.over where
  by : (b : Bool) → (b || is_due g.came) ≡ true
  by true = refl
  by false = due

-- ---- of two calls it is the second's

pub leaves-both : (s t : Pumped) (g : GreetingState) (r w : Last) → LeavesGreeting g r w (Ok t) →
    LeavesGreeting g r w (Ok (both_of s t))
leaves-both s t g r w leaves = by t.pause leaves where
  by : (p : Pause) → LeavesAt p g r w t.read t.written →
      LeavesAt p g r w (both_of s t).read (both_of s t).written
  by pauses.Waits l = l
  by pauses.Opens l = l
  by pauses.Over l = l
  by pauses.More (inl some) = inl (omega (arith, some))
  by pauses.More (inr other) = inr other

-- ---- a session's

pub plain-leaves : (q : Result Pumped LinkFault) (b : Box (SessionState Lanes) Global) (y : SessionState Lanes)
    (r w : Last) → Stands two_lane_profile q y r w → Fails q r w → LeavesOff (phases.Plain (with_value b y)) r w q
plain-leaves (Ok p) b y r w stands fails = stands
plain-leaves (Err f) b y r w stands fails = fails

pub counted-leaves : (q : Result Pumped LinkFault) (b : Box (SessionState prints.Counted) Global)
    (y : SessionState prints.Counted) (r w : Last) → Stands counted_profile q y r w → Fails q r w →
    LeavesOff (phases.Counted (with_value b y)) r w q
counted-leaves (Ok p) b y r w stands fails = stands
counted-leaves (Err f) b y r w stands fails = fails

pub compact-leaves : (q : Result Pumped LinkFault) (b : Box (SessionState prints.Print) Global)
    (y : SessionState prints.Print) (r w : Last) → Stands compact_profile q y r w → Fails q r w →
    LeavesOff (phases.Compact (with_value b y)) r w q
compact-leaves (Ok p) b y r w stands fails = stands
compact-leaves (Err f) b y r w stands fails = fails

-- ---- that an input is over

pub ends-greeting : (f g h : GreetingState) (mid last : Last) → EndsGreeting f g mid → EndsGreeting g h last →
    RestsGreeting g h mid last → EndsGreeting f h last
ends-greeting f g h mid last first second rests = λ is. elim (second is) [
  | inr here ↦ inr here
  | inl before ↦ elim (first before) [
    | inl start ↦ inl start
    | inr end ↦ inr ((rests before).1 ∙ end)
  ]
]

pub rests-greeting : (f g h : GreetingState) (before mid last : Last) → RestsGreeting f g before mid →
    RestsGreeting g h mid last → RestsGreeting f h before last
rests-greeting f g h before mid last first second = λ over.
    let one = first over in
    let two = second one.0 in
    (two.0, two.1 ∙ one.1)

pub plain-ends : (q : Result Pumped LinkFault) (old : Phase) (b : Box (SessionState Lanes) Global)
    (x y : SessionState Lanes) (last : Last) → old ≡ phases.Plain b → x ≡ b.value → OnOk q (EndsBy x y last) →
    OnOk q (EndsPhase old (phases.Plain (with_value b y)) last)
plain-ends (Ok p) old b x y last is same ends = λ over. elim (ends over) [
  | inl before ↦ inl (subst (λ o. over_in o ≡ true) (sym is)
      (subst (λ (z : SessionState Lanes). z.over ≡ true) same before))
  | inr end ↦ inr end.0
]
plain-ends (Err f) old b x y last is same ends = tt

pub counted-ends : (q : Result Pumped LinkFault) (old : Phase) (b : Box (SessionState prints.Counted) Global)
    (x y : SessionState prints.Counted) (last : Last) → old ≡ phases.Counted b → x ≡ b.value →
    OnOk q (EndsBy x y last) → OnOk q (EndsPhase old (phases.Counted (with_value b y)) last)
counted-ends (Ok p) old b x y last is same ends = λ over. elim (ends over) [
  | inl before ↦ inl (subst (λ o. over_in o ≡ true) (sym is)
      (subst (λ (z : SessionState prints.Counted). z.over ≡ true) same before))
  | inr end ↦ inr end.0
]
counted-ends (Err f) old b x y last is same ends = tt

pub compact-ends : (q : Result Pumped LinkFault) (old : Phase) (b : Box (SessionState prints.Print) Global)
    (x y : SessionState prints.Print) (last : Last) → old ≡ phases.Compact b → x ≡ b.value →
    OnOk q (EndsBy x y last) → OnOk q (EndsPhase old (phases.Compact (with_value b y)) last)
compact-ends (Ok p) old b x y last is same ends = λ over. elim (ends over) [
  | inl before ↦ inl (subst (λ o. over_in o ≡ true) (sym is)
      (subst (λ (z : SessionState prints.Print). z.over ≡ true) same before))
  | inr end ↦ inr end.0
]
compact-ends (Err f) old b x y last is same ends = tt
