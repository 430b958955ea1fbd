-- Plans that are timed.
use Rattle.std.proofs.Common.{◌≡◌, ◌⊎◌, inl, inr, ℕ, ◌∙◌, List, Option, Some, None, sum, sym, subst}
use Rattle.std.specs.Prelude.{IfSome, string_bytes}
use Rattle.definitions.specs.Fingerprints.{two_lanes}
use Rattle.definitions.specs.Wire.{two_lane_profile}
use Rattle.strategy_check.specs.Checked.{Checked}
use Rattle.sim_core.specs.Costs.{CostsSample}
use Rattle.sim_core.specs.Lines.{line_micros}
use Rattle.sim_core.specs.Plans.{IsAcceptedText, IsPlanned, IsTimed}
use Rattle.sim_core.specs.declared.line.Line.{Line}
use Rattle.sim_core.specs.declared.planning.Planned.{Planned}
use Rattle.sim_core.specs.declared.sample.Sample.{Sample}

pub is-timed : (line : Line) (sample : Sample) (p : Planned) (a : Checked) (text : List ℕ) (turns : List ℕ)
    (messages bytes : ℕ) → IsAcceptedText text a → string_bytes p.text ≡ text →
    CostsSample two_lanes two_lane_profile a sample turns messages → p.messages ≡ messages → p.bytes ≡ bytes →
    bytes ≡ sum turns → p.micros ≡ line_micros line turns → IsTimed line sample p
is-timed line sample p a text turns messages bytes accepted same costs said count all time = record {
  planned = record {
    a = a;
    turns = turns;
    has_text = subst (λ l. IsAcceptedText l a) (sym same) accepted;
    costs = subst (λ n. CostsSample two_lanes two_lane_profile a sample turns n) (sym said) costs;
    all = count ∙ all;
  };
  time = time;
}

pub planned-if-timed : (line : Line) (sample : Sample) (o : Option Planned) → IfSome o (IsTimed line sample) →
    IfSome o (IsPlanned sample)
planned-if-timed line sample None timed = tt
planned-if-timed line sample (Some p) timed = timed.planned

pub one-of-two : (P : Planned → Type 0) (o best other : Option Planned) → (o ≡ best) ⊎ (o ≡ other) → IfSome best P →
    IfSome other P → IfSome o P
one-of-two P o best other (inl is) one two = subst (λ q. IfSome q P) (sym is) one
one-of-two P o best other (inr is) one two = subst (λ q. IfSome q P) (sym is) two
