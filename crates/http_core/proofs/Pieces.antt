-- Bytes that come in two pieces.
use Rattle.std.proofs.Common.{◌≡◌, ℕ, List, [], ◌∷◌, ◌++◌, refl, ap, append_assoc, ◌∙◌, sym}
use Rattle.std.specs.Prelude.{option_to_list}
use Rattle.http_core.specs.Frames.{FrameState, run, step}

pub state_after_both : (s : FrameState) (front back : List ℕ) →
    (run s (front ++ back)).0 ≡ (run (run s front).0 back).0
state_after_both s [] back = refl
state_after_both s (b ∷ front) back = state_after_both (step s b).0 front back

pub said_of_both : (s : FrameState) (front back : List ℕ) →
    (run s (front ++ back)).1 ≡ (run s front).1 ++ (run (run s front).0 back).1
said_of_both s [] back = refl
said_of_both s (b ∷ front) back =
    ap (λ said. option_to_list (step s b).1 ++ said) (said_of_both (step s b).0 front back)
    ∙ sym (append_assoc (option_to_list (step s b).1) _ _)
