use Rattle.std.proofs.Common.{◌≡◌, ℕ, ◌++◌, ◌+◌, List, take, length, ap, ◌∙◌}
use Rattle.std.proofs.Math.Seq.{take-append_seam, take-append-add}
use Rattle.compact_core.proofs.bound.joined.Goals as goal

-- one slice is written after the other, whatever stood there
two_written : (front rest left right : List ℕ) →
    take (length front + length rest) (take (length front) (front ++ left) ++ (rest ++ right)) ≡ front ++ rest
two_written front rest left right =
    ap (λ (t : List ℕ). take (length front + length rest) (t ++ (rest ++ right))) (take-append_seam front left)
    ∙ take-append-add front (rest ++ right) (length rest)
    ∙ ap (λ (t : List ℕ). front ++ t) (take-append_seam rest right)

pub returns : goal.returns
returns c =
    rw (c.of.ensures, c.copy_from_slice-2.ensures.after, c.copy_from_slice.ensures.after) (two_written _ _ _ _)
