use Rattle.std.proofs.Common.{◌*◌, take, drop, ◌++◌, [], ◌∷◌, sym, ◌∙◌, arith}
use Rattle.std.proofs.lemmas.List.FromFn.{map-range_with_len_more}
use Rattle.definitions.specs.Wire.{mark_byte}
use Rattle.wire_core.proofs.marks.packed.Goals as goal

pub loop-index-preserved : goal.loop-index-preserved
loop-index-preserved c =
    c.in_ok-push.ensures.items ∙ (λ i. c.loop-index.invariant i ++ c.byte_at.ensures i ∷ [])
    ∙ sym (map-range_with_len_more
    (λ j. mark_byte (take 8 (drop (8 * j) c.args.marks.now))) 0 c.loop-index.index c.loop-index.index (omega arith))
