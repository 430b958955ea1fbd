use Rattle.std.proofs.Common.{sym, ◌∙◌}
use Rattle.std.specs.Prelude.{bytes_eq}
use Rattle.wire_core.proofs.Same.{same_bytes}
use Rattle.wire_core.proofs.marks.MarksPartialEq.eq.Goals as goal

pub returns-then-len : goal.returns-then-len
returns-then-len c =
    c.eq.ensures ∙ (λ i. bytes_eq (c.bytes.ensures.bytes i) (c.bytes-then-len.ensures.bytes i))
    ∙ same_bytes c.marks_come_back.ensures c.args.self.now c.args.other.now
    (sym c.len.ensures.length ∙ c.if-len.true ∙ c.len-2.ensures.length)
