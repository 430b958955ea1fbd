use Rattle.std.proofs.Common.{subst, List, ℕ, ◌≤◌, false, arith}
use Rattle.io_core.specs.Keeping.{IsKept}
use Rattle.io_core.proofs.Keeping.{at, cut_off, cut_some}
use Rattle.io_core.proofs.file.LineFile.heal.Goals as goal

pub returns-in_err-cut-clause-kept : goal.returns-in_err-cut-clause-kept
returns-in_err-cut-clause-kept g c =
    let some = c.in_err-cut.ensures.bytes in
    let far : c.self.inside.whole_length ≤ some.0 = let cut = some.1 in omega arith in
    subst (λ f. (base told : List ℕ) → IsKept g.D.Device.held base told f → IsKept g.D.Device.held base told
    (at c.cut.new.self c.self.inside.whole_length c.self.inside.is_torn c.self.inside.waiting.items)) c.self.view_is
    (cut_some g.D.Device.held c.self.inside.device c.cut.new.self c.self.inside.whole_length c.self.inside.is_torn
    c.self.inside.waiting.items some.0 far some.2)

pub returns-in_ok-cut-clause-kept : goal.returns-in_ok-cut-clause-kept
returns-in_ok-cut-clause-kept g c =
    subst (λ f. (base told : List ℕ) → IsKept g.D.Device.held base told f → IsKept g.D.Device.held base told
    (at c.cut.new.self c.self.inside.whole_length false c.self.inside.waiting.items)) c.self.view_is
    (cut_off g.D.Device.held c.self.inside.device c.cut.new.self c.self.inside.whole_length c.self.inside.is_torn
    c.self.inside.waiting.items c.in_ok-cut.ensures.bytes)
