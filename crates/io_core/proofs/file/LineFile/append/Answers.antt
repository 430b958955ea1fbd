use Rattle.std.proofs.Common.{subst, List, ℕ, ◌≡◌, ◌≤◌, ◌+◌, false, length, take, nat_lt, sym, ◌∙◌, ap}
use Rattle.std.specs.Io.KnownBytes.{append_known}
use Rattle.io_core.specs.Lines.{AreLines}
use Rattle.io_core.specs.Keeping.{IsKept}
use Rattle.io_core.proofs.Keeping.{at, added}
use Rattle.io_core.proofs.file.LineFile.append.Goals as goal

pub returns-clause-kept : goal.returns-clause-kept
returns-clause-kept g c =
    let held = g.D.Device.held in
    let few = c.lines_within-whole.result in
    let taken = c.in_ok-taken.taken in
    let n = c.self.inside.whole_length in
    let is_torn = c.self.inside.is_torn in
    let xs = c.self.inside.waiting.items in
    let clean : is_torn ≡ false = ap (λ f. f.is_torn) c.self.view_is ∙ c.requires.clean in
    let within : taken ≤ length xs
    = subst (λ (l : List ℕ). taken ≤ length l) c.deref.ensures.value c.in_ok-taken.ensures.bound in
    let more : held c.append.new.self ≡ append_known (held c.self.inside.device) (take taken xs)
    = subst (λ (l : List ℕ). held c.append.new.self ≡ append_known (held c.self.inside.device) (take taken l))
    c.deref.ensures.value c.in_ok-taken.ensures.bytes in
    let lines : AreLines (take few xs)
    = subst (λ (l : List ℕ). AreLines (take few l)) c.deref-2.ensures.value c.lines_within-whole.ensures.lines in
    subst (λ f. (base told : List ℕ) → IsKept held base told f
    → IsKept held base told (at c.append.new.self (n + few) (nat_lt few taken) c.give_up.new.waiting.items))
    c.self.view_is (subst (λ (ys : List ℕ). (base told : List ℕ)
    → IsKept held base told (at c.self.inside.device n is_torn xs)
    → IsKept held base told (at c.append.new.self (n + few) (nat_lt few taken) ys)) (sym c.give_up.ensures)
    (added held c.self.inside.device c.append.new.self n is_torn xs taken few clean within
    c.lines_within-whole.ensures.within lines more))
