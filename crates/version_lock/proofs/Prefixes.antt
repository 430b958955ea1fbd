-- Beginnings of histories. What follows a beginning of a beginning is what follows both, and a filter passes through
-- `++`.
use Rattle.std.proofs.Common.{ℕ, ◌++◌, ap, ◌∙◌, append_assoc, ◌==◌}
use Rattle.std.proofs.lemmas.List.Elements.{filter-append}
use Rattle.definitions.specs.Histories.{History}
use Rattle.version_lock.specs.Beginnings.{Entry, StartsWith, entries_by}

pub starts_further : (h seen old : History) → StartsWith h seen → StartsWith seen old → StartsWith h old
starts_further h seen old s t = (t.0 ++ s.0, s.1 ∙ (ap (λ (x : History). x ++ s.0) t.1 ∙ append_assoc old t.0 s.0))

pub starts_by : (n : ℕ) (h seen : History) → StartsWith h seen → StartsWith (entries_by n h) (entries_by n seen)
starts_by n h seen s = (entries_by n s.0, ap (entries_by n) s.1 ∙ filter-append (λ (e : Entry). e.0 == n) seen s.0)
