-- A log's set has room: a history's set has no more items than the history has entries, and these are no more than the
-- cap.
use Rattle.std.proofs.Common.{◌≡◌, ℕ, ◌≤◌, [], length, arith}
use Rattle.definitions.specs.Items.{Item}
use Rattle.definitions.specs.Histories.{content, items_of}
use Rattle.definitions.proofs.Counts.{union_few}
use Rattle.definitions.proofs.Lemmas.{length-map}
use Rattle.version_log.specs.Logs.{LogState, IsLog}

pub content_fits : (l : LogState) (cap : ℕ) → IsLog l → cap ≡ l.cap → length (content l.history) ≤ cap
content_fits l cap good same =
    let fits = good.fits in
    omega (arith, union_few [] (items_of l.history), length-map l.history (λ (e : ℕ × Item). e.1))
