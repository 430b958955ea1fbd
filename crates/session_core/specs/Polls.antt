-- One way of a stream that never waits.
--     Poll T               a reader or a writer, and what its last call did
--     stopped_by kind      what a call did that gave this error
--     ReadsSo n last       what a read did that gave n bytes
--     WritesSo n last      what a write did that took n bytes
use Rattle.std.specs.Prelude.{◌≡◌, ℕ, ◌<◌}
use Rattle.std.specs.declared.io.ErrorKind.{ErrorKind}
use Rattle.std.specs.declared.io.ErrorKind.TheVariants as kinds
use Rattle.session_core.specs.declared.polled.Last.{Last}
use Rattle.session_core.specs.declared.polled.Last.TheVariants as lasts

pub record Poll (T : Type 0) : Type 0 where
  pub way : T
  pub last : Last

abbrev pub stopped_by : ErrorKind → Last
stopped_by kinds.WouldBlock = lasts.Waits
stopped_by kinds.Interrupted = lasts.Interrupted
stopped_by kind = lasts.Failed

abbrev pub ReadsSo : ℕ → Last → Type 0
ReadsSo n lasts.Unknown = ⊥
ReadsSo n lasts.Moved = 0 < n
ReadsSo n lasts.Waits = n ≡ 0
ReadsSo n lasts.Interrupted = n ≡ 0
ReadsSo n lasts.Ended = n ≡ 0
ReadsSo n lasts.Failed = n ≡ 0

abbrev pub WritesSo : ℕ → Last → Type 0
WritesSo n lasts.Unknown = ⊥
WritesSo n lasts.Moved = 0 < n
WritesSo n lasts.Waits = n ≡ 0
WritesSo n lasts.Interrupted = n ≡ 0
WritesSo n lasts.Ended = ⊥
WritesSo n lasts.Failed = n ≡ 0
