use Rattle.std.proofs.Common.{◌≡◌, string_bytes}
use Rattle.std.specs.Prelude.{flat_map}
use Rattle.std.specs.List.{range_with_len}
use Rattle.definitions.specs.Fingerprints.{two_lanes}
use Rattle.definitions.specs.Worlds.{report}
use Rattle.sim_core.specs.Reports.{shown}
use Rattle.sim_core.proofs.reports.reports_text.Given as goal

abbrev pub invariant-loop-session : goal.invariant-loop-session
invariant-loop-session l =
    string_bytes l.text ≡ flat_map (λ k. shown k (report two_lanes l.world k)) (range_with_len 0 l.session)
