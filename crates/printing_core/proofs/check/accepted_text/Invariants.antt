use Rattle.std.proofs.Common.{◌≡◌, ◌++◌, codes, string_bytes, take}
use Rattle.std.specs.Prelude.{flat_map}
use Rattle.printing_core.specs.Lines.{spaced}
use Rattle.printing_core.proofs.check.accepted_text.Given as goal

abbrev pub invariant-loop-step : goal.invariant-loop-step
invariant-loop-step l = string_bytes l.text ≡ codes "accepted\nsteps" ++ flat_map spaced (take l.step-index l.steps)
