use Rattle.std.proofs.Common.{List, ℕ, length, ◌+◌, ◌^◌, ◌<◌}
use Rattle.io_core.specs.Keeping.{IsKept, MovesOn}
use Rattle.io_core.specs.Devices.{Stays}
use Rattle.io_core.proofs.file.LineFile.write.Given as goal

-- what was written so far, and that all still fits
abbrev pub invariant-turns : goal.invariant-turns
invariant-turns g l = record {
  kept : (base told : List ℕ) → IsKept g.D.Device.held base told l.initial.self
      → IsKept g.D.Device.held base told l.self;
  moves : MovesOn l.initial.self l.self;
  room : l.self.whole_length + length l.self.waiting < 2 ^ 64;
  stays : Stays (g.D.Device.refusals l.initial.self.device) (g.D.Device.refusals l.self.device);
}

abbrev pub decreases-turns : goal.decreases-turns
decreases-turns g l = length l.self.waiting
