use Rattle.std.proofs.Common.{◌≡◌, true, bytes_eq}
use Rattle.std.specs.Io.KnownBytes.{Keeps}
use Rattle.compact_core.specs.Unpackings.{unpacked_left}
use Rattle.compact_core.proofs.unpacking.Unpacking.read_frames.Given as goal

-- nothing that is still to come is lost
abbrev pub invariant-turns : goal.invariant-turns
invariant-turns g l = record {
  kept : Keeps (unpacked_left g.F.WireSummary.profile l.fn.self (g.R.Read.remaining l.fn.self.reader))
      (unpacked_left g.F.WireSummary.profile l.self (g.R.Read.remaining l.self.reader));
  hello : bytes_eq l.self.opening.hello g.F.WireSummary.profile.hello ≡ true;
}
