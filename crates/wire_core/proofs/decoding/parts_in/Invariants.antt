use Rattle.std.proofs.Common.{◌≡◌, ◌≤◌, ◌+◌, ◌-◌, length}
use Rattle.definitions.specs.Wire.{max_parts}
use Rattle.definitions.specs.Streams.{message_in, message_from}
use Rattle.wire_core.proofs.Messages.{with_parts}
use Rattle.wire_core.proofs.decoding.parts_in.Given as goal

-- the parts so far, and those that are still to be read, are all
abbrev pub invariant-frames : goal.invariant-frames
invariant-frames g l = record {
  so_far : with_parts l.parts.items
      (message_from g.F.WireSummary.profile (length l.bytes + 1 - length l.parts.items) (length l.parts.items) l.rest)
      ≡ message_in g.F.WireSummary.profile l.bytes;
  few : length l.parts.items ≤ max_parts;
  left : length l.rest + length l.parts.items ≤ length l.bytes;
}

abbrev pub decreases-frames : goal.decreases-frames
decreases-frames g l = length l.rest
