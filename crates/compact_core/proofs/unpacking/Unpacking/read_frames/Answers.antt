use Rattle.std.proofs.Common.{◌≡◌, [], rules}
use Rattle.compact_core.specs.Unpackings.{unpacked_left}
use Rattle.compact_core.proofs.Streamed.{frames_read}
use Rattle.compact_core.proofs.unpacking.Unpacking.read_frames.Goals as goal

pub returns-then-not-is_empty-clause-bytes : goal.returns-then-not-is_empty-clause-bytes
returns-then-not-is_empty-clause-bytes g c =
    let P = g.F.WireSummary.profile in
    let left = g.R.Read.remaining in
    let some : c.turns.self.ready ≡ [] → ⊥ = search rules in
    frames_read P left (unpacked_left P c.args.self.now (left c.args.self.now.reader)) c.turns.self c.give.new.self
    c.give.result c.turns.buf c.give.new.buf c.turns.invariant.kept some c.give.ensures.few c.give.ensures.given
    c.give.ensures.room c.give.ensures.left
