use Rattle.std.proofs.Common.{rules, take}
use Rattle.std.specs.Io.KnownBytes.{Appends}
use Rattle.compact_core.proofs.Written.{taken_moved}
use Rattle.compact_core.proofs.stream_packing.write_once.Goals as goal

pub returns-clause-held : goal.returns-clause-held
returns-clause-held g c =
    let a = g.W.Write.contents c.args.writer.now in
    let b = g.W.Write.contents c.write.new.self in
    let taken : Appends a b (take c.in_ok-count.count c.args.pending.now) = search rules in
    rw c.skip.ensures (taken_moved a b c.args.pending.now c.in_ok-count.count taken)
