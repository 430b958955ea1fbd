use Rattle.std.proofs.Common.{◌≡◌, ◌<◌, ◌≤◌, length, take, min, rules}
use Rattle.std.specs.Io.KnownBytes.{Consumes, IsAtEnd}
use Rattle.compact_core.specs.Openings.{OpeningState, due}
use Rattle.compact_core.proofs.Streamed.{plain_read, opening_read}
use Rattle.compact_core.proofs.unpacking.Unpacking.read_plain.Goals as goal

pub returns-then-due-eq0-clause-bytes : goal.returns-then-due-eq0-clause-bytes
returns-then-due-eq0-clause-bytes g c =
    let P = g.F.WireSummary.profile in
    let s : OpeningState = record { hello = c.self.inside.hello; unpacker = c.self.inside.unpacker } in
    let none : due s ≡ 0 = search rules in
    plain_read P g.R.Read.remaining c.args.self.now c.self.inside.reader s c.self.inside.piece.items c.self.inside.ready
    c.self.view_is (g.R.Read.remaining c.read.new.self) c.read.result c.read.new.buf c.requires c.self.invariant none
    c.read.ensures.bytes

pub returns-clause-bytes : goal.returns-clause-bytes
returns-clause-bytes g c =
    let P = g.F.WireSummary.profile in
    let s : OpeningState = record { hello = c.self.inside.hello; unpacker = c.self.inside.unpacker } in
    let left = g.R.Read.remaining in
    let n = c.in_ok-count.count in
    let m = c.min-most.result in
    let room = c.read-2.new.buf in
    let some : 0 < due s = search rules in
    let size : length room ≡ m = search rules in
    let most : m ≡ min (due s) (length c.args.buf.now) = search rules in
    let le : n ≤ length room = search rules in
    let read : Consumes (left c.self.inside.reader) (left c.read-2.new.self) (take n room)
    × (n ≡ 0 → 0 < length room → IsAtEnd (left c.read-2.new.self)) = search rules in
    opening_read P left c.args.self.now c.self.inside.reader s c.self.inside.piece.items c.self.inside.ready
    c.self.view_is c.hear.new.self (left c.read-2.new.self) n m room c.args.buf.now c.requires c.self.invariant some
    size most le c.hear.ensures read
