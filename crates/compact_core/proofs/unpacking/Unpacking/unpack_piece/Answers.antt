use Rattle.std.proofs.Common.{◌≡◌, [], rules}
use Rattle.compact_core.specs.Unpacking.{frames_after}
use Rattle.compact_core.specs.Openings.{OpeningState}
use Rattle.compact_core.proofs.Streamed.{piece_unpacked}
use Rattle.compact_core.proofs.unpacking.Unpacking.unpack_piece.Goals as goal

pub returns-in-Ok-clause-bytes : goal.returns-in-Ok-clause-bytes
returns-in-Ok-clause-bytes g c =
    let P = g.F.WireSummary.profile in
    let s : OpeningState = record { hello = c.self.inside.hello; unpacker = c.self.inside.unpacker } in
    let piece = c.self.inside.piece.items in
    let said = c.deref.result.now in
    let whole : said ≡ piece = search rules in
    let gone : c.new.result.items ≡ [] = search rules in
    let fresh : c.of.result ≡ frames_after P s.unpacker said = search rules in
    piece_unpacked P g.R.Read.remaining c.args.self.now c.self.inside.reader s piece c.self.inside.ready c.self.view_is
    g.met.F.WireSummary.real.hello c.push.new.self c.of.result said c.new.result.items c.requires whole gone
    c.in-Ok.ensures.joined fresh
