use Rattle.std.proofs.Common.{◌≡◌, ◌++◌, List, ℕ, rules, Ok}
use Rattle.std.specs.Prelude.{OnOk}
use Rattle.definitions.specs.Items.{IsBytes}
use Rattle.laws.specs.Compact.{IsFrom}
use Rattle.compact_core.proofs.Joined.{joined_by, rests_by}
use Rattle.compact_core.proofs.unpacker.Unpacker.push.Goals as goal

pub returns-clause-joined : goal.returns-clause-joined
returns-clause-joined g c =
    let P = g.F.WireSummary.profile in
    let adds = c.pieces_add.ensures P g.met.F.WireSummary.real in
    let exact = c.unpacking_is_exact.ensures P g.met.F.WireSummary.real in
    let kept : IsBytes c.args.self.now.kept = search (rules, c.are_bytes.ensures) in
    let from : IsFrom c.args.self.now.to = search (rules, c.is_from.ensures) in
    joined_by P adds exact c.args.self.now c.push_piece.new.self c.args.piece.now c.push_piece.result from kept
    c.are_bytes-2.ensures c.push_piece.ensures.state

pub returns-clause-rests : goal.returns-clause-rests
returns-clause-rests g c =
    let P = g.F.WireSummary.profile in
    let adds = c.pieces_add.ensures P g.met.F.WireSummary.real in
    let exact = c.unpacking_is_exact.ensures P g.met.F.WireSummary.real in
    let kept : IsBytes c.args.self.now.kept = search (rules, c.are_bytes.ensures) in
    let from : IsFrom c.args.self.now.to = search (rules, c.is_from.ensures) in
    rests_by P adds exact c.args.self.now c.push_piece.new.self c.args.piece.now c.push_piece.result from kept
    c.are_bytes-2.ensures c.push_piece.ensures.state
