use Rattle.std.proofs.Common.{◌≡◌, length, rules}
use Rattle.std.proofs.lemmas.List.{nil_from_length}
use Rattle.io_core.proofs.Keeping.{moves_more, all_held}
use Rattle.io_core.proofs.file.LineFile.write.Goals as goal

pub returns-in_err-write_once-clause-moves : goal.returns-in_err-write_once-clause-moves
returns-in_err-write_once-clause-moves g c =
    moves_more c.args.self.now c.turns.self c.write_once.new.self c.turns.invariant.moves c.write_once.ensures.moves

pub returns-clause-whole : goal.returns-clause-whole
returns-clause-whole g c = λ base told kept.
    let none : length c.turns.self.waiting ≡ 0 = search rules in
    all_held g.D.Device.held base told c.turns.self (nil_from_length c.turns.self.waiting none)
    (c.turns.invariant.kept base told kept)
