use Rattle.std.specs.Prelude.{vec_items}
use Rattle.peer_threads.proofs.InboxSteps.{skipped}
use Rattle.peer_threads.proofs.piece.Piece.skip.Goals as goal

pub returns : goal.returns
returns c =
    let inside = c.self.inside in
    skipped inside.from c.args.taken inside.end (vec_items inside.room) c.args.self.now c.self.view_is c.requires
