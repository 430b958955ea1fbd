use Rattle.std.proofs.Common.{◌≡◌, true, take}
use Rattle.loading.specs.Rewriting.{lines_of}
use Rattle.server.proofs.Kept.{Tells}
use Rattle.server.proofs.book.Book.put_each.Given as goal

-- those before this one are told, as far as it is known
abbrev pub invariant-loop-item : goal.invariant-loop-item
invariant-loop-item g l =
    l.are_told ≡ true →
    Tells g.D.Device.held (lines_of l.wanted.form (take l.item-index l.wanted.items.now.items)) l.fn.self.lines
    l.self.lines
