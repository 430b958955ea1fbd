use Rattle.std.proofs.Common.{◌≡◌}
use Rattle.server.proofs.ledger.Ledger.keep.Given as goal

-- the file that keeps the set is as it was
abbrev pub invariant-loop-item : goal.invariant-loop-item
invariant-loop-item g l = l.self.books.keep ≡ l.fn.self.books.keep
