use Rattle.std.proofs.Common.{◌≡◌, ◌≤◌, ◌++◌, length, take, drop}
use Rattle.http_core.specs.Frames.{run}
use Rattle.http_core.proofs.frames.Frames.unframe.Given as goal

-- what was said, and what the rest will say, is all
abbrev pub invariant-loop-at : goal.invariant-loop-at
invariant-loop-at l = record {
  few : l.kept ≤ l.at;
  room : length l.bytes ≡ length l.fn.bytes;
  rest : drop l.at l.bytes ≡ drop l.at l.fn.bytes;
  state : (run l.self (drop l.at l.fn.bytes)).0 ≡ (run l.fn.self l.fn.bytes).0;
  said : take l.kept l.bytes ++ (run l.self (drop l.at l.fn.bytes)).1 ≡ (run l.fn.self l.fn.bytes).1;
}
