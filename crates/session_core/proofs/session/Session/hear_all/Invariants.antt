use Rattle.std.proofs.Common.{◌≡◌, ◌≤◌, ◌-◌, false, length, take}
use Rattle.session_core.specs.Sessions.{Pushes, is_open}
use Rattle.session_core.proofs.session.Session.hear_all.Given as goal

abbrev pub invariant-loop-taken : goal.invariant-loop-taken
invariant-loop-taken g l = record {
  some : l.taken ≤ length l.piece;
  pushes : Pushes g.F.WireSummary.summary g.F.WireSummary.profile l.initial.self (take l.taken l.piece) l.self;
  over : l.self.over ≡ l.initial.self.over;
  none : l.taken ≡ 0 → l.self ≡ l.initial.self;
  after : is_open l.initial.self.talk.state ≡ false → l.taken ≡ 0;
}

abbrev pub decreases-loop-taken : goal.decreases-loop-taken
decreases-loop-taken g l = length l.piece - l.taken
