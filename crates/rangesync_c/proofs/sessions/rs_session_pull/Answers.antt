use Rattle.std.proofs.Common.{rules, length}
use Rattle.rangesync_c.proofs.Pulled.{pulled, all-pulled}
use Rattle.rangesync_c.proofs.sessions.rs_session_pull.Goals as goal

pub returns-clause-pulled : goal.returns-clause-pulled
returns-clause-pulled c = λ fine.
    let got = pulled c.args.session.now.value c.front_at.new.session.value c.take_at.new.session.value
    (length c.args.room.now) c.len-2.result c.deref.result.now c.copy_front.new.room (search rules) (search rules)
    (search rules) (search rules) in
    search (rules, got)

pub returns-clause-all : goal.returns-clause-all
returns-clause-all c = λ fine.
    let all = all-pulled c.args.session.now.value c.front_at.new.session.value (length c.args.room.now) c.len-2.result
    c.deref.result.now (search rules) (search rules) in
    search (rules, all)
