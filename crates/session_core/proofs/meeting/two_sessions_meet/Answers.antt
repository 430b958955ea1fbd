use Rattle.session_core.proofs.Joined.{sessions_meet}
use Rattle.session_core.proofs.meeting.two_sessions_meet.Goals as goal

pub returns : goal.returns
returns g c = sessions_meet g.F.WireSummary.summary g.F.WireSummary.profile
    (c.two_sessions_meet.ensures g.F.WireSummary.summary g.F.WireSummary.profile) c.are_spelled.ensures
    c.ranks_are_read.ensures c.args.first.now c.args.second.now c.cap.ensures.checked c.cap-second.ensures.checked
