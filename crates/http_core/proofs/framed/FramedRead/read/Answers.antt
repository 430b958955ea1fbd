-- Until a read gives a byte of the stream, all of it is still to come.
use Rattle.std.proofs.Common.{rules}
use Rattle.http_core.proofs.Streamed.{same, keeps_on, reads_on, nothing_read}
use Rattle.http_core.proofs.framed.FramedRead.read.Goals as goal

pub loop-turn-init : goal.loop-turn-init
loop-turn-init g c = search (rules, same)

pub returns-in_err-read_once-clause-bytes : goal.returns-in_err-read_once-clause-bytes
returns-in_err-read_once-clause-bytes g c = search (rules, keeps_on)

pub returns-in-None-clause-bytes : goal.returns-in-None-clause-bytes
returns-in-None-clause-bytes g c = search (rules, keeps_on)

pub returns-in-Some-clause-bytes : goal.returns-in-Some-clause-bytes
returns-in-Some-clause-bytes g c = search (rules, reads_on)

pub loop-turn-preserved : goal.loop-turn-preserved
loop-turn-preserved g c = search (rules, keeps_on, nothing_read)

pub returns-clause-bytes : goal.returns-clause-bytes
returns-clause-bytes g c = search (rules)
