use Rattle.std.proofs.Common.{rules, ◌≡◌, length}
use Rattle.digest_core.proofs.Bytes.{halves_back}
use Rattle.digest_core.proofs.fingerprint.Fingerprint.from_bytes.Goals as goal

pub returns-clause-back : goal.returns-clause-back
returns-clause-back c =
    let len : length c.args.bytes ≡ 32 = search rules in
    let back =
    c.bytes_are_exact.ensures.bytes c.args.bytes ((c.reads_are_bytes.ensures c.args.bytes).1 (search rules)) len in
    halves_back c.args.bytes c.lane.result c.lane-2.result back len c.lane.ensures c.lane-2.ensures
