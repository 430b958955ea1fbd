use Rattle.std.proofs.Common.{rules, ◌≡◌, ◌^◌, ◌/◌, ◌%◌}
use Rattle.std.specs.Int.{w64, to_be_bytes}
use Rattle.digest_core.proofs.Bytes.{halves_text}
use Rattle.digest_core.proofs.fingerprint.lane_bytes.Goals as goal

pub returns : goal.returns
returns c =
    let front : c.copy_from_slice.new.self ≡ to_be_bytes w64 (c.args.lane / 2 ^ 64) = search rules in
    let back : c.copy_from_slice-2.new.self ≡ to_be_bytes w64 (c.args.lane % 2 ^ 64) = search rules in
    rw (front, back) (halves_text c.args.lane)
