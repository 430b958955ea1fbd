use Rattle.std.proofs.Common.{rules, ◌≡◌, take, ap, ◌∙◌}
use Rattle.std.specs.Int.{w32, from_be_bytes}
use Rattle.std.proofs.lemmas.List.{take_rest}
use Rattle.definitions.specs.Wire.{lanes_read}
use Rattle.digest_core.proofs.counted.CountedWireSummary.read.Goals as goal

pub returns : goal.returns
returns c =
    let count : c.number.result ≡ from_be_bytes w32 (take 4 c.args.bytes.now) = search rules in
    let lanes = c.read.ensures ∙ ap lanes_read (take_rest c.args.bytes.now 4) in
    λ i. record { count = count i; lanes = lanes i }
