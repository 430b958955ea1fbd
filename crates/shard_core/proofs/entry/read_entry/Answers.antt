use Rattle.std.proofs.Common.{rules, ◌≡◌, ◌∙◌, ap}
use Rattle.std.proofs.lemmas.List.{take_rest}
use Rattle.definitions.specs.Wire.{lanes_read}
use Rattle.shard_core.specs.Directories.{count_in, lanes_in}
use Rattle.shard_core.proofs.Entries.{sum_with}
use Rattle.shard_core.proofs.entry.read_entry.Goals as goal

pub returns-clause-sum : goal.returns-clause-sum
returns-clause-sum c =
    let count : c.count-count.result ≡ count_in c.args.item.now = search rules in
    let lanes : c.read-fingerprint.result ≡ lanes_in c.args.item.now =
    c.read-fingerprint.ensures ∙ ap lanes_read (take_rest c.bytes-bytes.result.now 6)
    ∙ ap lanes_in c.bytes-bytes.ensures.bytes in
    λ i. sum_with (count i) (lanes i)
