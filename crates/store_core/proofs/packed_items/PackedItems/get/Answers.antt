use Rattle.std.proofs.Common.{arith, ◌≤◌, length, sym}
use Rattle.std.proofs.lemmas.Option.{slice_get_past}
use Rattle.store_core.proofs.packed_items.PackedItems.get.Goals as goal

pub returns : goal.returns
returns c =
    let xs = c.args.self.now in
    let past : length xs ≤ c.args.place = omega arith in
    sym (slice_get_past xs c.args.place past)
