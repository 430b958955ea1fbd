use Rattle.std.proofs.Common.{◌≡◌, length, sym, ap, ◌∙◌, arith}
use Rattle.std.proofs.lemmas.List.FromFn.{length-map-range_with_len}
use Rattle.definitions.specs.Reading.{mark_in}
use Rattle.wire_core.proofs.marks.Marks.len.Goals as goal

pub returns-clause-length : goal.returns-clause-length
returns-clause-length c =
    sym (length-map-range_with_len (mark_in c.self.inside.bytes.items) 0 c.self.inside.count) ∙ ap length c.self.view_is

pub returns-clause-few : goal.returns-clause-few
returns-clause-few c =
    let same : c.self.inside.count ≡ length c.args.self.now =
    sym (length-map-range_with_len (mark_in c.self.inside.bytes.items) 0 c.self.inside.count)
    ∙ ap length c.self.view_is in
    let few = c.self.invariant.few in
    omega arith
