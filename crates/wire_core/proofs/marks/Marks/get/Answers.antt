use Rattle.std.proofs.Common.{◌≡◌, ◌<◌, ◌≤◌, length, false, Some, sym, ap, ◌∙◌, arith, nat_eq, ◌/◌, ◌%◌, ◌^◌}
use Rattle.std.proofs.Common.{slice_index}
use Rattle.std.specs.Prelude.{slice_get}
use Rattle.std.proofs.lemmas.Option.{slice_get_past, slice_get-get_or}
use Rattle.std.proofs.lemmas.List.FromFn.{length-map-range_with_len, get_or-map-range_with_len}
use Rattle.std.proofs.lemmas.Grind.{get_or_default_zero}
use Rattle.definitions.specs.Reading.{mark_in, marks_in}
use Rattle.wire_core.proofs.marks.Marks.get.Goals as goal

pub returns-then-index-self : goal.returns-then-index-self
returns-then-index-self c =
    let bytes = c.self.inside.bytes.items in
    let count = c.self.inside.count in
    let past : length (marks_in count bytes) ≤ c.args.index =
    omega (arith, length-map-range_with_len (mark_in bytes) 0 count) in
    sym (slice_get_past (marks_in count bytes) c.args.index past) ∙ ap (λ ms. slice_get ms c.args.index) c.self.view_is

pub returns : goal.returns
returns c =
    let bytes = c.self.inside.bytes.items in
    let count = c.self.inside.count in
    let here : c.args.index < length (marks_in count bytes) =
    omega (arith, length-map-range_with_len (mark_in bytes) 0 count) in
    let read =
    get_or-map-range_with_len (mark_in bytes) 0 count c.args.index c.args.index false (omega arith) (omega arith) in
    let byte : c.index.result.now ≡ slice_index c.self.inside.bytes.items (c.args.index / 8) =
    c.index.ensures ∙ get_or_default_zero c.self.inside.bytes.items (c.args.index / 8) c.index.result.now
    (let size = c.self.invariant.size in omega arith) in
    ap (λ b. Some (nat_eq (b / 2 ^ (c.args.index % 8) % 2) 1)) byte
    ∙ sym (slice_get-get_or (marks_in count bytes) c.args.index false here ∙ ap (λ m. Some m) read)
    ∙ ap (λ ms. slice_get ms c.args.index) c.self.view_is
